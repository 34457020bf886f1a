use Rattle.std.proofs.Common.{rules, ◌≡◌, true}
use Rattle.cpu_whole.proofs.Forms.{jumped_through}
use Rattle.cpu_whole.proofs.alone.jump_through.Goals as goal

pub returns-in-Nmos-clause-done : goal.returns-in-Nmos-clause-done
returns-in-Nmos-clause-done g c =
    λ t some.
    let yes : c.reads.result ≡ true = search rules in
    let yes2 : c.reads-2.result ≡ true = search rules in
    jumped_through c.requires.runs c.args.part c.requires.row c.requires.uses c.requires.pointer
    (c.reads.ensures yes) (rw c.second-above.ensures at (c.reads-2.ensures yes2)) (rw c.in-Nmos.is) (rw (c.word-r.ensures, c.byte.ensures, c.byte-2.ensures, c.second-above.ensures))

pub returns-in-Cmos-clause-done : goal.returns-in-Cmos-clause-done
returns-in-Cmos-clause-done g c =
    λ t some.
    let yes : c.reads.result ≡ true = search rules in
    let yes2 : c.reads-2.result ≡ true = search rules in
    jumped_through c.requires.runs c.args.part c.requires.row c.requires.uses c.requires.pointer
    (c.reads.ensures yes) (rw c.second-above.ensures at (c.reads-2.ensures yes2)) (rw c.in-Cmos.is) (rw (c.word-r.ensures, c.byte.ensures, c.byte-2.ensures, c.second-above.ensures))
