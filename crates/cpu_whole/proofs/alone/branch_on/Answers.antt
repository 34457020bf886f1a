use Rattle.std.proofs.Common.{rules, ◌≡◌, ◌/◌, true, false, eqb, arith}
use Rattle.std.proofs.lemmas.Bool.Decides.{nat_tests}
use Rattle.cpu_whole.proofs.Forms.{branch_taken}
use Rattle.cpu_whole.proofs.alone.branch_on.Goals as goal

pub returns-then-to-next-clause-done : goal.returns-then-to-next-clause-done
returns-then-to-next-clause-done g c =
    λ t some.
    let near : eqb (c.target-to.result / 256) (c.place-next.result / 256) ≡ true = grind (arith, nat_tests) in
    branch_taken c.requires.runs c.requires.row true c.requires.uses c.requires.taken
    (rw (c.target-to.ensures, c.requires.first, c.place-next.ensures) at near) (λ far. cc) (rw (c.target-to.ensures, c.requires.first))

pub returns-clause-done : goal.returns-clause-done
returns-clause-done g c =
    λ t some.
    let far : eqb (c.target-to.result / 256) (c.place-next.result / 256) ≡ false = grind (arith, nat_tests) in
    let yes : c.idles.result ≡ true = search rules in
    branch_taken c.requires.runs c.requires.row false c.requires.uses c.requires.taken
    (rw (c.target-to.ensures, c.requires.first, c.place-next.ensures) at far)
    (λ _. rw (c.target-to.ensures, c.requires.first, c.place-next.ensures) at (c.idles.ensures yes _ c.requires.runs.second)) (rw (c.target-to.ensures, c.requires.first))
