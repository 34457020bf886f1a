use Rattle.std.proofs.Common.{◌≡◌, ap}
use Rattle.cpu_whole.proofs.Forms.{pushed}
use Rattle.cpu_whole.proofs.RowBytes.{is_alone, of_alone}
use Rattle.cpu_whole.proofs.alone.push.Goals as goal

pub returns-clause-done : goal.returns-clause-done
returns-clause-done g c =
    λ some.
    let one : c.args.row.bytes ≡ 1 = of_alone c.args.part _ c.requires.row (ap is_alone c.requires.uses) (λ spare e. cc) in
    pushed c.requires.runs c.requires.row g.M.Plain.is_plain c.requires.uses
    (rw (c.put.ensures.put, c.stack-top.ensures, c.pushed.ensures)) (rw (c.move_stack.ensures, c.move_past.ensures, one))
