use Rattle.cpu_whole.proofs.Forms.{jumped}
use Rattle.cpu_whole.proofs.alone.jump_to.Goals as goal

pub returns-clause-done : goal.returns-clause-done
returns-clause-done g c =
    λ t.
    jumped c.requires.runs c.requires.row c.requires.uses c.requires.mode (rw (c.word-r.ensures, c.requires.first, c.requires.high))
