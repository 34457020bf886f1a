use Rattle.cpu_whole.proofs.Operands.{absolute}
use Rattle.cpu_whole.proofs.ways.absolute.Goals as goal

pub returns-clause-reached : goal.returns-clause-reached
returns-clause-reached g c =
    λ t. rw (c.word.ensures, c.requires.first, c.byte.ensures, c.place.ensures)
    (absolute _ _ _ c.requires.runs)
