use Rattle.cpu_whole.proofs.Operands.{zero_page}
use Rattle.cpu_whole.proofs.ways.zero_page.Goals as goal

pub returns-clause-reached : goal.returns-clause-reached
returns-clause-reached g c =
    λ t. rw c.requires.first (zero_page _ _ _ c.requires.runs)
