use Rattle.cpu_whole.proofs.AtOperand.{written-last, for_stores}
use Rattle.cpu_whole.proofs.outside.written_last.Goals as goal

pub returns-clause-outside : goal.returns-clause-outside
returns-clause-outside g c =
    λ t some. written-last c.requires.runs.first c.requires.row c.requires.uses (for_stores (c.find-to.ensures.reached t some)) c.stored.ensures
