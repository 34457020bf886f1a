use Rattle.std.proofs.Common.{◌∙◌, sym}
use Rattle.cpu_whole.proofs.AtOperand.{read-last, for_loads}
use Rattle.cpu_whole.proofs.outside.read_last.Goals as goal

pub returns-clause-outside : goal.returns-clause-outside
returns-clause-outside g c =
    λ t some. read-last c.requires.runs.first c.requires.row c.requires.uses (sym c.adds.ensures ∙ c.if-adds.false) (for_loads (c.find-to.ensures.reached t some))
