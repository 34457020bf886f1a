use Rattle.law_chips.proofs.BeamWalk.{microseconds_are_clocks}
use Rattle.law_chips.proofs.pictures.microseconds_are_clocks.Goals as goal

pub returns : goal.returns
returns c = microseconds_are_clocks
