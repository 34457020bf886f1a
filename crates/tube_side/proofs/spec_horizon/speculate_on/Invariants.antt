use Rattle.tube_side.specs.CodeSpecHorizon.{from_on}
use Rattle.tube_side.proofs.spec_horizon.speculate_on.Given as goal

abbrev pub ghosts-speculate_observed : goal.ghosts-speculate_observed
ghosts-speculate_observed g a = record { events = from_on a.pass.now.known.spec_horizon (g.W.GhostSpeculation.speculation.until a.t.0) }
