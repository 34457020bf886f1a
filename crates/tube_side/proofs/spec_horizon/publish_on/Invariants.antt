use Rattle.tube_side.proofs.spec_horizon.publish_on.Given as goal

abbrev pub ghosts-publish_observed : goal.ghosts-publish_observed
ghosts-publish_observed g a = record { events = g.W.GhostSpeculation.speculation.until a.t.0 }
