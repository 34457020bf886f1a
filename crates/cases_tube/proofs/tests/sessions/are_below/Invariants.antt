use Rattle.std.proofs.Common.{◌<◌, All, take}
use Rattle.cases_tube.proofs.tests.sessions.are_below.Given as goal

abbrev pub invariant-loop-entry : goal.invariant-loop-entry
invariant-loop-entry l = All (λ e. (e.tick).0 < l.at.0) (take l.entry-index l.entries)
