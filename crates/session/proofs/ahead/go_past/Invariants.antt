use Rattle.session.specs.CodeSpecRun.{speculation_of, spec_start}
use Rattle.session.proofs.ahead.go_past.Given as goal

abbrev pub ghosts-go_ahead : goal.ghosts-go_ahead
ghosts-go_ahead g a = record { speculation = speculation_of g.M.Party.transitions a.n.0 (spec_start (g.M.Party.state a.half.now.machine) a.from.now) }
