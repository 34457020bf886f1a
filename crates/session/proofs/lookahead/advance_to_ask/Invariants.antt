use Rattle.session.specs.CodeSight.{readings_seen, observed_events}
use Rattle.session.proofs.lookahead.advance_to_ask.Given as goal

abbrev pub ghosts-see_next : goal.ghosts-see_next
ghosts-see_next g a = record {
  events = observed_events g.M.Party.transitions a.pass.now.side (readings_seen a._readings.now) a.end.0 a.end.0 (g.M.Party.state a._machine.now);
}
