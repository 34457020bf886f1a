use Rattle.std.proofs.Common.{◌-◌, ◌≡◌, ◌+◌, ◌*◌, ◌≤◌}
use Rattle.session.specs.CodePort.{shown, IsRead}
use Rattle.tube_party.specs.Transitions.{IsAnsweredAgain}
use Rattle.session.proofs.port.StatusPortTubePort.again.Given as goal

abbrev pub invariant-loop-times : goal.invariant-loop-times
invariant-loop-times l = record {
  again : IsAnsweredAgain IsRead l.op l.byte l.period l.times (shown l.fn.self) l.fn.tick.0 (shown l.self);
  at : l.at ≡ l.fn.tick.0 + l.period * l.times + l.period;
  status : l.self.status ≡ l.fn.self.status;
  few : l.times ≤ l.most;
}

abbrev pub decreases-loop-times : goal.decreases-loop-times
decreases-loop-times l = l.most - l.times
