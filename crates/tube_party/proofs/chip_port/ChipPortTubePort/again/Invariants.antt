use Rattle.std.proofs.Common.{◌-◌, ◌≡◌, ◌+◌, ◌*◌, ◌≤◌}
use Rattle.tube_party.specs.CodePassing.{chip_port_state, IsPassed}
use Rattle.tube_party.specs.Transitions.{IsAnsweredAgain}
use Rattle.tube_party.proofs.chip_port.ChipPortTubePort.again.Given as goal

abbrev pub invariant-loop-times : goal.invariant-loop-times
invariant-loop-times l = record {
  again : IsAnsweredAgain IsPassed l.op l.byte l.period l.times (chip_port_state l.fn.self) l.fn.tick.0 (chip_port_state l.self);
  at : l.at ≡ l.fn.tick.0 + l.period * l.times + l.period;
  chip : l.self.chip ≡ l.fn.self.chip;
  turn : l.self.turn ≡ l.fn.self.turn;
  few : l.times ≤ l.most;
}

abbrev pub decreases-loop-times : goal.decreases-loop-times
decreases-loop-times l = l.most - l.times
