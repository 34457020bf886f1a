use Rattle.std.proofs.Common.{◌≡◌, ◌≤◌, ◌+◌, ◌-◌, ◌*◌, ◌/◌, vec_len, vec_capacity}
use Rattle.sn76489.specs.Samples.{samples}
use Rattle.sn76489.proofs.Playing.{IsBefore}
use Rattle.sn76489.proofs.samples.render.Given as goal

abbrev pub invariant-loop-clock : goal.invariant-loop-clock
invariant-loop-clock l = record {
  chip : IsBefore l.writes l.clock l.left l.sound;
  items : l.list.items ≡ samples l.writes (4 * l.clock);
  size : vec_len l.list ≡ (l.clock + 7) / 8;
  room : (l.steps + 31) / 32 ≤ vec_capacity l.list;
  few : l.clock ≤ l.clocks;
}

abbrev pub decreases-loop-clock : goal.decreases-loop-clock
decreases-loop-clock l = l.clocks - l.clock
