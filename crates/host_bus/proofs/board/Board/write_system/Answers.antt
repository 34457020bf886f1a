use Rattle.std.proofs.Common.{◌∙◌, ap, ℕ}
use Rattle.std.specs.Int.{div_ceil}
use Rattle.sn76489.specs.declared.SoundWrite.{SoundWrite}
use Rattle.host_devices.proofs.Heard.{rounded-up, in-time-with}
use Rattle.host_bus.proofs.board.Board.write_system.Goals as goal

pub invariant_of-self : goal.invariant_of-self
invariant_of-self c =
    let b = c.self.inside in
    let valid = c.self.invariant in
    let write : SoundWrite = record { moment = c.div_ceil.result; byte = c.sound_data.result } in
    let now = c.div_ceil.ensures ∙ ap (λ (u : ℕ). div_ceil b.closed u) c.micro.ensures.value ∙ rounded-up b.clock b.closed in
    record {
      stored = valid.stored;
      played = valid.played;
      on_time = valid.on_time;
      next_break = valid.next_break;
      in_time = rw c.tell.ensures (in-time-with b.clock write now valid.in_time);
    }
