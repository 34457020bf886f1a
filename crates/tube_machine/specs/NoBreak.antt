-- If no break is pending, a step is an access or a look.
use Rattle.std.specs.Prelude.{◌≡◌, ◌+◌, ◌&&◌, ◌||◌, Bool, false, is_none, Option, if◌then◌else◌}
use Rattle.std.proofs.Common.{ap}
use Rattle.op_table.specs.declared.names.Part.{Part}
use Rattle.cpu_core.specs.Sequences.{next_cycle, halted}
use Rattle.tube_chip.specs.declared.Answer.{Answer}
use Rattle.tube_machine.specs.BusModel.{BusModel}
use Rattle.tube_machine.specs.Step.{At, is_last_tick, is_break, after_break, asks, asks_by, asks_reset, after_step, closed_to, next_state}

module _ (part : Part) {B : Type 0} (w : BusModel B) where
  -- A step at whose tick no break is pending is an access or a look.
  pub no-break : (s : At B) → w.pending s.bus s.due ≡ false → is_break part w s ≡ false
  no-break s none = ap (λ (p : Bool). p && (is_none (next_cycle part s.cpu) || (halted part s.cpu && is_last_tick (w.cycle s.bus) s.due))) none

  pub plain-asks : (s : At B) → is_break part w s ≡ false → asks part w s ≡ asks_by w s.bus (next_cycle part s.cpu)
  plain-asks s none = ap (λ (p : Bool). if p then asks_reset w s.bus else asks_by w s.bus (next_cycle part s.cpu)) none

  pub plain-next : (s : At B) (a : Option Answer) → is_break part w s ≡ false → next_state part w s a ≡ after_step part w (next_cycle part s.cpu) (closed_to w s (s.due + 1)) a
  plain-next s a none = ap (λ (p : Bool). if p then after_break part w (closed_to w s (s.due + 1)) else after_step part w (next_cycle part s.cpu) (closed_to w s (s.due + 1)) a) none
