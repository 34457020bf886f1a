-- An access to the Tube that was answered, and one that asked nothing.
use Rattle.std.proofs.Common.{◌≡◌, ◌∙◌, sym, ap, ℕ, ◌+◌, ◌-◌, ◌&&◌, Bool, true, false, Option, Some, None, MatchOption, refl, if◌then◌else◌, ◌%◌}
use Rattle.op_table.specs.declared.names.Part.{Part}
use Rattle.cpu_alu.specs.declared.Cycle.{Cycle}
use Rattle.cpu_alu.specs.declared.Cycle.TheVariants.{Read, Write}
use Rattle.cpu_core.specs.State as cpu
use Rattle.cpu_core.specs.Sequences.{next_cycle, after_byte, halted}
use Rattle.tube_chip.specs.declared.Answer.{Answer}
use Rattle.tube_chip.specs.declared.Answer.TheVariants.{Byte, Seen}
use Rattle.tube_chip.specs.declared.Lines.{Lines}
use Rattle.tube_machine.specs.BusModel.{BusModel, IsWired}
use Rattle.tube_machine.specs.Step.{At, at_of, is_break, asks, asks_by, asks_reset, byte_of, after_cycle, after_step, closed_to, next_state}
use Rattle.tube_machine.specs.Exchange.{IsAtTube, IsAskedByte, LeavesBus}
use Rattle.tube_machine.specs.NoBreak.{plain-asks, plain-next}
use Rattle.tube_chip.specs.declared.Op.{Op}
use Rattle.tube_chip.specs.declared.Op.TheVariants as op
use Rattle.tube_chip.specs.Act.{access}
use Rattle.tube_party.specs.Transitions.{FitsAnswer}

-- what a write shows does not depend on a byte
after_byte-write : (part : Part) (s : cpu.State) (at v byte : ℕ) → next_cycle part s ≡ Some (Write at v) → after_byte part s byte ≡ after_byte part s 0
after_byte-write part s at v byte e = rw e

asked-by : (b : Bool) (o : Op) → MatchOption (if b then Some (access o) else None) ⊥ (λ q. FitsAnswer q (Byte 0)) → b ≡ true
asked-by true o asked = refl
asked-by false o asked = absurd asked

-- lines are no answer to an access
none-seen : (b : Bool) (o : Op) (l : Lines) → MatchOption (if b then Some (access o) else None) ⊥ (λ q. FitsAnswer q (Seen l)) → ⊥
none-seen true o l asked = asked
none-seen false o l asked = asked

module _ (part : Part) {B : Type 0} (w : BusModel B) where
  over-by : (breaks : Bool) (b : B) (c : Option Cycle) (l : Lines) → MatchOption (if breaks then asks_reset w b else asks_by w b c) ⊥ (λ q. FitsAnswer q (Seen l)) → c ≡ None
  over-by true b c l asked = absurd (none-seen (w.has_tube b) op.Reset l asked)
  over-by false b None l asked = refl
  over-by false b (Some (Read at)) l asked = absurd (none-seen (w.has_tube b && w.is_tube at) (op.Read (at % 8)) l asked)
  over-by false b (Some (Write at v)) l asked = absurd (none-seen (w.has_tube b && w.is_tube at) (op.Write (at % 8) v) l asked)

  -- if lines are asked for, the sequence is over
  pub asked-over : (s : At B) (l : Lines) → MatchOption (asks part w s) ⊥ (λ q. FitsAnswer q (Seen l)) → next_cycle part s.cpu ≡ None
  asked-over s l asked = over-by (is_break part w s) s.bus (next_cycle part s.cpu) l asked

  pub at-tube : (b there : B) (c : Cycle) → w.has_tube there ≡ w.has_tube b → MatchOption (asks_by w b (Some c)) ⊥ (λ q. FitsAnswer q (Byte 0)) → IsAtTube w there c
  at-tube b there (Read at) same asked = rw same (asked-by (w.has_tube b && w.is_tube at) (op.Read (at % 8)) asked)
  at-tube b there (Write at v) same asked = rw same (asked-by (w.has_tube b && w.is_tube at) (op.Write (at % 8) v) asked)

  -- if a byte is asked for, the Tube answers it
  pub asked-at-tube : (wired : IsWired w) (s : At B) (c : Cycle) (t : ℕ) → next_cycle part s.cpu ≡ Some c → is_break part w s ≡ false
      → IsAskedByte part w s → IsAtTube w (w.close s.bus t) c
  asked-at-tube wired s c t is none asked =
      at-tube s.bus (w.close s.bus t) c (wired.tube_close s.bus t)
      (rw (plain-asks part w s none, is) at asked)

  given-shown : (s : cpu.State) (b : B) (t byte : ℕ) (c : Cycle) → next_cycle part s ≡ Some c → IsAtTube w b c
      → after_byte part s byte ≡ after_byte part s (byte_of w b t (Some (Byte byte)) c)
  given-shown s b t byte (Read at) is there = rw there
  given-shown s b t byte (Write at v) is there = after_byte-write part s at v byte is

  -- An access that is done: the bus after it, the byte that it showed and its ticks make the next
  -- state.
  pub accessed-next : (wired : IsWired w) (s : At B) (a : Option Answer) (c : Cycle) (b : B) (byte n : ℕ) → next_cycle part s.cpu ≡ Some c → is_break part w s ≡ false →
      after_byte part s.cpu byte ≡ after_byte part s.cpu (byte_of w (w.close s.bus (s.due + 1)) s.due a c) → b ≡ w.after (w.close s.bus (s.due + 1)) c
      → n ≡ w.takes (w.close s.bus (s.due + 1)) s.due c →
      after_cycle part w (at_of s.cpu b s.due) (w.pending b (s.due + (n - 1)) && halted part s.cpu) (after_byte part s.cpu byte) n ≡ next_state part w s a
  accessed-next wired s a c b byte n is none gave after ticks =
      rw (after, ticks, gave, wired.pending_after (w.close s.bus (s.due + 1)) c) (sym (plain-next part w s a none ∙ ap (λ (o : Option Cycle). after_step part w o (closed_to w s (s.due + 1)) a) is))

  pub taken : (wired : IsWired w) (s : At B) (c : Cycle) (b : B) (byte n : ℕ) → next_cycle part s.cpu ≡ Some c → is_break part w s ≡ false → IsAtTube w (w.close s.bus (s.due + 1)) c →
      b ≡ w.after (w.close s.bus (s.due + 1)) c → n ≡ w.cycle b → w.takes (w.close s.bus (s.due + 1)) s.due c ≡ w.cycle (w.close s.bus (s.due + 1)) →
      after_cycle part w (at_of s.cpu b s.due) (w.pending b (s.due + (n - 1)) && halted part s.cpu) (after_byte part s.cpu byte) n ≡ next_state part w s (Some (Byte byte))
  taken wired s c b byte n is none there after ticks fast =
      let x : At B = closed_to w s (s.due + 1) in
      accessed-next wired s (Some (Byte byte)) c b byte n is none (given-shown s.cpu x.bus s.due byte c is there) after (ticks ∙ ap w.cycle after ∙ wired.cycle_after x.bus c ∙ sym fast)

  -- and one that does not change the bus
  pub passed : (wired : IsWired w) (s : At B) (b : B) (byte n : ℕ) → is_break part w s ≡ false → LeavesBus part w s → b ≡ w.close s.bus (s.due + 1) → n ≡ w.cycle b →
      after_cycle part w (at_of s.cpu b s.due) (w.pending b (s.due + (n - 1)) && halted part s.cpu) (after_byte part s.cpu byte) n ≡ next_state part w s (Some (Byte byte))
  passed wired s b byte n none at closed ticks =
      let c : Cycle = at.cycle in
      let there : IsAtTube w (w.close s.bus (s.due + 1)) c =
      at-tube s.bus (w.close s.bus (s.due + 1)) c (wired.tube_close s.bus (s.due + 1)) (rw at.skip.asks tt) in
      taken wired s c b byte n at.next none there (closed ∙ sym (at.skip.leaves (s.due + 1))) ticks (at.skip.fast s.due (s.due + 1))
