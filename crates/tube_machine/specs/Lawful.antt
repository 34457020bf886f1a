-- A machine at the Tube is a party.
use Rattle.std.specs.Prelude.{ℕ, ◌≡◌, ◌≤◌, ◌<◌, ◌+◌, ◌-◌, ◌&&◌, ◌||◌, Bool, true, false, IsTrue, is_none, Option, None, Some, refl, if◌then◌else◌}
use Rattle.std.proofs.Common.{arith, ap, ◌∙◌}
use Rattle.op_table.specs.declared.names.Part.{Part}
use Rattle.beeb_bits.specs.declared.Side.{Side}
use Rattle.cpu_alu.specs.declared.Cycle.{Cycle}
use Rattle.cpu_core.specs.Sequences.{next_cycle, after_byte, halted}
use Rattle.tube_chip.specs.declared.Lines.{Lines}
use Rattle.tube_chip.specs.declared.Op.{Op}
use Rattle.tube_chip.specs.declared.Op.TheVariants as op
use Rattle.tube_chip.specs.declared.Answer.{Answer}
use Rattle.tube_chip.specs.Act.{access, MayDo}
use Rattle.tube_party.specs.Transitions.{IsLawful, IsPermitted, MayAsk}
use Rattle.tube_machine.specs.BusModel.{BusModel, IsWired}
use Rattle.tube_machine.specs.Step.{At, is_break, asks_by, asks_reset, byte_of, after_break, after_step, closed_to, lines_in, next_state, transitions_of}

later : (over : Bool) (t n : ℕ) → 1 < n → t < (if over then t + (n - 1) else t + n)
later over t n some = grind arith

module _ (part : Part) {B : Type 0} (w : BusModel B) (wired : IsWired w) where
  looks_by : (resets prst : Bool) (s held reset taken : At B) → s.due < held.due → s.due < reset.due → s.due < taken.due →
      s.due < (if resets then (if prst then held else reset) else taken).due
  looks_by resets prst s held reset taken a b c = grind arith

  rises : (c : Option Cycle) (s : At B) (a : Option Answer) → s.due < (after_step part w c s a).due
  rises None s a =
      let l : Lines = lines_in a in
      looks_by (w.resets s.bus l) l.prst s _ _ _ (omega (arith, wired.some s.bus)) (omega arith) (omega arith)
  rises (Some c) s a =
      let n : ℕ = w.takes s.bus s.due c in
      let some : 1 < n = omega (arith, wired.ticks s.bus s.due c, wired.some s.bus) in
      let breaks : Bool = w.pending s.bus (s.due + (n - 1)) && halted part s.cpu in
      later (breaks || is_none (next_cycle part (after_byte part s.cpu (byte_of w s.bus s.due a c)))) s.due n some

  -- with either kind of step
  rises_by : (breaks : Bool) (c : Option Cycle) (s : At B) (a : Option Answer) → s.due < (if breaks then after_break part w s else after_step part w c s a).due
  rises_by true c s a = omega arith
  rises_by false c s a = rises c s a

  -- closing a machine and then closing it further is closing it further at once
  pub again : (s : At B) (t u : ℕ) → t ≤ u → closed_to w (closed_to w s t) u ≡ closed_to w s u
  again s t u high = ap (λ (b : B). record s { bus = b }) (wired.again s.bus t u high)

  -- and does not change the next step
  pub break_closed : (s : At B) (t : ℕ) → is_break part w (closed_to w s t) ≡ is_break part w s
  break_closed s t = grind arith

  pub next_closed : (s : At B) (t : ℕ) (a : Option Answer) → t ≤ s.due + 1 → next_state part w (closed_to w s t) a ≡ next_state part w s a
  next_closed s t a high = grind arith

  -- what a step asks stays too
  pub asked_closed : (breaks : Bool) (c : Option Cycle) (b : B) (t : ℕ) →
      (if breaks then asks_reset w (w.close b t) else asks_by w (w.close b t) c) ≡ (if breaks then asks_reset w b else asks_by w b c)
  asked_closed breaks c b t = grind arith

  pub lawful : IsLawful (transitions_of part w)
  lawful = record {
    rises = λ s a. rises_by (is_break part w s) (next_cycle part s.cpu) (closed_to w s (s.due + 1)) a;
    within = λ s. omega arith;
    closing = λ s t low high. record {
      closed = omega (arith, low, high, wired.closed s.bus t);
      due = refl;
      asks = ap (λ (b : Bool). if b then asks_reset w (w.close s.bus t) else asks_by w (w.close s.bus t) (next_cycle part s.cpu)) (break_closed s t)
          ∙ asked_closed (is_break part w s) (next_cycle part s.cpu) s.bus t;
      next = λ a. next_closed s t a (omega (arith, high));
      again = λ u low2 high2. again s t u low2;
    };
  }

module _ {B : Type 0} (w : BusModel B) where
  permitted_by : (breaks : Bool) (side : Side) (b : B) (c : Option Cycle) → (breaks ≡ true → MayDo side op.Reset) → MayAsk side (if breaks then asks_reset w b else asks_by w b c)
  permitted_by breaks side b c may = grind arith

module _ (part : Part) {B : Type 0} (w : BusModel B) where
  -- A machine may play a side that may ask for the reset operation, or any side, if no break is
  -- ever pending.
  pub may_play : (plays : Side → Bool) → ((b : B) (t : ℕ) (side : Side) → IsTrue (plays side) → w.pending b t ≡ true → MayDo side op.Reset) → IsPermitted (transitions_of part w) plays
  may_play plays may s side plays_it = permitted_by w (is_break part w s) side s.bus (next_cycle part s.cpu) (λ breaks. may s.bus s.due side plays_it (pending_at (w.pending s.bus s.due) _ breaks))
    where
      pending_at : (p q : Bool) → (p && q) ≡ true → p ≡ true
      pending_at true q e = refl
      pending_at false q e = cc
