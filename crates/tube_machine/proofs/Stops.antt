-- Where the machine stops, and how it continues from there.
use Rattle.std.proofs.Common.{◌≡◌, ◌∙◌, ◌&&◌, ◌||◌, refl, sym, ap, subst, ℕ, zero, suc, ◌+◌, ◌-◌, ◌*◌, ◌<◌, ◌≤◌, ◌⊎◌, max, min, length}
use Rattle.std.specs.Prelude.{nat_lt, not}
use Rattle.std.proofs.lemmas.Bool.{ltb-true, and_right}
use Rattle.std.proofs.Common.{Bool, true, false, is_none, Option, Some, None, IsSome, arith, if◌then◌else◌}
use Rattle.std.proofs.Math.Nat.{mul-le-mul_left, mul-zero}
use Rattle.op_table.specs.declared.names.Part.{Part}
use Rattle.op_table.specs.declared.names.Part.TheVariants.{Cmos}
use Rattle.cpu_alu.specs.declared.Cycle.{Cycle}
use Rattle.cpu_core.specs.State as cpu
use Rattle.cpu_core.specs.Sequences.{next_cycle, after_byte, halted}
use Rattle.tube_chip.specs.Act.{Query, access, look}
use Rattle.tube_chip.specs.declared.Op.{Op}
use Rattle.tube_chip.specs.declared.Op.TheVariants as op
use Rattle.tube_chip.specs.declared.Lines.{Lines}
use Rattle.tube_chip.specs.declared.Answer.{Answer}
use Rattle.tube_chip.specs.declared.Answer.TheVariants.{Seen}
use Rattle.tube_party.specs.Transitions.{Looks, PortRunToAsk, IsAsk, IsNotSafe, shown_lines}
use Rattle.tube_party.specs.Steps.{After}
use Rattle.tube_party.specs.declared.party.Ask.{Ask}
use Rattle.tube_machine.specs.BusModel.{BusModel, IsWired}
use Rattle.tube_machine.specs.Step.{At, is_break, after_break, asks, byte_of, after_step, closed_to, next_state, transitions_of}
use Rattle.tube_machine.specs.Lawful.{lawful}
use Rattle.tube_machine.specs.Exchange.{NoteBudget, HasSpent, IsSilent, IsBudgetExhausted, ready}
use Rattle.tube_machine.specs.NoBreak.{plain-next}
use Rattle.tube_machine.proofs.InProgress.{Came}
use Rattle.tube_machine.proofs.Spends.{seen-more}
use Rattle.tube_machine.proofs.Lengths.{few_seen}

pub silent-by : (breaks has : Bool) (o : Option Query) → has ≡ true → (if breaks then (if has then Some (access op.Reset) else None) else o) ≡ None → breaks ≡ false
silent-by breaks has o is asked = grind arith

ready-tail : (over : Bool) (t n : ℕ) → 1 < n → (if over then (if false || over then t + (n - 1) else t + n) + 1 else (if false || over then t + (n - 1) else t + n)) ≡ t + n
ready-tail true t n some = omega (arith, some)
ready-tail false t n some = refl

alone-parts : (low breaks has : Bool) → (low && breaks && not has) ≡ true → (low ≡ true) × ((breaks ≡ true) × (has ≡ false))
alone-parts true true false is = (refl, (refl, refl))
alone-parts _ _ _ is = cc

-- if no room is left, the run began with little of it
pub cramped : {counts : Type 0} {n safe_until : ℕ} {first last : NoteBudget} → HasSpent counts n safe_until first last → counts → last.room ≡ 0
    → last.seen < 16 → IsBudgetExhausted n safe_until first.due first.room
cramped {n = n} {safe_until} {first} {last} all is none few =
    let no_room : n * last.room ≡ 0 = ap (λ (k : ℕ). n * k) none ∙ mul-zero n in
    let some_seen : n * last.seen ≤ n * 15 = mul-le-mul_left n (omega (arith, few)) in
    omega (arith, all.room is, all.late is (max safe_until first.due) (omega arith) (omega arith), no_room, some_seen)

-- if a sequence is not over, fewer than sixteen cycles of it were seen
pub few : (part : Part) (c : cpu.State) → part ≡ Cmos → IsSome (next_cycle part c) → length c.seen < 16
few part c is on = few_seen c (some-of (next_cycle Cmos c) (subst (λ (p : Part). IsSome (next_cycle p c)) is on))
  where
    some-of : (o : Option Cycle) → IsSome o → is_none o ≡ false
    some-of (Some x) h = refl
    some-of None h = absurd (cc)

-- a break step below a tick, without a Tube, asks nothing
module _ (part : Part) {B : Type 0} (w : BusModel B) where
  pub breaks-alone : (s : At B) (n : ℕ) → (nat_lt s.due n && is_break part w s && not (w.has_tube s.bus)) ≡ true →
      (s.due < n) × ((new : At B) → new ≡ after_break part w (closed_to w s (s.due + 1)) → IsSilent part w s new)
  breaks-alone s n is =
      let parts = alone-parts (nat_lt s.due n) (is_break part w s) (w.has_tube s.bus) is in (
        ltb-true s.due n parts.0,
        λ new broken. (
          rw (parts.1.0, parts.1.1),
          broken ∙ sym (rw parts.1.0),
        ),
      )

module _ (part : Part) {B : Type 0} (w : BusModel B) (wired : IsWired w) where
  -- no step changes the length of a cycle
  step-cycle : (o : Option Cycle) (s : At B) (a : Option Answer) → w.cycle (after_step part w o s a).bus ≡ w.cycle s.bus
  step-cycle o s a = grind arith

  cycle-by : (breaks : Bool) (o : Option Cycle) (s : At B) (a : Option Answer) → w.cycle (if breaks then after_break part w s else after_step part w o s a).bus ≡ w.cycle s.bus
  cycle-by true o s a = wired.cycle_broken s.bus s.due
  cycle-by false o s a = step-cycle o s a

  pub next-cycle : (s : At B) (a : Option Answer) → w.cycle (next_state part w s a).bus ≡ w.cycle s.bus
  next-cycle s a = cycle-by (is_break part w s) (next_cycle part s.cpu) (closed_to w s (s.due + 1)) a ∙ wired.cycle_close s.bus (s.due + 1)

  module _ (n : ℕ) (lines : Lines) (safe_until : ℕ) where
    looks-cycle-by : (k : ℕ) (s last : At B) (o : Option Query) → ((u : At B) → Looks (transitions_of part w) n (shown_lines lines safe_until) k u last → w.cycle last.bus ≡ w.cycle u.bus)
        → After (transitions_of part w) n lines safe_until k s last o → w.cycle last.bus ≡ w.cycle s.bus
    looks-cycle-by k s last None on h = on (next_state part w s None) h ∙ next-cycle s None
    looks-cycle-by k s last (Some q) on h = on (next_state part w s (Some (Seen lines))) h.2 ∙ next-cycle s (Some (Seen lines))

    pub looks-cycle : (k : ℕ) (s last : At B) → Looks (transitions_of part w) n (shown_lines lines safe_until) k s last → w.cycle last.bus ≡ w.cycle s.bus
    looks-cycle zero s last h = ap (λ (x : At B). w.cycle x.bus) (sym h)
    looks-cycle (suc k) s last h = looks-cycle-by k s last (asks part w s) (λ u on. looks-cycle k u last on) h.1

    -- one more step that asks nothing
    pub more : (s new : At B) → s.due < n → IsSilent part w s new → Came part w n lines safe_until s new
    more s new low done = grind arith

    -- one more look, of any kind
    pub more-look : (s new : At B) → s.due < n → s.due < safe_until → is_break part w s ≡ false → next_cycle part s.cpu ≡ None → new ≡ next_state part w s (Some (Seen lines))
        → Came part w n lines safe_until s new
    more-look s new low early h over is = grind arith

    -- a look that is not below `safe_until`, or none below n
    not_safe-by : (last new : At B) (ask : Ask) → IsAsk (transitions_of part w) n last ask new → (is_break part w last ≡ true) ⊎ (min n safe_until ≤ last.due) → IsNotSafe safe_until ask
    not_safe-by last new ask is late = grind arith

    pub stops-at-look : {D : Type 0} {answers : D → ℕ → Op → ℕ → D → Type 0} {d : D} {last new : At B} {ask : Ask} →
        IsAsk (transitions_of part w) n last ask new → (is_break part w last ≡ true) ⊎ (min n safe_until ≤ last.due)
        → PortRunToAsk (transitions_of part w) answers n (shown_lines lines safe_until) last d ask new d
    stops-at-look {last = last} {new} {ask} is late = record { accesses = 0; last = last; port_run = (refl, (0, refl)); asked = is; not_safe = not_safe-by last new ask is late }

  -- the tick rises
  pub next-rises : (s : At B) {new : At B} (a : Option Answer) → new ≡ next_state part w s a → s.due < new.due
  next-rises s a is = subst (λ (x : At B). s.due < x.due) (sym is) ((lawful part w wired).rises s a)

  -- the cost of an access of one cycle, for any answer
  pub cost : (s new : At B) (a : Option Answer) → is_break part w s ≡ false → new ≡ next_state part w s a → IsSome (next_cycle part s.cpu) → part ≡ Cmos
      → ((b : B) (t : ℕ) (c : Cycle) → w.takes b t c ≡ w.cycle b) →
      (ready part new.cpu new.due ≡ s.due + w.cycle s.bus) × (length new.cpu.seen ≡ length s.cpu.seen + 1)
  cost s new a free goes some cmos even = by (next_cycle part s.cpu) refl some
    where
      by : (o : Option Cycle) → next_cycle part s.cpu ≡ o → IsSome o → (ready part new.cpu new.due ≡ s.due + w.cycle s.bus) × (length new.cpu.seen ≡ length s.cpu.seen + 1)
      by None is h = absurd (cc)
      by (Some c) is h =
          let x : At B = closed_to w s (s.due + 1) in
          let n : ℕ = w.takes x.bus s.due c in
          let byte : ℕ = byte_of w x.bus s.due a c in
          let on : cpu.State = after_byte part s.cpu byte in
          let over : Bool = is_none (next_cycle part on) in
          let step : new ≡ after_step part w (Some c) x a = goes ∙ plain-next part w s a free ∙ ap (λ (o : Option Cycle). after_step part w o x a) is in
          let n_is : n ≡ w.cycle s.bus = even x.bus s.due c ∙ wired.cycle_close s.bus (s.due + 1) in
          let runs : halted part s.cpu ≡ false = ap (λ (q : Part). halted q s.cpu) cmos in
          let q : Bool = w.pending x.bus (s.due + (n - 1)) in
          let none : (q && halted part s.cpu) ≡ false = and_right q (halted part s.cpu) runs in (
            rw (step, none) (ready-tail over s.due n (omega (arith, n_is, wired.some s.bus)) ∙ ap (λ (k : ℕ). s.due + k) n_is),
            seen-more part s.cpu new.cpu byte (ap (λ (y : At B). y.cpu) step) cmos,
          )
