-- Steps of a run, with a port, one after another.
use Rattle.std.proofs.Common.{◌≡◌, ◌∙◌, refl, ap, ℕ, zero, suc, ◌+◌, ◌<◌, ◌≤◌, inl, inr, length, Bool, false, true, Option, Some, None, IsSome, Ok, Err}
use Rattle.op_table.specs.declared.names.Part.{Part}
use Rattle.op_table.specs.declared.names.Part.TheVariants.{Cmos}
use Rattle.cpu_alu.specs.declared.Cycle.{Cycle}
use Rattle.cpu_core.specs.Sequences.{next_cycle}
use Rattle.tube_chip.specs.declared.Answer.{Answer}
use Rattle.tube_chip.specs.declared.Answer.TheVariants.{Byte}
use Rattle.tube_chip.specs.declared.Lines.{Lines}
use Rattle.tube_chip.specs.declared.Op.{Op}
use Rattle.tube_party.specs.declared.party.Ask.{Ask}
use Rattle.tube_party.specs.declared.party.Ask.TheVariants as asks
use Rattle.tube_party.specs.Transitions.{Transitions, Shown, Looks, PortRun, PortRunToAsk, IsAnswered, shown_lines}
use Rattle.tube_party.specs.Steps.{port_run_on, port_run_rise, port_run_to_ask_after}
use Rattle.tube_machine.specs.BusModel.{BusModel, IsWired, StaysPlain}
use Rattle.tube_machine.specs.Lawful.{lawful}
use Rattle.tube_machine.specs.Step.{At, is_break, asks_by, next_state, transitions_of}
use Rattle.tube_machine.specs.Exchange.{IsDone, owed_at, ready}
use Rattle.tube_machine.specs.Whole.{IsServed}
use Rattle.tube_machine.specs.declared.bus.AccessError.TheVariants.{Tube}
use Rattle.tube_machine.proofs.InProgress.{IsInProgress, caught-up, came-there}
use Rattle.tube_machine.proofs.Stops.{more, looks-cycle, next-cycle, next-rises, silent-by, cost}

-- the port goes from d to e, from one state to another
abbrev pub Way : {S D : Type 0} → Transitions S → (D → ℕ → Op → ℕ → D → Type 0) → ℕ → Shown → S → D → S → D → Type 0
Way m answers n v s d new e = (j : ℕ) × PortRun m answers n v j s d new e

module _ {S D : Type 0} (m : Transitions S) {answers : D → ℕ → Op → ℕ → D → Type 0} {n : ℕ} (v : Shown) {s mid new : S} {d f : D} (way : Way m answers n v s d mid f) where
  -- one run after another
  pub way-on : {e : D} → Way m answers n v mid f new e → Way m answers n v s d new e
  way-on {e} on = port_run_on m answers n v.lines v.safe_until way.0 on.0 s mid new d f e way.1 on.1

  pub then-came : (k : ℕ) × Looks m n v k mid new → Way m answers n v s d new f
  then-came came = way-on (0, (refl, came))

-- what comes after it
pub way-port_run_to_ask : {S D : Type 0} {m : Transitions S} {answers : D → ℕ → Op → ℕ → D → Type 0} {n : ℕ} {v : Shown} {s mid new : S} {d f e : D} {ask : Ask} → Way m answers n v s d mid f
    → PortRunToAsk m answers n v mid f ask new e → PortRunToAsk m answers n v s d ask new e
way-port_run_to_ask {m = m} {answers} {n} {v} {s} {mid} {new} {d} {f} {e} {ask} way port_run_to_ask = port_run_to_ask_after m answers n v.lines v.safe_until s mid new d f e ask way port_run_to_ask

module _ (part : Part) {B D : Type 0} {w : BusModel B} (wired : IsWired w) {answers : D → ℕ → Op → ℕ → D → Type 0} {n : ℕ} (v : Shown) {s new : At B} {d e : D}
    (way : Way (transitions_of part w) answers n v s d new e) where
  -- it ends at an access
  pub way-asks : {last : At B} {f : D} {o : Op} → new.due < n → IsDone part w answers new e (Err (Tube o)) last f
      → PortRunToAsk (transitions_of part w) answers n v s d (asks.Access (record { 0 = last.due }) o) last f
  way-asks {f = f} low done = record {
    accesses = way.0;
    last = new;
    port_run = rw done.2 at way.1;
    asked = (rw done.1, rw done.1 low, done.0, done.1);
    not_safe = tt;
  }

  -- a cycle is as long as before
  pub way-cycle : w.cycle new.bus ≡ w.cycle s.bus
  way-cycle = by way.0 s new d e way.1
    where
      by : (j : ℕ) (s last : At B) (d e : D) → PortRun (transitions_of part w) answers n v j s d last e → w.cycle last.bus ≡ w.cycle s.bus
      by zero s last d e h = looks-cycle part w wired n v.lines v.safe_until h.1.0 s last h.1.1
      by (suc j) s last d e h =
          by j h.1 last h.2 e h.5 ∙ ap (λ (x : At B). w.cycle x.bus) h.4.goes ∙ next-cycle part w wired h.0 (Some (Byte h.4.byte))
          ∙ looks-cycle part w wired n v.lines v.safe_until h.3.0 s h.0 h.3.1

  -- and the tick rises
  pub way-rises : s.due ≤ new.due
  way-rises = port_run_rise (transitions_of part w) answers n v.lines v.safe_until way.0 s new d e (lawful part w wired) way.1

-- The steps until here, with accesses that the port answered. After the last of these, device steps
-- may be owed.
pub record IsPortRun (part : Part) {B D : Type 0} (w : BusModel B) (plain : B → Lines → Bool) (answers : D → ℕ → Op → ℕ → D → Type 0) (far n until : ℕ) (lines : Lines) (safe_until : ℕ)
    (start : At B) (d : D) (s : At B) (e : D) (since : ℕ) : Type 0 where
  pub mid : At B
  pub port_run : Way (transitions_of part w) answers until (shown_lines lines safe_until) start d mid e
  pub first : plain start.bus lines ≡ true → plain mid.bus lines ≡ true
  pub way : IsInProgress part w plain far n until lines safe_until mid s since

module _ {part : Part} {B D : Type 0} {w : BusModel B} (wired : IsWired w) {plain : B → Lines → Bool} (stays : StaysPlain w plain) {answers : D → ℕ → Op → ℕ → D → Type 0}
    {far n until : ℕ} {lines : Lines} {safe_until : ℕ} {start : At B} {d : D} where
  -- what is owed is done
  pub left-off : {s : At B} {e : D} {since : ℕ} {b : B} → IsPortRun part w plain answers far n until lines safe_until start d s e since
      → b ≡ w.close s.bus (owed_at n since s.due (w.closed s.bus))
      → Way (transitions_of part w) answers until (shown_lines lines safe_until) start d (record s { bus = b }) e
  left-off {s} at is = then-came (transitions_of part w) (shown_lines lines safe_until) at.port_run (rw is at.way.looks)

  pub not-yet : {s : At B} {since : ℕ} → IsInProgress part w plain far n until lines safe_until start s since → IsPortRun part w plain answers far n until lines safe_until start d s d since
  not-yet way = record { mid = start; port_run = (0, (refl, (0, refl))); first = λ is. is; way = way }

  -- whole instructions from there
  pub served-on : {bound : ℕ} {s new : At B} {f e : D} → IsPortRun part w plain answers far n until lines safe_until start d s f s.due → IsServed part w plain answers lines bound s f new e
      → bound ≤ far → bound ≤ until → bound ≤ safe_until → IsPortRun part w plain answers far n until lines safe_until start d new e new.due
  served-on {new = new} at served far_on in_run early = record {
    mid = new;
    port_run = way-on (transitions_of part w) (shown_lines lines safe_until) (then-came (transitions_of part w) (shown_lines lines safe_until) at.port_run (came-there part wired stays at.way))
        (served.port_run until safe_until in_run early);
    first = λ _. served.alike.is_plain;
    way = let to = served.alike in caught-up part wired stays (at.way.cycle ∙ to.cycle) to.goes_on to.closed (to.free far far_on at.way.free) (λ is. is) (0, refl);
  }

-- the next step is done, possibly by the port's answer
module _ (part : Part) {B D : Type 0} {w : BusModel B} (wired : IsWired w) {answers : D → ℕ → Op → ℕ → D → Type 0} {s : At B} {d : D} {new : At B} {e : D}
    (done : IsDone part w answers s d (Ok tt) new e) where
  -- it is a step of a run
  pub done-way : {n : ℕ} (v : Shown) → s.due < n → Way (transitions_of part w) answers n v s d new e
  done-way {n} v low = elim done [
    | inl h ↦ (0, (h.1, more part w wired n v.lines v.safe_until s new low h.0))
    | inr h ↦
        let a : IsAnswered (transitions_of part w) answers (s.due + 1) s d new e = h.1 in
        (1, (s, new, e, (0, refl), record { op = a.op; byte = a.byte; below = low; asks = a.asks; answered = a.answered; goes = a.goes }, (refl, (0, refl))))
  ]

  done-next : (a : Option Answer) × (new ≡ next_state part w s a)
  done-next = elim done [
    | inl h ↦ (None, h.0.1)
    | inr h ↦ (Some (Byte h.1.byte), h.1.goes)
  ]

  pub done-rises : s.due < new.due
  done-rises = next-rises part w wired s done-next.0 done-next.1

  pub done-cycle : w.cycle new.bus ≡ w.cycle s.bus
  done-cycle = rw done-next.1 (next-cycle part w wired s done-next.0)

  -- if each access takes one cycle, it takes one
  pub done-cost : IsSome (next_cycle part s.cpu) → part ≡ Cmos → w.has_tube s.bus ≡ true → ((b : B) (t : ℕ) (c : Cycle) → w.takes b t c ≡ w.cycle b) →
      (ready part new.cpu new.due ≡ s.due + w.cycle s.bus) × (length new.cpu.seen ≡ length s.cpu.seen + 1)
  done-cost some cmos has even = cost part w wired s new done-next.0 free done-next.1 some cmos even
    where
      free : is_break part w s ≡ false
      free = elim done [
        | inl h ↦ silent-by (is_break part w s) (w.has_tube s.bus) (asks_by w s.bus (next_cycle part s.cpu)) has h.0.0
        | inr h ↦ h.0
      ]
