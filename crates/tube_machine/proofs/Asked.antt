-- An instruction whose last access is the Tube's and is answered by the port, and a branch after it
-- that leads back: if the registers are then unchanged, the same steps follow again.
use Rattle.std.proofs.Common.{◌≡◌, ◌≤◌, ◌<◌, ◌∙◌, ◌+◌, ◌-◌, ◌*◌, refl, sym, ap, ℕ, zero, suc, Bool, true, false, Some, IsSome, arith}
use Rattle.op_table.specs.declared.names.Part.{Part}
use Rattle.cpu_alu.specs.declared.Cycle.{Cycle}
use Rattle.cpu_alu.specs.declared.Regs.{Regs}
use Rattle.cpu_alu.specs.declared.flags.TheConstants.{INTERRUPT}
use Rattle.cpu_alu.specs.Flags.{has_flag}
use Rattle.cpu_core.specs.declared.Sequence.TheVariants.{Instruction}
use Rattle.cpu_core.specs.State as cpu
use Rattle.cpu_core.specs.Sequences.{next_cycle, after_byte, after, fresh}
use Rattle.cpu_whole.specs.Whole.{IsDone}
use Rattle.cpu_whole.specs.Outside.{IsOutside, access_of, outcome}
use Rattle.cpu_whole.specs.declared.outside.LastAccess.{LastAccess}
use Rattle.tube_chip.specs.declared.Answer.TheVariants.{Byte}
use Rattle.tube_chip.specs.declared.Lines.{Lines}
use Rattle.tube_chip.specs.declared.Op.{Op}
use Rattle.tube_chip.specs.Act.{access}
use Rattle.tube_party.specs.Transitions.{PortRun, IsAnswered, IsAnsweredAgain, shown_lines}
use Rattle.tube_party.specs.Steps.{port_run_on}
use Rattle.tube_machine.specs.BusModel.{BusModel, IsWired, StaysPlain}
use Rattle.tube_machine.specs.Step.{At, at_of, is_break, asks, asks_by, after_look, closed_to, next_state, transitions_of}
use Rattle.tube_machine.specs.Exchange.{IsAtTube, IsOneCycle, owed_at}
use Rattle.tube_machine.specs.Lawful.{asked_closed, break_closed, next_closed}
use Rattle.tube_machine.specs.NoBreak.{no-break, plain-asks}
use Rattle.tube_machine.specs.Whole.{reach_of, IsMemory, StaysAtRest, IsOnward, IsServed}
use Rattle.tube_machine.proofs.InProgress.{IsInProgress, IsFree, at-same, begins, caught-up, at-look, came-there}
use Rattle.tube_machine.proofs.WholeSteps.{Closes, next-more, carried-closed, to-tube, look-on, whole-behind, onward}
use Rattle.tube_machine.proofs.Taken.{at-tube, taken}

module _ {part : Part} {B D : Type 0} {w : BusModel B} {plain : B → Lines → Bool} {answers : D → ℕ → Op → ℕ → D → Type 0} {lines : Lines} where
  -- steps without such accesses
  pub served-onward : {bound : ℕ} {old new : At B} {d : D} → IsOnward part w plain lines bound old new → IsServed part w plain answers lines bound old d new d
  served-onward on = grind arith

  -- some after others
  pub served-then : {bound : ℕ} {old mid new : At B} {d f e : D} → IsServed part w plain answers lines bound old d mid f → IsServed part w plain answers lines bound mid f new e
      → IsServed part w plain answers lines bound old d new e
  served-then {old = old} {mid} {new} {d} {f} {e} a b = record {
    port_run = λ until safe_until in_run early.
        let one = a.port_run until safe_until in_run early in
        let two = b.port_run until safe_until in_run early in
        port_run_on (transitions_of part w) answers until lines safe_until one.0 two.0 old mid new d f e one.1 two.1;
    alike =
        let x = a.alike in
        let y = b.alike in
        record { goes_on = y.goes_on; closed = y.closed; cycle = x.cycle ∙ y.cycle; free = λ far far_on clear. y.free far far_on (x.free far far_on clear); is_plain = y.is_plain };
  }

  -- none at all
  served-none : {bound : ℕ} {at : At B} {d : D} → plain at.bus lines ≡ true → w.closed at.bus ≤ at.due + 1 → IsSome (next_cycle part at.cpu)
      → IsServed part w plain answers lines bound at d at d
  served-none first before on = grind arith

  -- steps that are served up to a tick are served up to a later one
  pub served-wider : {end bound : ℕ} {old new : At B} {d e : D} → end ≤ bound → IsServed part w plain answers lines end old d new e → IsServed part w plain answers lines bound old d new e
  served-wider high a = record {
    port_run = λ until safe_until in_run early. a.port_run until safe_until (omega (arith, in_run, high)) (omega (arith, early, high));
    alike =
        let x = a.alike in
        record { goes_on = x.goes_on; closed = x.closed; cycle = x.cycle; free = λ far far_on clear. x.free far (omega (arith, far_on, high)) clear; is_plain = x.is_plain };
  }

-- from a bus whose devices need not be closed yet as far as it counts
module _ (part : Part) {B D : Type 0} {w : BusModel B} (wired : IsWired w) {reads writes : ℕ → Bool} (memory : IsMemory w reads writes)
    {rests : B → Lines → Bool → ℕ → Type 0} (stays_at_rest : StaysAtRest w writes rests) {plain : B → Lines → Bool} (stays : StaysPlain w plain)
    (answers : D → ℕ → Op → ℕ → D → Type 0) (bound byte : ℕ) {lines : Lines} {masks : Bool} {quiet n : ℕ} {m : B} {r : Regs} {o : LastAccess} {asked : Op}
    (cycle : n ≡ w.cycle m) (first : plain m lines ≡ true) (free : IsFree part w bound m)
    (outside : (t : ℕ) → IsOutside part (reach_of w reads writes) t r m o) (skip : IsOneCycle w m (access_of o) asked) (some : 1 < n)
    (rest : rests m lines masks quiet) (held : masks ≡ has_flag r.p INTERRUPT) where
  abbrev c : Cycle
  c = access_of o

  -- the tick of the access of an instruction that begins at a tick
  abbrev pub top : ℕ → ℕ
  top from = from + n * o.cycles

  -- closed this far, at the start of the instruction, and after it
  abbrev pub starts : ℕ → ℕ → At B
  starts u from = at_of (fresh Instruction r) (w.close m u) from

  abbrev pub ended : ℕ → At B
  ended from = at_of (fresh Instruction (outcome part o r byte)) (w.close m (top from + n)) (top from + n)

  at_tube : (t : ℕ) → IsAtTube w (w.close m t) c
  at_tube t = at-tube part w m (w.close m t) c (wired.tube_close m t) (rw skip.asks tt)

  free_to : (u far : ℕ) → IsFree part w far m → IsFree part w far (w.close m u)
  free_to u far clear t low = wired.pending_close m u t ∙ clear t low

  plain_to : (u : ℕ) → plain (w.close m u) lines ≡ true
  plain_to u = stays.close m lines u ∙ first

  module _ (from u : ℕ) (d e : D) (low : u ≤ from) (before : w.closed m ≤ from + 1) (fits : top from + n ≤ bound) (still : top from + n ≤ quiet) (answered : answers d (top from) asked byte e) where
    abbrev last : cpu.State
    last = (outside from).last

    came : Closes part wired memory from o.cycles (fresh Instruction r) m last m u
    came = carried-closed part wired memory from o.cycles (fresh Instruction r) m last m u (omega (arith, low)) (outside from).carried

    -- before the access, and after it
    abbrev there : At B
    there = at_of last came.0 (top from)

    abbrev b : B
    b = w.close m (top from + 1)

    abbrev on : cpu.State
    on = after_byte part last byte

    abbrev over_there : At B
    over_there = at_of on b (top from + (n - 1))

    same : (v : ℕ) → u ≤ v → w.close came.0 v ≡ w.close m v
    same = came.1.1

    same_on : w.close came.0 (top from + 1) ≡ b
    same_on = same (top from + 1) (omega (arith, low))

    closed_to_start : w.closed (w.close m u) ≤ from + 1
    closed_to_start = let is = wired.closed m u in omega (arith, is, before, low)

    to-there : (until safe_until : ℕ) → bound ≤ until → IsInProgress part w plain bound n until lines safe_until (starts u from) there from
    to-there until safe_until in_run =
        to-tube part wired memory stays_at_rest stays bound until lines safe_until n (starts u from) masks quiet c (w.close m 0) last (outside from).next (at_tube 0) o.cycles
        (starts u from) from from came.0 (top from)
        (record {
          way = caught-up part wired stays (cycle ∙ sym (wired.cycle_close m u)) (begins part Instruction r) closed_to_start (free_to u bound free) (λ is. is) (0, refl);
          tick = omega arith;
          before = closed_to_start;
          rest = stays_at_rest.close m lines masks quiet u rest (omega (arith, still, low));
        }) came.1.0 refl (omega (arith, fits)) (omega (arith, fits, in_run)) (omega (arith, still))

    -- no break comes there
    unbroken : is_break part w there ≡ false
    unbroken = no-break part w there (sym (wired.pending_close came.0 u (top from)) ∙ ap (λ (x : B). w.pending x (top from)) (same u (omega arith))
        ∙ wired.pending_close m u (top from) ∙ free (top from) (omega (arith, fits, some)))

    asks-there : (v : ℕ) → asks part w (closed_to w there v) ≡ Some (access asked)
    asks-there v =
        plain-asks part w (closed_to w there v) (break_closed part w wired there v ∙ unbroken) ∙ ap (asks_by w (w.close came.0 v)) (outside from).next
        ∙ asked_closed part w wired false (Some c) came.0 v ∙ sym (asked_closed part w wired false (Some c) came.0 u)
        ∙ ap (λ (x : B). asks_by w x (Some c)) (same u (omega arith)) ∙ asked_closed part w wired false (Some c) m u ∙ skip.asks

    cycle_on : n ≡ w.cycle b
    cycle_on = cycle ∙ sym (wired.cycle_close m (top from + 1))

    closed_on : w.closed b ≤ top from + 1
    closed_on = let is = wired.closed m (top from + 1) in omega (arith, is, before)

    goes : (v : ℕ) → v ≤ top from + 1 → over_there ≡ next_state part w (closed_to w there v) (Some (Byte byte))
    goes v high =
        let pends : w.pending b (top from + (n - 1)) ≡ false = free_to (top from + 1) bound free (top from + (n - 1)) (omega (arith, fits, some)) in
        sym (rw (pends, (outside from).over byte))
        ∙ taken part w wired there c b byte n (outside from).next unbroken (rw same_on (at_tube (top from + 1)))
        (rw same_on (sym (skip.leaves (top from + 1)))) cycle_on
        (rw same_on (skip.fast (top from) (top from + 1)))
        ∙ sym (next_closed part w wired there v (Some (Byte byte)) high)

    looked : ended from ≡ after_look part w (closed_to w over_there (over_there.due + 1)) lines
    looked =
        let rest_on : rests b lines masks quiet = stays_at_rest.close m lines masks quiet (top from + 1) rest (omega (arith, still, some)) in
        let held_on : masks ≡ has_flag (after part on).p INTERRUPT =
        held ∙ sym ((outside from).masks byte) ∙ ap (λ (q : Regs). has_flag q.p INTERRUPT) (sym ((outside from).regs byte)) in
        let tick : top from + n ≡ over_there.due + 1 = omega (arith, some) in
        at-same (ap (fresh Instruction) (sym ((outside from).regs byte))) (sym (wired.again m (top from + 1) (top from + n) (omega (arith, some))) ∙ ap (w.close b) tick) tick
        ∙ look-on part wired memory stays_at_rest stays on b over_there.due (plain_to (top from + 1)) rest_on (omega (arith, still, some)) held_on

    behind-look : (until safe_until : ℕ) → bound ≤ until → bound ≤ safe_until → IsInProgress part w plain bound n until lines safe_until over_there (ended from) (top from + n)
    behind-look until safe_until in_run early =
        at-look part wired stays cycle_on ((outside from).over byte) (omega (arith, closed_on)) (free_to (top from + 1) bound free) (plain_to (top from + 1))
        (omega (arith, fits, in_run, some)) (omega (arith, fits, early, some)) (omega (arith, fits, some)) looked

    talk : (until safe_until : ℕ) → bound ≤ until → bound ≤ safe_until
        → (j : ℕ) × PortRun (transitions_of part w) answers until (shown_lines lines safe_until) j (starts u from) d (ended from) e
    talk until safe_until in_run early =
        let way = to-there until safe_until in_run in
        let v : ℕ = owed_at n from (top from) (w.closed came.0) in
        let one : IsAnswered (transitions_of part w) answers until (closed_to w there v) d over_there e = record {
          op = asked;
          byte = byte;
          below = omega (arith, fits, in_run, some);
          asks = asks-there v;
          answered = answered;
          goes = goes v way.high;
        } in (
          1,
          (
            closed_to w there v,
            over_there,
            e,
            way.looks,
            one,
            (refl, came-there part wired stays (behind-look until safe_until in_run early)),
          ),
        )

    -- it is a part of a run
    pub asked-whole : IsServed part w plain answers lines bound (starts u from) d (ended from) e
    asked-whole = record {
      port_run = talk;
      alike = record {
        goes_on = begins part Instruction (outcome part o r byte);
        closed = let is = wired.closed m (top from + n) in omega (arith, is, before, some);
        cycle = wired.cycle_close m u ∙ sym (wired.cycle_close m (top from + n));
        free = λ far far_on clear t under. wired.pending_close m (top from + n) t ∙ sym (wired.pending_close m u t) ∙ clear t under;
        is_plain = plain_to (top from + n);
      };
    }

  -- a branch leads back
  module _ (k : ℕ) (goes : 0 < k) (back : (t : ℕ) → IsDone part (reach_of w reads writes) t (outcome part o r byte) m k r m) (room : bound ≤ quiet) where
    abbrev at : ℕ → At B
    at s = at_of (fresh Instruction r) (w.close m s) s

    -- the time until it repeats
    abbrev pub period : ℕ
    period = n * o.cycles + n + n * k

    abbrev behind : ℕ → At B
    behind s = at_of (fresh Instruction (outcome part o r byte)) (w.close m s) s

    closed_then : (s t : ℕ) → s ≤ t → w.closed m ≤ s + 1 → w.closed (w.close m t) ≤ t + 1
    closed_then s t high before = let is = wired.closed m t in omega (arith, is, before, high)

    -- the branch
    branched : (s : ℕ) → w.closed m ≤ s + 1 → s + n * k ≤ bound → (far until safe_until : ℕ) → bound ≤ far → bound ≤ until → bound ≤ safe_until
        → IsFree part w far (w.close m s) →
        IsInProgress part w plain far n until lines safe_until (behind s) (at (s + n * k)) (s + n * k)
    branched s before fits far until safe_until far_on in_run early clear =
        let begun : IsInProgress part w plain far n until lines safe_until (behind s) (behind s) s =
        caught-up part wired stays (cycle ∙ sym (wired.cycle_close m s)) (begins part Instruction (outcome part o r byte))
        (closed_then s s (omega arith) before) clear (λ is. is) (0, refl) in
        (whole-behind part wired memory stays_at_rest stays far until lines safe_until n (behind s) masks quiet k s s (outcome part o r byte) r m m goes (omega arith)
        begun (back s) before (omega (arith, fits, far_on)) (omega (arith, fits, in_run)) (omega (arith, fits, early)) (omega (arith, fits, room))
        (stays_at_rest.close m lines masks quiet s rest (omega (arith, fits, room))) ((outside 0).masks byte ∙ sym held) (plain_to s)).0

    branch : (s : ℕ) → w.closed m ≤ s + 1 → s + n * k ≤ bound → IsOnward part w plain lines bound (behind s) (at (s + n * k))
    branch s before fits =
        onward part wired stays (branched s before fits)
        (free_to s bound free) (cycle ∙ sym (wired.cycle_close m s)) (closed_then s (s + n * k) (omega arith) before) (plain_to s)

    -- the instruction and the branch, from a bus that need not be closed yet
    pub round : (s u : ℕ) (d e : D) → u ≤ s → w.closed m ≤ s + 1 → s + period ≤ bound → answers d (s + n * o.cycles) asked byte e →
        IsServed part w plain answers lines bound (at_of (fresh Instruction r) (w.close m u) s) d (at (s + period)) e
    round s u d e low before fits answered =
        let t : ℕ = s + n * o.cycles + n in
        let ask = asked-whole s u d e low before (omega (arith, fits)) (omega (arith, fits, room)) answered in
        let there : t + n * k ≡ s + period = omega arith in
        served-then ask (served-onward (rw there at (branch t (omega (arith, before)) (omega (arith, fits)))))

    -- j such periods
    pub rounds : (j s t : ℕ) (d e : D) → t + period ≡ s + n * o.cycles → w.closed m ≤ s + 1 → s + period * j ≤ bound → IsAnsweredAgain answers asked byte period j d t e →
        IsServed part w plain answers lines bound (at s) d (at (s + period * j)) e
    rounds zero s t d e here before fits again =
        let same : s ≡ s + period * 0 = omega arith in
        rw (← same, ← again) (served-none (plain_to s) (closed_then s s (omega arith) before) (begins part Instruction r))
    rounds (suc j) s t d e here before fits again =
        let more : period * suc j ≡ period * j + period = next-more period j in
        let one = round s s d again.0 (omega arith) before (omega (arith, fits, more)) (rw here at again.1.0) in
        let others = rounds j (s + period) (t + period) again.0 e (omega (arith, here)) (omega (arith, before)) (omega (arith, fits, more)) again.1.1 in
        let there : s + period + period * j ≡ s + period * suc j = omega (arith, more) in
        rw there at (served-then one others)
