-- An instruction that is done whole reaches its look, and goes past it.
use Rattle.std.proofs.Common.{◌≡◌, ◌≤◌, ◌<◌, ◌+◌, ◌-◌, ◌*◌, refl, ℕ, zero, suc, Bool, true, false, arith}
use Rattle.op_table.specs.declared.names.Part.{Part}
use Rattle.cpu_alu.specs.declared.Regs.{Regs}
use Rattle.cpu_alu.specs.declared.flags.TheConstants.{INTERRUPT}
use Rattle.cpu_alu.specs.Flags.{has_flag}
use Rattle.cpu_core.specs.declared.Sequence.TheVariants.{Instruction}
use Rattle.cpu_core.specs.State as cpu
use Rattle.cpu_core.specs.Sequences.{after_byte, fresh}
use Rattle.cpu_whole.specs.Whole.{IsDone}
use Rattle.tube_chip.specs.declared.Lines.{Lines}
use Rattle.tube_party.specs.Transitions.{Transitions, Shown, shown_lines}
use Rattle.tube_party.specs.Steps.{none_seen}
use Rattle.tube_machine.specs.BusModel.{BusModel, IsWired, StaysPlain}
use Rattle.tube_machine.specs.Step.{At, at_of, transitions_of}
use Rattle.tube_machine.specs.Whole.{reach_of, IsMemory, StaysAtRest}
use Rattle.tube_machine.specs.SkipWhile.{ToLook, Passes}
use Rattle.tube_machine.proofs.InProgress.{IsInProgress, IsFree, begins, caught-up, look-asks, look-next, quick-last, quick-free}
use Rattle.tube_machine.proofs.WholeSteps.{whole-last}

-- one more
pub passes_more : {S : Type 0} (m : Transitions S) (over : S → Type 0) (n : ℕ) (v : Shown) (k : ℕ) (s u new : S) → Passes m over n v k s u → over u
    → ToLook m n v u new → Passes m over n v (suc k) s new
passes_more m over n v zero s u new h is looks = (rw h is, (new, (rw h looks, refl)))
passes_more m over n v (suc k) s u new h is looks = (h.0, (h.1.0, (h.1.1.0, passes_more m over n v k h.1.0 u new h.1.1.1 is looks)))

module _ (part : Part) {B : Type 0} {w : BusModel B} (wired : IsWired w) {plain : B → Lines → Bool} (stays : StaysPlain w plain) (far until : ℕ) (lines : Lines) (safe_until n : ℕ)
    {reads writes : ℕ → Bool} (memory : IsMemory w reads writes) {rests : B → Lines → Bool → ℕ → Type 0} (stays_at_rest : StaysAtRest w writes rests) (masks : Bool) (quiet : ℕ) where
  -- a whole instruction and the look after it
  pub whole-looks : (k due : ℕ) (r new : Regs) (m there : B) → 0 < k → n ≡ w.cycle m → plain m lines ≡ true → IsFree part w far m →
      IsDone part (reach_of w reads writes) due r m k new there → w.closed m ≤ due + 1 → due + n * k ≤ far → due + n * k ≤ until
      → due + n * k ≤ safe_until → due + n * k ≤ quiet →
      rests m lines masks quiet → has_flag r.p INTERRUPT ≡ masks →
      ToLook (transitions_of part w) until (shown_lines lines safe_until) (at_of (fresh Instruction r) m due) (at_of (fresh Instruction new) (w.close there (due + n * k)) (due + n * k))
  whole-looks k due r new m there more cycle first free done before far_on in_run early still rest held =
      let start : At B = at_of (fresh Instruction r) m due in
      let begun : IsInProgress part w plain far n until lines 0 start start due = caught-up part wired stays cycle (begins part Instruction r) before free (λ is. is) (0, refl) in
      let l = (whole-last part wired memory stays_at_rest stays far until lines 0 n start masks quiet k due r new m there more begun done before far_on in_run still rest held first).0 in
      let s : At B = l.s in
      let on : cpu.State = after_byte part s.cpu l.byte in
      let u : ℕ = s.due + (n - 1) in
      let some : 1 < n = omega (arith, cycle, wired.some m) in
      let tick : s.due + n ≡ due + n * k = l.tick in
      let low : u < until = omega (arith, tick, in_run, some) in
      let far_there : u < far = omega (arith, tick, far_on, some) in
      let came = quick-last part wired stays l.way l.b l.next l.done (omega (arith, low)) far_there refl l.over refl in
      let at : At B = at_of on (w.close l.b (s.due + 1)) u in
      let none : w.pending l.b u ≡ false = quick-free part wired stays l.way l.b l.next l.done u far_there in
      record {
        tick = record { 0 = u };
        last = at;
        goes = record {
          steps = came.0;
          last = at;
          runs = none_seen (transitions_of part w) until lines came.0 start at came.1;
          asked = (refl, low, look-asks part wired stays on l.b u (s.due + 1) l.over none, refl);
        };
        safe_until = omega (arith, tick, early, some);
        next = look-next part wired stays on l.b u (s.due + 1) l.over none lines (omega (arith, some)) l.looked;
      }
