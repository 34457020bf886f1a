-- Many steps with the same pins at once: the timers' parts of all steps, and then the edges of the
-- first.
use Rattle.std.proofs.Common.{◌≡◌, ◌∙◌, ap, sym, refl, ℕ, zero, suc, ◌-◌, ◌<◌, ◌≤◌, arith}
use Rattle.std.proofs.Math.Bool.{or_assoc, or-false}
use Rattle.beeb_bits.specs.Bits.{bit}
use Rattle.via6522.specs.declared.Pins.{Pins}
use Rattle.via6522.specs.State.{State, ControlLines}
use Rattle.via6522.specs.Lines.{levels_of}
use Rattle.via6522.specs.Step.{step, steps, timers_stepped, edges_seen}
use Rattle.via6522.specs.Timers.{timer1_flags, timer2_flags}
use Rattle.via6522.specs.CodeQuiet.{ahead, IsQuiet}
use Rattle.via6522.specs.Jumps.{timer1_later, timer1_flags_within, timer2_later, timer2_flags_within, timers_later}
use Rattle.via6522.proofs.Runs.{no_steps, step_behind}
use Rattle.via6522.proofs.Quietly.{edges_to, edges_by_levels, no_edges, quiet_step}

run_none : (c : State) → timers_later 0 c ≡ c
run_none c = rw (or-false c.flags.timer1, or-false c.flags.timer2) refl

run_more : (n : ℕ) (c : State) → timers_stepped (timers_later n c) ≡ timers_later (suc n) c
run_more n c =
    rw (
      or_assoc c.flags.timer1 (timer1_flags_within (bit c.acr 6) n c.timer1) (timer1_flags (bit c.acr 6) (timer1_later (bit c.acr 6) n c.timer1)),
      or_assoc c.flags.timer2 (timer2_flags_within (bit c.acr 5) n c.timer2) (timer2_flags (bit c.acr 5) (timer2_later (bit c.acr 5) n c.timer2)),
    ) refl

-- the second step with the same pins has no edge
edges_once : (p : Pins) (c : State) → edges_seen p (edges_seen p c) ≡ edges_seen p c
edges_once p c = edges_by_levels p (edges_seen p c) ∙ no_edges (edges_seen p c)

-- the timers and the edges change different fields
apart : (p : Pins) (c : State) → timers_stepped (edges_seen p c) ≡ edges_seen p (timers_stepped c)
apart p c = refl

one_by_one : (p : Pins) (n : ℕ) (c : State) → steps p (suc n) c ≡ edges_seen p (timers_later (suc n) c)
one_by_one p zero c =
    step_behind p 0 c ∙ ap (step p) (no_steps p c) ∙ ap (λ (d : State). edges_seen p (timers_stepped d)) (sym (run_none c)) ∙ ap (edges_seen p) (run_more 0 c)
one_by_one p (suc n) c =
    step_behind p (suc n) c ∙ ap (step p) (one_by_one p n c) ∙ ap (edges_seen p) (apart p (timers_later (suc n) c)) ∙ edges_once p (timers_stepped (timers_later (suc n) c))
    ∙ ap (edges_seen p) (run_more (suc n) c)

pub all_at_once : (p : Pins) (n : ℕ) (c : State) → 0 < n → steps p n c ≡ edges_seen p (timers_later n c)
all_at_once p n c some = let one : n ≡ suc (n - 1) = omega arith in rw one (one_by_one p (n - 1) c)

-- only the levels of the pins count
pub steps_by_levels : (p q : Pins) (n : ℕ) (c : State) → levels_of p ≡ levels_of q → steps p n c ≡ steps q n c
steps_by_levels p q zero c same = no_steps p c ∙ sym (no_steps q c)
steps_by_levels p q (suc n) c same =
    one_by_one p n c ∙ edges_by_levels p (timers_later (suc n) c) ∙ ap (λ (l : ControlLines). edges_to l (timers_later (suc n) c)) same
    ∙ sym (edges_by_levels q (timers_later (suc n) c)) ∙ sym (one_by_one q n c)

-- with the levels of these pins
pub in_full : (p q : Pins) (n : ℕ) (c : State) → levels_of q ≡ levels_of p → 0 < n → edges_seen q (timers_later n c) ≡ steps p n c
in_full p q n c same some = sym (all_at_once q n c some) ∙ steps_by_levels q p n c same

-- n quiet steps leave n fewer of them
pub quiet_steps_pass : (p : Pins) (m n : ℕ) (c : State) → m ≤ n → IsQuiet n c → levels_of p ≡ c.levels → steps p m (ahead n c) ≡ ahead (n - m) c
quiet_steps_pass p zero n c within quiet same = let all : n - 0 ≡ n = omega arith in no_steps p (ahead n c) ∙ ap (λ (k : ℕ). ahead k c) (sym all)
quiet_steps_pass p (suc m) n c within quiet same =
    let some : 0 < n - m = omega arith in
    let left : IsQuiet (n - m) c = record {
      within1 = omega (arith, quiet.within1);
      within2 = λ e. omega (arith, quiet.within2 e);
      loaded = λ h. quiet.loaded (omega arith);
      begun = λ h e. quiet.begun (omega arith) e;
    } in
    let fewer : n - m - 1 ≡ n - suc m = omega arith in
    step_behind p m (ahead n c) ∙ ap (step p) (quiet_steps_pass p m n c (omega arith) quiet same) ∙ quiet_step p (n - m) c some left same ∙ ap (λ (k : ℕ). ahead k c) fewer
