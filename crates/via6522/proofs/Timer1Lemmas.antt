-- Timer 1 in free-running mode, step by step.
use Rattle.std.proofs.Common.{◌≡◌, sym, ℕ, suc, ◌+◌, ◌%◌, ◌<◌, ◌≤◌, ◌==◌, true, false, List, [], ◌∷◌, length, add-zero, zero-add, arith, inl, inr}
use Rattle.std.proofs.lemmas.Bool.{cases_lt}
use Rattle.std.proofs.lemmas.Bool.Decides.{nat_tests}
use Rattle.via6522.specs.declared.Pins.{Pins}
use Rattle.beeb_bits.specs.Bits.{bit}
use Rattle.via6522.specs.State.{State, Timer1}
use Rattle.via6522.specs.Timers.{word, timer1_after, timer1_flags}
use Rattle.via6522.specs.Step.{step, after_steps}
use Rattle.via6522.proofs.Counting.{within_period, ends_period, next_period}

-- Timer 1 in free-running mode, k steps into a period of its latch v. A reload is due first, and
-- then it counts down from v.
pub record IsInPeriod (v k : ℕ) (t : Timer1) : Type 0 where
  pub latch : word t.latch_high t.latch_low ≡ v
  pub within : k ≤ v + 1
  pub first : k ≡ 0 → t.reload ≡ true
  pub later : 0 < k → t.reload ≡ false
  pub counts : 0 < k → t.counter + k ≡ v + 1

-- a step inside the period leads to the next, and sets no flag
inner_step : (v k : ℕ) (t : Timer1) → v < 65536 → k < v + 1 → IsInPeriod v k t → (timer1_flags true t ≡ false) × IsInPeriod v (k + 1) (timer1_after true t)
inner_step v k t small inside at = (
  grind (arith, nat_tests),
  record {
    latch = grind (arith, nat_tests);
    within = omega arith;
    first = λ e. absurd (omega (arith, e));
    later = λ h. grind (arith, nat_tests);
    counts = λ h. grind (arith, nat_tests);
  },
)

-- the last step of the period leads to the first of the next, and sets the flag
last_step : (v k : ℕ) (t : Timer1) → k ≡ v + 1 → IsInPeriod v k t → (timer1_flags true t ≡ true) × IsInPeriod v 0 (timer1_after true t)
last_step v k t end at = (
  grind (arith, nat_tests),
  record {
    latch = grind (arith, nat_tests);
    within = omega arith;
    first = λ e. grind (arith, nat_tests);
    later = λ h. absurd (omega (arith, h));
    counts = λ h. absurd (omega (arith, h));
  },
)

-- the step after these sets the flag exactly if it is the last of a period
pub sets_each_period : (v k : ℕ) (c : State) (pins : List Pins) → v < 65536 → bit c.acr 6 ≡ true → IsInPeriod v k c.timer1 →
    timer1_flags (bit (after_steps pins c).acr 6) (after_steps pins c).timer1 ≡ ((k + length pins + 1) % (v + 2) == 0)
sets_each_period v k c [] small free at =
    elim (cases_lt k (v + 1)) [
      | inl inside ↦ rw (free, (inner_step v k c.timer1 small inside at).0, add-zero) (sym (within_period v k inside))
      | inr end ↦ let is : k ≡ v + 1 = omega (arith, at.within) in rw (free, (last_step v k c.timer1 is at).0, add-zero) (sym (ends_period v k is))
    ]
sets_each_period v k c (p ∷ pins) small free at =
    elim (cases_lt k (v + 1)) [
      | inl inside ↦
          let next : IsInPeriod v (k + 1) (step p c).timer1 = rw free (inner_step v k c.timer1 small inside at).1 in
          let more : k + 1 + length pins + 1 ≡ k + suc (length pins) + 1 = omega arith in
          rw (← more) (sets_each_period v (k + 1) (step p c) pins small free next)
      | inr end ↦
          let is : k ≡ v + 1 = omega (arith, at.within) in
          let next : IsInPeriod v 0 (step p c).timer1 = rw free (last_step v k c.timer1 is at).1 in
          let more : (k + suc (length pins) + 1) % (v + 2) ≡ (0 + length pins + 1) % (v + 2) =
          let same : 0 + length pins + 1 ≡ suc (length pins) = omega arith in rw same (next_period v k (suc (length pins)) is) in
          rw more (sets_each_period v 0 (step p c) pins small free next)
    ]

pub sets_each_period_from_start : (v : ℕ) (c : State) (pins : List Pins) → v < 65536 → bit c.acr 6 ≡ true → IsInPeriod v 0 c.timer1 →
    timer1_flags (bit (after_steps pins c).acr 6) (after_steps pins c).timer1 ≡ ((length pins + 1) % (v + 2) == 0)
sets_each_period_from_start v c pins small free at = rw zero-add at (sets_each_period v 0 c pins small free at)
