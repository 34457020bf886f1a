-- Repeated equal answers of a chip that is not changed.
use Rattle.std.proofs.Common.{ℕ, zero, suc, ◌≡◌, ◌+◌, ◌*◌, refl, sym, subst, arith}
use Rattle.std.specs.Prelude.{Bool}
use Rattle.tube_chip.specs.State.{State}
use Rattle.tube_chip.specs.declared.Op.{Op}
use Rattle.tube_party.specs.CodePassing.{StaysSeen}
use Rattle.tube_party.specs.Transitions.{IsAnsweredAgain}

pub still-seen : (is_read : Bool) (c d : State) → d ≡ c → StaysSeen is_read c d
still-seen is_read c d same = subst (StaysSeen is_read c) (sym same) (refl, refl, λ _ number is. refl)

module _ {D : Type 0} (answers : D → ℕ → Op → ℕ → D → Type 0) (op : Op) (byte period : ℕ) where
  period-more : (k : ℕ) → period * suc k ≡ period * k + period
  period-more k = grind arith

  -- once more
  again-more : (k : ℕ) (d : D) (t : ℕ) (f e : D) → IsAnsweredAgain answers op byte period k d t f → answers f (t + period * k + period) op byte e
      → IsAnsweredAgain answers op byte period (suc k) d t e
  again-more zero d t f e again h =
      let here : t + period * 0 + period ≡ t + period = omega arith in
      (e, (rw again (rw here at h), refl))
  again-more (suc k) d t f e again h =
      let here : t + period * suc k + period ≡ t + period + period * k + period = omega (arith, period-more k) in
      (again.0, (again.1.0, again-more k again.0 (t + period) f e again.1.1 (rw here at h)))

  -- as above, by the tick of the next one
  pub again-on : (k : ℕ) (d : D) (t : ℕ) {at : ℕ} {f e : D} → IsAnsweredAgain answers op byte period k d t f → at ≡ t + period * k + period → answers f at op byte e
      → IsAnsweredAgain answers op byte period (k + 1) d t e × (at + period ≡ t + period * (k + 1) + period)
  again-on k d t {at} {f} {e} again here h =
      let one : suc k ≡ k + 1 = omega arith in
      let more = period-more k in
      let next : at + period ≡ t + period * suc k + period = omega arith in
      subst (λ n. IsAnsweredAgain answers op byte period n d t e × (at + period ≡ t + period * n + period)) one (again-more k d t f e again (rw here at h), next)
