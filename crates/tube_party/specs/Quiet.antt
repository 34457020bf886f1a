-- The ticks before which a party asks nothing, whatever it is answered later.
use Rattle.std.specs.Prelude.{ℕ, zero, suc, ◌≡◌, ◌≤◌, ◌<◌, None, Some}
use Rattle.std.proofs.Common.{refl, subst, arith}
use Rattle.tube_chip.specs.Act.{Query}
use Rattle.tube_party.specs.Transitions.{Transitions, IsLawful}

-- k steps from s to last that ask nothing, at any ticks
abbrev pub Silent : {S : Type 0} → Transitions S → ℕ → S → S → Type 0
Silent m zero s last = s ≡ last
Silent m (suc k) s last = (m.asks s ≡ None) × Silent m k (m.next s None) last

-- The first step that asks, reached from s by steps that ask nothing, has a tick not below q; and q
-- is not below the tick of the next step.
pub record IsQuiet {S : Type 0} (m : Transitions S) (s : S) (q : ℕ) : Type 0 where
  pub due : m.due s ≤ q
  pub first : (k : ℕ) (last : S) (query : Query) → Silent m k s last → m.asks last ≡ Some query → q ≤ m.due last

module _ {S : Type 0} (m : Transitions S) where
  -- the tick of the next step is such a q
  pub silent_rises : (k : ℕ) (s last : S) → IsLawful m → Silent m k s last → m.due s ≤ m.due last
  silent_rises zero s last lawful h = subst (λ (x : S). m.due s ≤ m.due x) h (let d : ℕ = m.due s in omega arith)
  silent_rises (suc k) s last lawful h =
      let up : m.due s < m.due (m.next s None) = lawful.rises s None in
      let on : m.due (m.next s None) ≤ m.due last = silent_rises k (m.next s None) last lawful h.1 in
      omega arith

  pub quiet_at_due : (s : S) (q : ℕ) → IsLawful m → q ≡ m.due s → IsQuiet m s q
  quiet_at_due s q lawful is = record {
    due = omega (arith, is);
    first = λ k last query silent asks. omega (arith, is, silent_rises k s last lawful silent);
  }

  -- if the next step asks, q is its tick
  pub quiet_here : (s : S) (q : ℕ) (query : Query) → IsQuiet m s q → m.asks s ≡ Some query → q ≡ m.due s
  quiet_here s q query quiet asks = omega (arith, quiet.due, quiet.first 0 s query refl asks)
