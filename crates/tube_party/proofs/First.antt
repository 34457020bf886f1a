-- Whose ask comes first, and what is known of it.
use Rattle.std.proofs.Common.{ℕ, ◌≡◌, ◌≢◌, ◌+◌, ◌∙◌, ◌<◌, ◌≤◌, ◌⊎◌, inl, inr, refl, sym, ap, arith, Option, None, Some}
use Rattle.beeb_bits.specs.declared.Side.{Side}
use Rattle.beeb_bits.specs.declared.Side.TheVariants.{Host, Para}
use Rattle.tube_party.specs.declared.party.Ask.{Ask}
use Rattle.tube_party.specs.declared.party.Ask.TheVariants.{Nothing, Access, Look}
use Rattle.tube_party.specs.Transitions.{Transitions, IsAsk}
use Rattle.tube_party.specs.Turn.{IsPending, first_of, first_due, tick_of}

-- the tick of an ask
abbrev asked_at : Ask → Option ℕ
asked_at Nothing = None
asked_at (Access t op) = Some t.0
asked_at (Look t) = Some t.0

-- whose tick comes first
abbrev first_at : Option ℕ → Option ℕ → Option Side
first_at None None = None
first_at None (Some u) = Some Para
first_at (Some t) None = Some Host
first_at (Some t) (Some u) = Some (first_due t u)

first_is : (a b : Ask) → first_of a b ≡ first_at (asked_at a) (asked_at b)
first_is a b = grind arith

-- the host's, unless the parasite's is at a smaller tick
due_order : (t u : ℕ) → (first_due t u ≡ Para) × (u < t) ⊎ (first_due t u ≡ Host) × (t ≤ u)
due_order t u = grind arith

-- an ask for an access, or a look, at its own tick
record Waits {S : Type 0} (r : Transitions S) (n : ℕ) (s last : S) (ask : Ask) (x : ℕ) : Type 0 where
  pending : IsPending r n s ask
  here : s ≡ last
  tick : x ≡ r.due last
  below : r.due last < n

-- what an ask says of a party
abbrev Told : {S : Type 0} → Transitions S → ℕ → S → S → Ask → Option ℕ → Type 0
Told r n s last ask None = n ≤ r.due last
Told r n s last ask (Some x) = Waits r n s last ask x

told : {S : Type 0} (r : Transitions S) (n : ℕ) (s last : S) (ask : Ask) → IsAsk r n last ask s → Told r n s last ask (asked_at ask)
told r n s last ask a = grind arith

-- the ask is pending, and the other party's next step is at least `tie_offset` ticks after it
pub record IsFirst {S T : Type 0} (r : Transitions S) (other : Transitions T) (n tie_offset : ℕ) (s last : S) (last2 : T) (ask : Ask) : Type 0 where
  pub pending : IsPending r n s ask
  pub here : s ≡ last
  pub below : r.due last < n
  pub first : r.due last + tie_offset ≤ other.due last2

pub tick_of_first : {S : Type 0} (r : Transitions S) (n : ℕ) (s last : S) (ask : Ask) → IsPending r n s ask → s ≡ last → tick_of ask ≡ r.due last
tick_of_first r n s last ask h here = grind arith

module _ {S T : Type 0} (h : Transitions S) (p : Transitions T) (n : ℕ) (s hl : S) (t pl : T) (a b : Ask) (ah : IsAsk h n hl a s) (bp : IsAsk p n pl b t) where
  pub host_first : first_of a b ≡ Some Host → IsFirst h p n 0 s hl pl a
  host_first e = by (asked_at a) (asked_at b) (told h n s hl a ah) (told p n t pl b bp) (sym (first_is a b) ∙ e)
    where
      by : (x y : Option ℕ) → Told h n s hl a x → Told p n t pl b y → first_at x y ≡ Some Host → IsFirst h p n 0 s hl pl a
      by None None w v is = cc
      by None (Some u) w v is = cc
      by (Some x) None w over is = record { pending = w.pending; here = w.here; below = w.below; first = omega (arith, w.below) }
      by (Some x) (Some u) w v is = elim (due_order x u) [
        | inl para ↦ cc
        | inr le ↦ record { pending = w.pending; here = w.here; below = w.below; first = omega (arith, w.tick, v.tick, le.1) }
      ]

  pub para_first : first_of a b ≡ Some Para → IsFirst p h n 1 t pl hl b
  para_first e = by (asked_at a) (asked_at b) (told h n s hl a ah) (told p n t pl b bp) (sym (first_is a b) ∙ e)
    where
      by : (x y : Option ℕ) → Told h n s hl a x → Told p n t pl b y → first_at x y ≡ Some Para → IsFirst p h n 1 t pl hl b
      by None None w v is = cc
      by None (Some u) over v is = record { pending = v.pending; here = v.here; below = v.below; first = omega (arith, v.below) }
      by (Some x) None w over is = cc
      by (Some x) (Some u) w v is = elim (due_order x u) [
        | inl lt ↦ record { pending = v.pending; here = v.here; below = v.below; first = omega (arith, w.tick, v.tick, lt.1) }
        | inr host ↦ cc
      ]

  -- the host's next step does not come before what the parasite asks
  pub not_first : first_of a b ≢ Some Host → (x : ℕ) → x < n → x < p.due pl → x < h.due hl
  not_first never = by (asked_at a) (asked_at b) (told h n s hl a ah) (told p n t pl b bp) (λ e. never (first_is a b ∙ e))
    where
      by : (x y : Option ℕ) → Told h n s hl a x → Told p n t pl b y → first_at x y ≢ Some Host → (k : ℕ) → k < n → k < p.due pl → k < h.due hl
      by None y over v other k low early = omega arith
      by (Some x) None w v other k low early = absurd (other refl)
      by (Some x) (Some u) w v other k low early = elim (due_order x u) [
        | inl lt ↦ omega (arith, w.tick, v.tick, lt.1)
        | inr le ↦ absurd (other (ap (λ z. Some z) le.0))
      ]

-- no ask comes first
pub none_left : (a b : Ask) → first_of a b ≡ None → (a ≡ Nothing) × (b ≡ Nothing)
none_left a b e = grind arith
