-- Decimal mode at each pair of numbers below 100, computed.
use Rattle.std.proofs.Common.{◌≡◌, ◌<◌, ℕ, ◌%◌, Bool, true, false, ◌&&◌, eqb, leb, refl, arith}
use mathlib.Core.Bool.{beq}
use Rattle.std.proofs.lemmas.Bool.Decides.{nat_tests}
use Rattle.std.proofs.lemmas.Bool.{agree_below_at, agree_below}
use Rattle.op_table.specs.declared.names.Part.{Part}
use Rattle.op_table.specs.declared.names.Part.TheVariants.{Nmos, Cmos}
use Rattle.cpu_alu.specs.Arithmetic.{adc, sbc}
use Rattle.cpu_alu.specs.Decimal.{digits, plus, less}

-- true if two tests agree at each pair
abbrev agree : (ℕ → ℕ → Bool) → (ℕ → ℕ → Bool) → Bool
agree f g = agree_below (λ x. agree_below (f x) (g x) 100) (λ _. true) 100

agree-at : (f g : ℕ → ℕ → Bool) (x y : ℕ) → agree f g ≡ true → x < 100 → y < 100 → f x y ≡ g x y
agree-at f g x y all low lower =
    agree_below_at (f x) (g x) 100 y (agree_below_at (λ k. agree_below (f k) (g k) 100) (λ _. true) 100 x all low) lower

-- a sum and a difference are right, with their carries
abbrev is_right : Part → Bool → ℕ → ℕ → Bool
is_right part c x y =
    (eqb (adc part true (digits x) (digits y) c).value (digits (plus x y c % 100)) && beq (adc part true (digits x) (digits y) c).c (leb 100 (plus x y c)))
    && (eqb (sbc part true (digits x) (digits y) c).value (digits (less x y c % 100)) && beq (sbc part true (digits x) (digits y) c).c (leb 100 (less x y c)))

all_right : (part : Part) (c : Bool) → agree (is_right part c) (λ _ _. true) ≡ true
all_right Nmos true = refl
all_right Nmos false = refl
all_right Cmos true = refl
all_right Cmos false = refl

parts_of : (a b d e : ℕ) (p q r s : Bool) → ((eqb a b && beq p q) && (eqb d e && beq r s)) ≡ true → (a ≡ b) × (p ≡ q) × (d ≡ e) × (r ≡ s)
parts_of a b d e p q r s h = grind (arith, nat_tests)

pub decimal : (part : Part) (c : Bool) (x y : ℕ) → x < 100 → y < 100 →
    ((adc part true (digits x) (digits y) c).value ≡ digits (plus x y c % 100)) × ((adc part true (digits x) (digits y) c).c ≡ leb 100 (plus x y c))
    × ((sbc part true (digits x) (digits y) c).value ≡ digits (less x y c % 100)) × ((sbc part true (digits x) (digits y) c).c ≡ leb 100 (less x y c))
decimal part c x y low lower = parts_of _ _ _ _ _ _ _ _ (agree-at (is_right part c) (λ _ _. true) x y (all_right part c) low lower)
