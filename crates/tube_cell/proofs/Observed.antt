-- An observation leaves the chip, and chips that show the parasite the same answer its observations
-- alike.
use Rattle.std.proofs.Common.{◌≡◌, ℕ, ◌≤◌, nat_eq, Bool, true, false, true≢false, ◌&&◌, cond, min, refl, sym, ap, ◌∙◌, arith}
use mathlib.Core.Bool.{beq}
use Rattle.std.proofs.lemmas.Bool.Decides.{nat_tests}
use Rattle.beeb_bits.specs.declared.Side.{Side}
use Rattle.beeb_bits.specs.declared.Side.TheVariants.{Host, Para}
use Rattle.tube_chip.specs.declared.Op.TheVariants.{Read, Write, Reset}
use Rattle.tube_chip.specs.declared.Lines.{Lines}
use Rattle.tube_chip.specs.State.{State, lines_of}
use Rattle.tube_chip.specs.Act.{Query, access, look, act, status}
use Rattle.tube_chip.proofs.Rises.{status_leaves}
use Rattle.tube_cell.specs.Views.{is_observation, same_lines, same_readings, spec_horizon_next}

-- ---- the chip stays

pub observed_stays : (c : State) (s : Side) (q : Query) → is_observation q ≡ true → (act c s q).0 ≡ c
observed_stays c s (access (Read number)) is = status_leaves c s number is
observed_stays c s (access (Write number byte)) is = absurd (true≢false (sym is))
observed_stays c s (access Reset) is = absurd (true≢false (sym is))
observed_stays c s look is = refl

-- ---- the same readings

-- d shows the parasite what c does
abbrev pub ShowsSame : State → State → Type 0
ShowsSame c d = (lines_of d ≡ lines_of c) × ((k : ℕ) → status Para k d ≡ status Para k c)

pub shows_itself : (c : State) → ShowsSame c c
shows_itself c = (refl, λ k. refl)

pub same_answer : (c d : State) (q : Query) → ShowsSame c d → is_observation q ≡ true → (act d Para q).1 ≡ (act c Para q).1
same_answer c d q same is = grind (arith, nat_tests)

-- ---- by their test

eq_from : (a b : ℕ) → nat_eq a b ≡ true → a ≡ b
eq_from a b e = grind (arith, nat_tests)

both_from : (a b : Bool) → (a && b) ≡ true → (a ≡ true) × (b ≡ true)
both_from a b e = grind arith

lines_from : (a b : Lines) → same_lines a b ≡ true → a ≡ b
lines_from a b e = grind (arith, nat_tests)

four_from : (c d : State) → status Para 1 c ≡ status Para 1 d → status Para 2 c ≡ status Para 2 d → status Para 3 c ≡ status Para 3 d
    → status Para 4 c ≡ status Para 4 d → (k : ℕ) → status Para k d ≡ status Para k c
four_from c d first second third last k = go (nat_eq k 1) (nat_eq k 2) (nat_eq k 3) refl refl refl
  where
    go : (x y z : Bool) → nat_eq k 1 ≡ x → nat_eq k 2 ≡ y → nat_eq k 3 ≡ z → status Para k d ≡ status Para k c
    go a0 y z one two three = grind (arith, nat_tests)

pub readings_from : (c d : State) → same_readings c d ≡ true → ShowsSame c d
readings_from c d e =
    let l = same_lines (lines_of c) (lines_of d) in
    let s : ℕ → Bool = λ k. nat_eq (status Para k c) (status Para k d) in
    let p = both_from (((l && s 1) && s 2) && s 3) (s 4) e in
    let q = both_from ((l && s 1) && s 2) (s 3) p.0 in
    let r = both_from (l && s 1) (s 2) q.0 in
    let t = both_from l (s 1) r.0 in
    let from : (k : ℕ) → s k ≡ true → status Para k c ≡ status Para k d = λ k. eq_from (status Para k c) (status Para k d) in
    (sym (lines_from (lines_of c) (lines_of d) t.0), four_from c d (from 1 t.1) (from 2 r.1) (from 3 q.1) (from 4 p.1))

-- ---- the test, at one chip

flag_same : (a : Bool) → beq a a ≡ true
flag_same true = refl
flag_same false = refl

nat_same : (n : ℕ) → nat_eq n n ≡ true
nat_same n = grind (arith, nat_tests)

lines_same : (a : Lines) → same_lines a a ≡ true
lines_same a = rw (flag_same a.prst, nat_same a.resets, nat_same a.nmis, flag_same a.pirq, flag_same a.hirq) refl

readings_same : (c : State) → same_readings c c ≡ true
readings_same c =
    let s : (k : ℕ) → nat_eq (status Para k c) (status Para k c) ≡ true = λ k. nat_same (status Para k c) in
    λ i. lines_same (lines_of c) i && s 1 i && s 2 i && s 3 i && s 4 i

-- if the chip stays, so does the speculative horizon
pub spec_horizon_stays : (s : Side) {c d : State} (t a : ℕ) → d ≡ c → spec_horizon_next s c d t a ≡ a
spec_horizon_stays Host {c} t a same = ap (λ x. spec_horizon_next Host c x t a) same ∙ ap (λ b. cond b a (min a t)) (readings_same c)
spec_horizon_stays Para t a same = refl

-- if the speculative horizon is at or below the tick, it stays too
pub early_stays : (c d : State) (t a : ℕ) → a ≤ t → spec_horizon_next Host c d t a ≡ a
early_stays c d t a le = go (same_readings c d)
  where
    go : (b : Bool) → cond b a (min a t) ≡ a
    go true = refl
    go false = omega arith
