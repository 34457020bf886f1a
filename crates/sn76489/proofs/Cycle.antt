-- The cycle of the noise.
use Rattle.std.proofs.Common.{◌≡◌, ◌≢◌, ◌∙◌, sym, ap, refl, ℕ, zero, suc, ◌+◌, ◌-◌, ◌*◌, ◌/◌, ◌%◌, ◌<◌, ◌==◌, Bool, true, false, arith, inl, inr}
use Rattle.std.specs.Prelude.{if◌then◌else◌}
use Rattle.std.proofs.lemmas.Bool.{cases_eq}
use Rattle.sn76489.specs.State.{start}
use Rattle.sn76489.specs.Clock.{shift_leaves}
use Rattle.sn76489.specs.Laws.{shifts, cycle, NoiseRepeats}
use Rattle.sn76489.proofs.Playing.{test_true, test_false}

-- n shifts, or 0 if one of the registers before the last is that of the start
walk : Bool → ℕ → ℕ → ℕ
walk white zero r = r
walk white (suc n) r = walk white n (if r == start then 0 else shift_leaves white r)

stays_0 : (white : Bool) (n : ℕ) → walk white n 0 ≡ 0
unfolding walk
stays_0 white zero = refl
stays_0 true (suc n) = stays_0 true n
stays_0 false (suc n) = stays_0 false n

not_yet : (white : Bool) (n r : ℕ) → walk white (suc n) r ≢ 0 → r ≢ start
unfolding walk
not_yet white n r some is = some (rw (test_true r start is) (stays_0 white n))

goes_on : (white : Bool) (n r : ℕ) → r ≢ start → walk white (suc n) r ≡ walk white n (shift_leaves white r)
unfolding walk
goes_on white n r other = rw (test_false r start other) refl

walks_on : (white : Bool) (n r : ℕ) → walk white (suc n) r ≢ 0 → walk white n (shift_leaves white r) ≢ 0
walks_on white n r some e = some (goes_on white n r (not_yet white n r some) ∙ e)

-- a walk that is not 0 is all shifts, and none of the registers before its end is the start
is_shifts : (white : Bool) (n r : ℕ) → walk white n r ≢ 0 → shifts white n r ≡ walk white n r
unfolding walk shifts
is_shifts white zero r some = refl
is_shifts white (suc n) r some =
    is_shifts white n (shift_leaves white r) (walks_on white n r some) ∙ sym (goes_on white n r (not_yet white n r some))

passes_none : (white : Bool) (n k r : ℕ) → walk white n r ≢ 0 → k < n → shifts white k r ≢ start
unfolding shifts
passes_none white zero k r some within = absurd (omega (arith, within))
passes_none white (suc n) zero r some within = not_yet white n r some
passes_none white (suc n) (suc k) r some within = passes_none white n k (shift_leaves white r) (walks_on white n r some) (omega (arith, within))

-- After p shifts, and no fewer, the register has its first value.
record Repeats (white : Bool) (p : ℕ) : Type 0 where
  pub some : 0 < p
  pub back : shifts white p start ≡ start
  pub others : (k : ℕ) → 0 < k → k < p → shifts white k start ≢ start

first_shift : (white : Bool) (n : ℕ) → shifts white (suc n) start ≡ shifts white n (shift_leaves white start)
unfolding shifts
first_shift white n = refl

-- one walk of n shifts from the first one on shows it
repeats_by : (white : Bool) (n : ℕ) → walk white n (shift_leaves white start) ≡ start → Repeats white (suc n)
repeats_by white n round =
    let some : walk white n (shift_leaves white start) ≢ 0 = λ e. omega (arith, e, round) in
    record {
      some = omega arith;
      back = first_shift white n ∙ is_shifts white n (shift_leaves white start) some ∙ round;
      others = λ k above below.
          let e : suc (k - 1) ≡ k = omega (arith, above) in
          rw (← e, first_shift white (k - 1)) (passes_none white n (k - 1) (shift_leaves white start) some (omega (arith, above, below)));
    }

white_repeats : Repeats true 32767
unfolding walk
white_repeats = repeats_by true 32766 refl

other_repeats : Repeats false 15
unfolding walk
other_repeats = repeats_by false 14 refl

repeats : (white : Bool) → Repeats white (cycle white)
repeats true = white_repeats
repeats false = other_repeats

more_shifts : (white : Bool) (a b r : ℕ) → shifts white (a + b) r ≡ shifts white b (shifts white a r)
unfolding shifts
more_shifts white zero b r = let e : 0 + b ≡ b = omega arith in ap (λ n. shifts white n r) e
more_shifts white (suc a) b r =
    let e : suc a + b ≡ suc (a + b) = omega arith in ap (λ n. shifts white n r) e ∙ more_shifts white a b (shift_leaves white r)

-- whole cycles do nothing
whole_cycles : (white : Bool) (p q n : ℕ) → Repeats white p → shifts white (q * p + n) start ≡ shifts white n start
whole_cycles white p zero n round = let e : 0 * p + n ≡ n = omega arith in ap (λ k. shifts white k start) e
whole_cycles white p (suc q) n round =
    let e : suc q * p + n ≡ p + (q * p + n) = omega arith in
    ap (λ k. shifts white k start) e ∙ more_shifts white p (q * p + n) start ∙ ap (shifts white (q * p + n)) round.back ∙ whole_cycles white p q n round

within : (white : Bool) (p k : ℕ) → Repeats white p → k < p → (shifts white k start == start) ≡ (k == 0)
unfolding shifts
within white p k round below =
    elim (cases_eq k 0) [
      | inl none ↦ rw none refl
      | inr some ↦ test_false (shifts white k start) start (round.others k (omega arith) below) ∙ sym (test_false k 0 some)
    ]

at_all : (white : Bool) (p n : ℕ) → Repeats white p → (shifts white n start == start) ≡ (n % p == 0)
at_all white p n round =
    let some = round.some in
    let below : n % p < p = omega arith in
    let parts : n ≡ n / p * p + n % p = omega arith in
    ap (λ k. shifts white k start == start) parts ∙ ap (λ r. r == start) (whole_cycles white p (n / p) (n % p) round) ∙ within white p (n % p) round below

pub all_repeat : NoiseRepeats
all_repeat white n = at_all white (cycle white) n (repeats white)
