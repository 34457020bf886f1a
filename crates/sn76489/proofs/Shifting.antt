-- The noise at rates 0 to 2, clock by clock.
use Rattle.std.proofs.Common.{◌≡◌, ◌≢◌, ◌∙◌, sym, ap, refl, ℕ, zero, suc, ◌+◌, ◌/◌, ◌%◌, Bool, arith, inl, inr}
use Rattle.std.proofs.lemmas.Bool.{cases_eq}
use Rattle.sn76489.specs.State.{State, Noise}
use Rattle.sn76489.specs.Clock.{rises, is_white, shift_clocks, shift_leaves, noise_clock_leaves, clocks}
use Rattle.sn76489.specs.Laws.{shifts, NoiseShiftsInTime}
use Rattle.sn76489.proofs.Playing.{test_true, test_false}

-- A property of 32, 64 and 128.
pub of_each : (Q : ℕ → Type 0) → Q 32 → Q 64 → Q 128 → (rate : ℕ) → Q (shift_clocks rate)
of_each Q slow slower slowest rate = elim (cases_eq rate 0) [
  | inl is ↦ rw (test_true rate 0 is) slow
  | inr not_0 ↦ elim (cases_eq rate 1) [
    | inl is ↦ rw (test_false rate 0 not_0, test_true rate 1 is) slower
    | inr not_1 ↦ rw (test_false rate 0 not_0, test_false rate 1 not_1) slowest
  ]
]

-- counts of clocks, modulo the clocks from one shift to the next
record IsEach (each : ℕ) : Type 0 where
  pub none : (k : ℕ) → (k % each + 0) / each ≡ 0
  pub counts : (count n d : ℕ) → d % each ≡ (count + n) % each → (d + 1) % 128 % each ≡ (count + suc n) % each
  pub number : (count n d : ℕ) → d % each ≡ (count + n) % each → (d + 1) % 128 % each ≡ (count % each + suc n) % each
  pub shift : (k n : ℕ) → (k + suc n) % each ≡ 0 → (k + suc n) / each ≡ suc ((k + n) / each)
  pub no_shift : (k n : ℕ) → (k + suc n) % each ≢ 0 → (k + suc n) / each ≡ (k + n) / each

each_32 : IsEach 32
each_32 = omega arith

each_64 : IsEach 64
each_64 = omega arith

each_128 : IsEach 128
each_128 = omega arith

is_each : (rate : ℕ) → IsEach (shift_clocks rate)
is_each rate = of_each IsEach each_32 each_64 each_128 rate

shift_behind : (white : Bool) (n r : ℕ) → shifts white (suc n) r ≡ shift_leaves white (shifts white n r)
unfolding shifts
shift_behind white zero r = refl
shift_behind white (suc n) r = shift_behind white n (shift_leaves white r)

with_register : ℕ → Noise → Noise
with_register r n = record n { register = r }

shifts_now : (number : ℕ) (rises : Bool) (r : ℕ) (n : Noise) → n.control % 4 ≢ 3 → number % shift_clocks (n.control % 4) ≡ 0 →
    noise_clock_leaves number rises (with_register r n) ≡ with_register (shift_leaves (is_white n) r) n
unfolding with_register
shifts_now number rises r n slow now = rw (test_false (n.control % 4) 3 slow, test_true (number % shift_clocks (n.control % 4)) 0 now) refl

stays_now : (number : ℕ) (rises : Bool) (r : ℕ) (n : Noise) → n.control % 4 ≢ 3 → number % shift_clocks (n.control % 4) ≢ 0 →
    noise_clock_leaves number rises (with_register r n) ≡ with_register r n
unfolding with_register
stays_now number rises r n slow not_now = rw (test_false (n.control % 4) 3 slow, test_false (number % shift_clocks (n.control % 4)) 0 not_now) refl

each_of : State → ℕ
each_of c = shift_clocks (c.noise.control % 4)

-- the number of shifts after n clocks
count_of : ℕ → State → ℕ
count_of n c = (c.count % each_of c + n) / each_of c

register_of : ℕ → State → ℕ
register_of n c = shifts (is_white c.noise) (count_of n c) c.noise.register

record InTime (n : ℕ) (c : State) : Type 0 where
  pub noise : (clocks n c).noise ≡ with_register (register_of n c) c.noise
  pub count : (clocks n c).count % each_of c ≡ (c.count + n) % each_of c

at_first : (c : State) → InTime 0 c
unfolding clocks shifts with_register each_of count_of register_of
at_first c =
    let none : (c.count % each_of c + 0) / each_of c ≡ 0 = (is_each (c.noise.control % 4)).none c.count in
    let same : c.count ≡ c.count + 0 = omega arith in
    record {
      noise = sym (ap (λ k. with_register (shifts (is_white c.noise) k c.noise.register) c.noise) none);
      count = ap (λ k. k % each_of c) same;
    }

-- one more clock
next_noise : (n : ℕ) (c : State) (number : ℕ) (rises : Bool) → c.noise.control % 4 ≢ 3 → number % each_of c ≡ (c.count % each_of c + suc n) % each_of c →
    noise_clock_leaves number rises (with_register (register_of n c) c.noise) ≡ with_register (register_of (suc n) c) c.noise
unfolding each_of count_of register_of
next_noise n c number rises slow is =
    let e = is_each (c.noise.control % 4) in
    let register : ℕ → Noise = λ k. with_register (shifts (is_white c.noise) k c.noise.register) c.noise in
    elim (cases_eq (number % each_of c) 0) [
      | inl now ↦
          shifts_now number rises (register_of n c) c.noise slow now
          ∙ ap (λ r. with_register r c.noise) (sym (shift_behind (is_white c.noise) (count_of n c) c.noise.register))
          ∙ ap register (sym (e.shift (c.count % each_of c) n (sym is ∙ now)))
      | inr not_now ↦
          stays_now number rises (register_of n c) c.noise slow not_now
          ∙ ap register (sym (e.no_shift (c.count % each_of c) n (λ h. not_now (is ∙ h))))
    ]

in_time : (n : ℕ) (c : State) → c.noise.control % 4 ≢ 3 → InTime n c
unfolding clocks each_of
in_time zero c slow = at_first c
in_time (suc n) c slow =
    let before = in_time n c slow in
    let d = clocks n c in
    let e = is_each (c.noise.control % 4) in
    record {
      noise = ap (noise_clock_leaves ((d.count + 1) % 128) (rises d.tone3)) before.noise
          ∙ next_noise n c ((d.count + 1) % 128) (rises d.tone3) slow (e.number c.count n d.count before.count);
      count = e.counts c.count n d.count before.count;
    }

pub all_in_time : NoiseShiftsInTime
unfolding with_register each_of count_of register_of
all_in_time c n slow = ap (λ (n : Noise). n.register) (in_time n c slow).noise
