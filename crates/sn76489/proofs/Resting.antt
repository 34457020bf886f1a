-- Quiet clocks: counters only go down.
use Rattle.std.proofs.Common.{◌≡◌, ◌≢◌, ◌∙◌, sym, ap, refl, ℕ, zero, suc, ◌+◌, ◌-◌, ◌%◌, ◌<◌, ◌≤◌, Bool, false, arith, inl, inr}
use Rattle.std.proofs.lemmas.Bool.{cases_eq}
use Rattle.std.proofs.lemmas.Bool.Decides.{nat_tests}
use Rattle.sn76489.specs.State.{State, Tone, Noise}
use Rattle.sn76489.specs.Clock.{tone_clock_leaves, rises, shift_clocks, shifts_at, noise_clock_leaves, clock_leaves, clocks}
use Rattle.sn76489.specs.Quiet.{tone_quiet, noise_quiet, tone_lowered, lower_leaves, IsQuiet}
use Rattle.sn76489.proofs.Shifting.{of_each}
use Rattle.sn76489.proofs.Playing.{test_true, test_false}
use Rattle.sn76489.proofs.Runs.{no_clocks, clock_behind}

pub fewer : (n m : ℕ) (c : State) → n ≤ m → IsQuiet m c → IsQuiet n c
fewer n m c low q = omega arith

tone_step : (n : ℕ) (t : Tone) → suc n ≤ tone_quiet t → tone_clock_leaves (tone_lowered n t) ≡ tone_lowered (suc n) t
tone_step n t low = grind (arith, nat_tests)

stays_low : (n : ℕ) (t : Tone) → suc n ≤ tone_quiet t → rises (tone_lowered n t) ≡ false
stays_low n t low = grind (arith, nat_tests)

-- the number of a clock that is no multiple
no_multiple : (rate k n : ℕ) → suc n ≤ shift_clocks rate - 1 - k % shift_clocks rate → ((k + n) % 128 + 1) % 128 % shift_clocks rate ≢ 0
no_multiple rate k n =
    of_each (λ each. suc n ≤ each - 1 - k % each → ((k + n) % 128 + 1) % 128 % each ≢ 0) (λ low e. omega (arith, low, e)) (λ low e. omega (arith, low, e))
    (λ low e. omega (arith, low, e)) rate

no_shift : (k n : ℕ) (noise : Noise) → suc n ≤ noise_quiet k noise → shifts_at (((k + n) % 128 + 1) % 128) false noise ≡ false
no_shift k n noise low =
    elim (cases_eq (noise.control % 4) 3) [
      | inl by_tone ↦ rw (test_true (noise.control % 4) 3 by_tone) refl
      | inr by_rate ↦
          rw (test_false (noise.control % 4) 3 by_rate)
          (test_false (((k + n) % 128 + 1) % 128 % shift_clocks (noise.control % 4)) 0 (no_multiple (noise.control % 4) k n low))
    ]

noise_stays : (number : ℕ) (up : Bool) (noise : Noise) → up ≡ false → shifts_at number false noise ≡ false → noise_clock_leaves number up noise ≡ noise
noise_stays number up noise is none = rw (is, none) refl

clocked_as : (s : State) (t1 t2 t3 : Tone) (z : Noise) (k : ℕ) → tone_clock_leaves s.tone1 ≡ t1 → tone_clock_leaves s.tone2 ≡ t2 → tone_clock_leaves s.tone3 ≡ t3 →
    noise_clock_leaves ((s.count + 1) % 128) (rises s.tone3) s.noise ≡ z → (s.count + 1) % 128 ≡ k →
    clock_leaves s ≡ record s { tone1 = t1; tone2 = t2; tone3 = t3; noise = z; count = k }
clocked_as s t1 t2 t3 z k is1 is2 is3 noise count = λ i. record s { tone1 = is1 i; tone2 = is2 i; tone3 = is3 i; noise = noise i; count = count i }

one_lower : (n : ℕ) (c : State) → IsQuiet (suc n) c → clock_leaves (lower_leaves n c) ≡ lower_leaves (suc n) c
one_lower n c q =
    clocked_as (lower_leaves n c) _ _ _ _ _ (tone_step n c.tone1 q.tone1) (tone_step n c.tone2 q.tone2) (tone_step n c.tone3 q.tone3)
    (noise_stays (((c.count + n) % 128 + 1) % 128) (rises (tone_lowered n c.tone3)) c.noise (stays_low n c.tone3 q.tone3) (no_shift c.count n c.noise q.noise))
    (omega arith)

tone_none : (t : Tone) → t ≡ tone_lowered 0 t
tone_none t = let same : t.counter ≡ t.counter - 0 = omega arith in λ i. record t { counter = same i }

none_lower : (c : State) → c.count < 128 → c ≡ lower_leaves 0 c
none_lower c few =
    let same : c.count ≡ (c.count + 0) % 128 = omega (arith, few) in
    λ i. record c { tone1 = tone_none c.tone1 i; tone2 = tone_none c.tone2 i; tone3 = tone_none c.tone3 i; count = same i }

pub quiet_clocks : (n : ℕ) (c : State) → IsQuiet n c → lower_leaves n c ≡ clocks n c
quiet_clocks zero c q = sym (none_lower c q.count) ∙ sym (no_clocks c)
quiet_clocks (suc n) c q =
    sym (one_lower n c q) ∙ ap clock_leaves (quiet_clocks n c (fewer n (suc n) c (omega arith) q)) ∙ sym (clock_behind n c)

-- the parts of the chip after quiet clocks
pub lowered_is : (n : ℕ) (c : State) (t1 t2 t3 : Tone) (k : ℕ) → IsQuiet n c → t1 ≡ tone_lowered n c.tone1 → t2 ≡ tone_lowered n c.tone2 →
    t3 ≡ tone_lowered n c.tone3 → k ≡ (c.count + n) % 128 → record c { tone1 = t1; tone2 = t2; tone3 = t3; count = k } ≡ clocks n c
lowered_is n c t1 t2 t3 k q is1 is2 is3 count =
    (λ i. record c { tone1 = is1 i; tone2 = is2 i; tone3 = is3 i; count = count i }) ∙ quiet_clocks n c q

-- clocks, and more clocks after them
pub clocks_behind : (a b : ℕ) (c : State) → clocks (a + b) c ≡ clocks b (clocks a c)
clocks_behind a zero c = let same : a + 0 ≡ a = omega arith in ap (λ n. clocks n c) same ∙ sym (no_clocks (clocks a c))
clocks_behind a (suc b) c =
    let same : a + suc b ≡ suc (a + b) = omega arith in
    ap (λ n. clocks n c) same ∙ clock_behind (a + b) c ∙ ap clock_leaves (clocks_behind a b c) ∙ sym (clock_behind b (clocks a c))
