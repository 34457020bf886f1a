-- Timer 1 in free-running mode, after many steps: it counts down once, and then once from its latch
-- in each period.
use Rattle.std.proofs.Common.{◌≡◌, ◌∙◌, ap, sym, refl, ℕ, zero, suc, ◌+◌, ◌-◌, ◌*◌, ◌/◌, ◌%◌, ◌<◌, ◌≤◌, ◌||◌, Bool, true, false, add-zero, add-suc, add-one, arith}
use Rattle.std.proofs.Math.Bool.{or_assoc, or-false}
use Rattle.std.proofs.lemmas.Bool.Decides.{nat_tests}
use Rattle.std.proofs.lemmas.Nat.{div-add-mod'}
use Rattle.via6522.specs.State.{Timer1}
use Rattle.via6522.specs.Timers.{word, one_less, runs_out, timer1_after, timer1_flags}
use Rattle.via6522.specs.Jumps.{timer1_at_end, timer1_later, timer1_flags_within}

-- m steps and then n
pub later_both : (free : Bool) (m n : ℕ) (t : Timer1) → timer1_later free (m + n) t ≡ timer1_later free n (timer1_later free m t)
later_both free m zero t = rw add-zero refl
later_both free m (suc n) t = rw add-suc (ap (timer1_after free) (later_both free m n t))

pub flags_both : (free : Bool) (m n : ℕ) (t : Timer1) → timer1_flags_within free (m + n) t ≡ (timer1_flags_within free m t || timer1_flags_within free n (timer1_later free m t))
flags_both free m zero t = rw add-zero (sym (or-false _))
flags_both free m (suc n) t = rw add-suc (
    ap (λ (b : Bool). b || timer1_flags free (timer1_later free (m + n) t)) (flags_both free m n t)
    ∙ ap (λ (u : Timer1). (timer1_flags_within free m t || timer1_flags_within free n (timer1_later free m t)) || timer1_flags free u) (later_both free m n t)
    ∙ or_assoc (timer1_flags_within free m t) (timer1_flags_within free n (timer1_later free m t)) (timer1_flags free (timer1_later free n (timer1_later free m t))))

-- it only counts until it is 0
pub counts_down : (free : Bool) (n : ℕ) (t : Timer1) → t.reload ≡ false → t.counter < 65536 → n ≤ t.counter →
    (timer1_later free n t ≡ record t { counter = t.counter - n }) × (timer1_flags_within free n t ≡ false)
counts_down free zero t loaded small within = (let same : t.counter ≡ t.counter - 0 = omega arith in ap (λ (k : ℕ). record t { counter = k }) same, refl)
counts_down free (suc n) t loaded small within =
    let fewer : n ≤ t.counter = omega arith in
    let before = counts_down free n t loaded small fewer in
    let on : runs_out (t.counter - n) ≡ false = grind (arith, nat_tests) in
    let less : one_less (t.counter - n) ≡ t.counter - suc n = omega arith in
    (rw (before.0, loaded, on, less) refl, rw (before.1, before.0, loaded, on) refl)

pub runs_down : (t : Timer1) → t.reload ≡ false → t.counter < 65536 →
    (timer1_later true (t.counter + 1) t ≡ timer1_at_end t) × (timer1_flags_within true (t.counter + 1) t ≡ true)
runs_down t loaded small =
    let all : t.counter ≤ t.counter = omega arith in
    let before = counts_down true t.counter t loaded small all in
    let out : runs_out (t.counter - t.counter) ≡ true = grind (arith, nat_tests) in
    rw add-one (rw (before.0, loaded, out) refl, rw (before.1, before.0, loaded, out) refl)

abbrev pub after_reload : Timer1 → Timer1
after_reload t = record t { counter = word t.latch_high t.latch_low; reload = false }

-- a period leads to the same state
period : (t : Timer1) → word t.latch_high t.latch_low < 65536 → timer1_later true (word t.latch_high t.latch_low + 2) (timer1_at_end t) ≡ timer1_at_end t
period t small =
    let parts : word t.latch_high t.latch_low + 2 ≡ 1 + (word t.latch_high t.latch_low + 1) = omega arith in
    rw parts (later_both true 1 (word t.latch_high t.latch_low + 1) (timer1_at_end t) ∙ (runs_down (after_reload t) refl small).0)

periods : (k : ℕ) (t : Timer1) → word t.latch_high t.latch_low < 65536 → timer1_later true (k * (word t.latch_high t.latch_low + 2)) (timer1_at_end t) ≡ timer1_at_end t
periods zero t small =
    let none : 0 * (word t.latch_high t.latch_low + 2) ≡ 0 = omega arith in rw none refl
periods (suc k) t small =
    let parts : suc k * (word t.latch_high t.latch_low + 2) ≡ k * (word t.latch_high t.latch_low + 2) + (word t.latch_high t.latch_low + 2) = omega arith in
    rw parts (later_both true (k * (word t.latch_high t.latch_low + 2)) (word t.latch_high t.latch_low + 2) (timer1_at_end t)
    ∙ ap (timer1_later true (word t.latch_high t.latch_low + 2)) (periods k t small) ∙ period t small)

-- whole periods may be left out
pub by_phase : (n : ℕ) (t : Timer1) → word t.latch_high t.latch_low < 65536 →
    timer1_later true n (timer1_at_end t) ≡ timer1_later true (n % (word t.latch_high t.latch_low + 2)) (timer1_at_end t)
by_phase n t small =
    let k = n / (word t.latch_high t.latch_low + 2) in
    let m = n % (word t.latch_high t.latch_low + 2) in
    let parts : n ≡ k * (word t.latch_high t.latch_low + 2) + m = sym (div-add-mod' n (word t.latch_high t.latch_low + 2)) in
    ap (λ (i : ℕ). timer1_later true i (timer1_at_end t)) parts ∙ later_both true (k * (word t.latch_high t.latch_low + 2)) m (timer1_at_end t)
    ∙ ap (timer1_later true m) (periods k t small)

-- inside a period
pub in_phase : (m : ℕ) (t : Timer1) → word t.latch_high t.latch_low < 65536 → 0 < m → m < word t.latch_high t.latch_low + 2 →
    timer1_later true m (timer1_at_end t) ≡ record t { counter = word t.latch_high t.latch_low + 1 - m; reload = false }
in_phase m t small some inside =
    let parts : m ≡ 1 + (m - 1) = omega arith in
    let within : m - 1 ≤ word t.latch_high t.latch_low = omega arith in
    let same : word t.latch_high t.latch_low - (m - 1) ≡ word t.latch_high t.latch_low + 1 - m = omega arith in
    ap (λ (i : ℕ). timer1_later true i (timer1_at_end t)) parts ∙ later_both true 1 (m - 1) (timer1_at_end t) ∙ (counts_down true (m - 1) (after_reload t) refl small within).0
    ∙ ap (λ (k : ℕ). record t { counter = k; reload = false }) same

-- after whole periods, and inside one
pub whole : (v n : ℕ) (t : Timer1) → word t.latch_high t.latch_low ≡ v → v < 65536 → n % (v + 2) ≡ 0 → timer1_at_end t ≡ timer1_later true n (timer1_at_end t)
whole v n t is small none =
    let same : n % (word t.latch_high t.latch_low + 2) ≡ 0 = rw is none in
    sym (by_phase n t (omega arith) ∙ ap (λ (m : ℕ). timer1_later true m (timer1_at_end t)) same)

pub partly : (v n : ℕ) (t : Timer1) → word t.latch_high t.latch_low ≡ v → v < 65536 → 0 < n % (v + 2) →
    record t { counter = v + 1 - n % (v + 2); reload = false } ≡ timer1_later true n (timer1_at_end t)
partly v n t is small some =
    let inside : n % (v + 2) < v + 2 = omega arith in
    let same : n % (word t.latch_high t.latch_low + 2) ≡ n % (v + 2) = rw is refl in
    let count : word t.latch_high t.latch_low + 1 - n % (v + 2) ≡ v + 1 - n % (v + 2) = rw is refl in
    sym (by_phase n t (omega arith) ∙ ap (λ (m : ℕ). timer1_later true m (timer1_at_end t)) same ∙ in_phase (n % (v + 2)) t (omega arith) some (omega arith)
    ∙ ap (λ (k : ℕ). record t { counter = k; reload = false }) count)

-- past the first end
pub runs_past : (n : ℕ) (t : Timer1) → t.reload ≡ false → t.counter < 65536 → t.counter < n →
    (timer1_later true (n - t.counter - 1) (timer1_at_end t) ≡ timer1_later true n t) × (true ≡ timer1_flags_within true n t)
runs_past n t loaded small past =
    let parts : (t.counter + 1) + (n - t.counter - 1) ≡ n = omega arith in
    let down = runs_down t loaded small in (
      sym (ap (timer1_later true (n - t.counter - 1)) down.0) ∙ sym (later_both true (t.counter + 1) (n - t.counter - 1) t) ∙ ap (λ (i : ℕ). timer1_later true i t) parts,
      ap (λ (b : Bool). b || timer1_flags_within true (n - t.counter - 1) (timer1_later true (t.counter + 1) t)) (sym down.1)
          ∙ sym (flags_both true (t.counter + 1) (n - t.counter - 1) t) ∙ ap (λ (i : ℕ). timer1_flags_within true i t) parts,
    )

-- the first step loads the counter
pub loads : (free : Bool) (n : ℕ) (t : Timer1) → t.reload ≡ true → 0 < n →
    (timer1_later free (n - 1) (after_reload t) ≡ timer1_later free n t) × (timer1_flags_within free (n - 1) (after_reload t) ≡ timer1_flags_within free n t)
loads free n t waits some =
    let parts : 1 + (n - 1) ≡ n = omega arith in
    let first : timer1_later free 1 t ≡ after_reload t = rw waits refl in
    let none : timer1_flags_within free 1 t ≡ false = rw waits refl in (
      sym (ap (timer1_later free (n - 1)) first) ∙ sym (later_both free 1 (n - 1) t) ∙ ap (λ (i : ℕ). timer1_later free i t) parts,
      sym (ap (timer1_flags_within free (n - 1)) first) ∙ sym (ap (λ (b : Bool). b || timer1_flags_within free (n - 1) (timer1_later free 1 t)) none)
          ∙ sym (flags_both free 1 (n - 1) t) ∙ ap (λ (i : ℕ). timer1_flags_within free i t) parts,
    )
