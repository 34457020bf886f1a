-- Timer 2, and timer 1 in one-shot mode, after many steps that count.
use Rattle.std.proofs.Common.{◌≡◌, ◌∙◌, ap, sym, refl, ℕ, zero, suc, ◌+◌, ◌-◌, ◌*◌, ◌%◌, ◌<◌, ◌≤◌, ◌&&◌, ◌||◌, nat_lt, Bool, true, false, not, arith}
use Rattle.std.proofs.lemmas.Bool.Decides.{nat_tests}
use Rattle.via6522.specs.State.{Timer1, Timer2}
use Rattle.via6522.specs.Timers.{timer1_after, timer1_flags, timer2_after, timer2_flags}
use Rattle.via6522.specs.Jumps.{timer1_later, timer1_flags_within, timer2_later, timer2_flags_within}

-- the counter n steps later
abbrev pub counter_later : ℕ → ℕ → ℕ
counter_later n counter = (counter + 65535 * n) % 65536

-- each timer n steps later, in one-shot mode: it stays armed until its counter underflows
abbrev pub put1 : ℕ → ℕ → Bool → Timer1 → Timer1
put1 n counter armed t = record t { counter = counter_later n counter; armed = armed && not (nat_lt counter n) }

abbrev pub put2 : ℕ → ℕ → Bool → Timer2 → Timer2
put2 n counter armed t = record t { counter = counter_later n counter; armed = armed && not (nat_lt counter n) }

more1 : (n counter : ℕ) (armed : Bool) (t : Timer1) → counter < 65536 → t.reload ≡ false →
    (timer1_after false (put1 n counter armed t) ≡ put1 (suc n) counter armed t)
    × (((armed && nat_lt counter n) || timer1_flags false (put1 n counter armed t)) ≡ (armed && nat_lt counter (suc n)))
more1 n counter armed t small loaded = grind (arith, nat_tests)

pub counts_once1 : (n : ℕ) (t : Timer1) → t.counter < 65536 → t.reload ≡ false →
    (timer1_later false n t ≡ put1 n t.counter t.armed t) × (timer1_flags_within false n t ≡ (t.armed && nat_lt t.counter n))
counts_once1 zero t small loaded = (grind (arith, nat_tests), grind (arith, nat_tests))
counts_once1 (suc n) t small loaded =
    let before = counts_once1 n t small loaded in
    let more = more1 n t.counter t.armed t small loaded in
    (ap (timer1_after false) before.0 ∙ more.0, rw (before.1, before.0) more.1)

more2 : (n counter : ℕ) (armed : Bool) (t : Timer2) → counter < 65536 → t.fresh ≡ false →
    (timer2_after false (put2 n counter armed t) ≡ put2 (suc n) counter armed t)
    × (((armed && nat_lt counter n) || timer2_flags false (put2 n counter armed t)) ≡ (armed && nat_lt counter (suc n)))
more2 n counter armed t small begun = grind (arith, nat_tests)

pub counts_once2 : (n : ℕ) (t : Timer2) → t.counter < 65536 → t.fresh ≡ false →
    (timer2_later false n t ≡ put2 n t.counter t.armed t) × (timer2_flags_within false n t ≡ (t.armed && nat_lt t.counter n))
counts_once2 zero t small begun = (grind (arith, nat_tests), grind (arith, nat_tests))
counts_once2 (suc n) t small begun =
    let before = counts_once2 n t small begun in
    let more = more2 n t.counter t.armed t small begun in
    (ap (timer2_after false) before.0 ∙ more.0, rw (before.1, before.0) more.1)

-- a timer that does not count does not change
pub stands_still : (n : ℕ) (t : Timer2) → (timer2_later true n t ≡ t) × (timer2_flags_within true n t ≡ false)
stands_still zero t = (refl, refl)
stands_still (suc n) t = let before = stands_still n t in (before.0, rw before.1 refl)

-- the first step does not count
first2 : (n : ℕ) (t : Timer2) → t.fresh ≡ true →
    (timer2_later false n (record t { fresh = false }) ≡ timer2_later false (suc n) t) × (timer2_flags_within false n (record t { fresh = false }) ≡ timer2_flags_within false (suc n) t)
first2 zero t waits = (rw waits refl, rw waits refl)
first2 (suc n) t waits = let before = first2 n t waits in (ap (timer2_after false) before.0, rw (before.1, before.0) refl)

pub starts2 : (n : ℕ) (t : Timer2) → t.fresh ≡ true → 0 < n →
    (timer2_later false (n - 1) (record t { fresh = false }) ≡ timer2_later false n t) × (timer2_flags_within false (n - 1) (record t { fresh = false }) ≡ timer2_flags_within false n t)
starts2 n t waits some =
    let parts : suc (n - 1) ≡ n = omega arith in
    let all = first2 (n - 1) t waits in
    (all.0 ∙ ap (λ (i : ℕ). timer2_later false i t) parts, all.1 ∙ ap (λ (i : ℕ). timer2_flags_within false i t) parts)

-- past the end, and before it
pub past1 : (n : ℕ) (t : Timer1) → t.reload ≡ false → t.counter < 65536 → t.counter < n →
    (record t { counter = (t.counter + (65536 - n % 65536)) % 65536; armed = false } ≡ timer1_later false n t) × (t.armed ≡ timer1_flags_within false n t)
past1 n t loaded small over =
    let all = counts_once1 n t small loaded in
    let is : put1 n t.counter t.armed t ≡ record t { counter = (t.counter + (65536 - n % 65536)) % 65536; armed = false } = grind (arith, nat_tests) in
    let flag : (t.armed && nat_lt t.counter n) ≡ t.armed = grind (arith, nat_tests) in
    (sym (all.0 ∙ is), sym (all.1 ∙ flag))

pub past2 : (n : ℕ) (t : Timer2) → t.fresh ≡ false → t.counter < 65536 → t.counter < n →
    (record t { counter = (t.counter + (65536 - n % 65536)) % 65536; armed = false } ≡ timer2_later false n t) × (t.armed ≡ timer2_flags_within false n t)
past2 n t begun small over =
    let all = counts_once2 n t small begun in
    let is : put2 n t.counter t.armed t ≡ record t { counter = (t.counter + (65536 - n % 65536)) % 65536; armed = false } = grind (arith, nat_tests) in
    let flag : (t.armed && nat_lt t.counter n) ≡ t.armed = grind (arith, nat_tests) in
    (sym (all.0 ∙ is), sym (all.1 ∙ flag))

pub within2 : (n : ℕ) (t : Timer2) → t.fresh ≡ false → t.counter < 65536 → n ≤ t.counter →
    (record t { counter = t.counter - n } ≡ timer2_later false n t) × (false ≡ timer2_flags_within false n t)
within2 n t begun small inside =
    let all = counts_once2 n t small begun in
    let is : put2 n t.counter t.armed t ≡ record t { counter = t.counter - n } = grind (arith, nat_tests) in
    let flag : (t.armed && nat_lt t.counter n) ≡ false = grind (arith, nat_tests) in
    (sym (all.0 ∙ is), sym (all.1 ∙ flag))
