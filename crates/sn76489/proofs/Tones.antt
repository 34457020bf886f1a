-- A tone, clock by clock.
use Rattle.std.proofs.Common.{◌≡◌, ◌∙◌, sym, ap, refl, ℕ, zero, suc, max, ◌+◌, ◌-◌, ◌%◌, ◌<◌, ◌≤◌, ◌==◌, true, arith}
use Rattle.std.proofs.lemmas.Bool.Decides.{nat_tests}
use Rattle.std.proofs.Math.Nat.{add-mod_left, mod-eq_of_lt}
use Rattle.sn76489.specs.State.{State, Tone}
use Rattle.sn76489.specs.Clock.{period_clocks, tone_clock_leaves, clock_leaves, clocks}
use Rattle.sn76489.specs.Laws.{OfEachTone, output_after, turns_at, TurnsOver, TurnsAtPeriod0, TurnsAtPeriod1}
use Rattle.sn76489.proofs.Runs.{one_clock_more}

-- n clocks of a tone by itself
after : ℕ → Tone → Tone
after zero t = t
after (suc n) t = after n (tone_clock_leaves t)

after_behind : (n : ℕ) (t : Tone) → after n (tone_clock_leaves t) ≡ tone_clock_leaves (after n t)
unfolding after
after_behind zero t = refl
after_behind (suc n) t = after_behind n (tone_clock_leaves t)

some_clocks : (period : ℕ) → 0 < period_clocks period
some_clocks period = grind (arith, nat_tests)

-- after a change of the output the next one is a period later
turn_behind : (n clocks : ℕ) → clocks ≤ n → (n - clocks) % clocks ≡ n % clocks
turn_behind n clocks on = let same : clocks + (n - clocks) ≡ n = omega arith in sym (add-mod_left clocks (n - clocks)) ∙ ap (λ k. k % clocks) same

-- the changes of a tone's output do not depend on the clock from which clocks count
same_turns : (n : ℕ) (t : Tone) → 0 < n → turns_at n (tone_clock_leaves t) ≡ turns_at (n + 1) t
same_turns n t some =
    let p = period_clocks t.period in
    let more = some_clocks t.period in
    let far : p ≤ n → (n - p) % p ≡ n % p = turn_behind n p in
    let near : n < p → n % p ≡ n = λ early. mod-eq_of_lt early in
    grind (arith, nat_tests)

first_turn : (t : Tone) → (tone_clock_leaves t).output ≡ output_after (turns_at 1 t) t.output
first_turn t =
    let none : 0 % period_clocks t.period ≡ 0 = mod-eq_of_lt (some_clocks t.period) in
    grind (arith, nat_tests)

turns_each : (n : ℕ) (t : Tone) → (tone_clock_leaves (after n t)).output ≡ output_after (turns_at (n + 1) t) (after n t).output
unfolding after
turns_each zero t = first_turn t
turns_each (suc n) t =
    let e : suc n + 1 ≡ n + 1 + 1 = omega arith in
    turns_each n (tone_clock_leaves t) ∙ ap (λ b. output_after b (after n (tone_clock_leaves t)).output) (same_turns (n + 1) t (omega arith) ∙ ap (λ k. turns_at k t) (sym e))

-- a tone of the chip depends only on itself
abbrev IsTone : (State → Tone) → Type 0
IsTone tone = (c : State) → tone (clock_leaves c) ≡ tone_clock_leaves (tone c)

by_itself : (tone : State → Tone) (n : ℕ) (c : State) → IsTone tone → tone (clocks n c) ≡ after n (tone c)
unfolding clocks after
by_itself tone zero c is = refl
by_itself tone (suc n) c is = is (clocks n c) ∙ ap tone_clock_leaves (by_itself tone n c is) ∙ sym (after_behind n (tone c))

one_turns : (tone : State → Tone) → IsTone tone → TurnsOver tone
one_turns tone is c n =
    let here = by_itself tone n c is in
    ap (λ (d : State). (tone d).output) (one_clock_more n c) ∙ ap (λ (t : Tone). t.output) (is (clocks n c) ∙ ap tone_clock_leaves here) ∙ turns_each n (tone c)
    ∙ ap (λ (t : Tone). output_after (turns_at (n + 1) (tone c)) t.output) (sym here)

pub all_turn : OfEachTone TurnsOver
all_turn = record {
  tone1 = one_turns (λ c. c.tone1) (λ c. refl);
  tone2 = one_turns (λ c. c.tone2) (λ c. refl);
  tone3 = one_turns (λ c. c.tone3) (λ c. refl);
}

-- a tone with its counter at most 1 changes its output in the first clock, and then once in each
-- period
from_first : (n clocks : ℕ) (t : Tone) → t.counter ≤ 1 → period_clocks t.period ≡ clocks → turns_at (n + 1) t ≡ (n % clocks == 0)
from_first n clocks t low are =
    let one : max t.counter 1 ≡ 1 = omega arith in
    rw (one, are) (grind (arith, nat_tests))

at_period_0 : (tone : State → Tone) → TurnsOver tone → TurnsAtPeriod0 tone
at_period_0 tone over c n is low =
    let are : period_clocks (tone c).period ≡ 1024 = ap period_clocks is in
    over c n ∙ ap (λ b. output_after b (tone (clocks n c)).output) (from_first n 1024 (tone c) low are)

at_period_1 : (tone : State → Tone) → TurnsOver tone → TurnsAtPeriod1 tone
at_period_1 tone over c n is low =
    let are : period_clocks (tone c).period ≡ 1 = ap period_clocks is in
    let none : n % 1 ≡ 0 = omega arith in
    let each : (n % 1 == 0) ≡ true = grind (arith, nat_tests) in
    over c n ∙ ap (λ b. output_after b (tone (clocks n c)).output) (from_first n 1 (tone c) low are ∙ each)

pub all_turn_at_0 : OfEachTone TurnsAtPeriod0
all_turn_at_0 = record {
  tone1 = at_period_0 (λ c. c.tone1) all_turn.tone1;
  tone2 = at_period_0 (λ c. c.tone2) all_turn.tone2;
  tone3 = at_period_0 (λ c. c.tone3) all_turn.tone3;
}

pub all_turn_at_1 : OfEachTone TurnsAtPeriod1
all_turn_at_1 = record {
  tone1 = at_period_1 (λ c. c.tone1) all_turn.tone1;
  tone2 = at_period_1 (λ c. c.tone2) all_turn.tone2;
  tone3 = at_period_1 (λ c. c.tone3) all_turn.tone3;
}
