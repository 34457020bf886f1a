-- A conversion from its write to its end.
use Rattle.std.proofs.Common.{◌≡◌, ◌∙◌, ap, refl, ℕ, ◌+◌, ◌-◌, ◌*◌, ◌/◌, ◌%◌, ◌<◌, ◌==◌, Bool, true, false, List, length, slice_index, arith}
use Rattle.std.specs.Prelude.{bit_and, if◌then◌else◌}
use Rattle.std.proofs.lemmas.Bool.{ne_eqb}
use Rattle.std.proofs.lemmas.Nat.Bits.{and_high_mask}
use Rattle.adc7002.specs.State.{State}
use Rattle.adc7002.specs.Registers.{channel, has_12_bits, duration, write_leaves}
use Rattle.adc7002.specs.Step.{low_byte, end_leaves, step, after_steps}
use Rattle.adc7002.specs.Laws.{rounded_level, ShowsTheLevel, ShowsTheEarlier, EndsInTime, GoesOnUntilThen, GivenUpLeavesNothing}
use Rattle.adc7002.proofs.Runs.{step_last, after_at_rest, after_inside}

-- the converter n steps before the end of a conversion that v began
waiting : ℕ → ℕ → State → State
waiting v n a = record a { kept = v % 16; left = n; has_ended = false }

waits : (a : State) (v : ℕ) (before : List (List ℕ)) → length before < duration v →
    after_steps before (write_leaves 0 v a) ≡ waiting v (duration v - length before) a
unfolding waiting
waits a v before early = after_inside before (write_leaves 0 v a) (duration v - length before) (omega arith) (omega arith)

same_channel : (v : ℕ) → channel (v % 16) ≡ channel v
same_channel v = omega arith

same_length : (v : ℕ) → has_12_bits (v % 16) ≡ has_12_bits v
same_length v = let same : v % 16 / 8 % 2 ≡ v / 8 % 2 = omega arith in ap (λ k. k == 1) same

-- the level from both of its bytes
word_by : (level : ℕ) (long : Bool) → 256 * (level / 256) + (if long then bit_and (level % 256) 240 else 0) ≡ rounded_level long level
word_by level true = let low : bit_and (level % 256) 240 ≡ level % 256 / 16 * 16 = and_high_mask 8 4 (omega arith) (level % 256) (omega arith) in rw low (omega arith)
word_by level false = omega arith

word_of : (kept v level : ℕ) → has_12_bits kept ≡ has_12_bits v → 256 * (level / 256) + low_byte kept level ≡ rounded_level (has_12_bits v) level
word_of kept v level same = rw same (word_by level (has_12_bits v))

shown : (a : State) (v level : ℕ) → level < 65536 → ShowsTheLevel v level (end_leaves level (waiting v 1 a))
unfolding waiting
shown a v level small = record { status = omega arith; word = word_of (v % 16) v level (same_length v); line = refl }

last_step : (a : State) (v : ℕ) (levels : List ℕ) → step levels (waiting v 1 a) ≡ end_leaves (slice_index levels (channel v)) (waiting v 1 a)
unfolding waiting
last_step a v levels =
    step_last levels (waiting v 1 a) refl ∙ ap (λ k. end_leaves (slice_index levels k) (waiting v 1 a)) (same_channel v)

ends_by : (a b : State) (v : ℕ) (levels : List ℕ) (after : List (List ℕ)) → slice_index levels (channel v) < 65536 → b ≡ waiting v 1 a →
    ShowsTheLevel v (slice_index levels (channel v)) (after_steps after (step levels b))
unfolding waiting
ends_by a b v levels after small is =
    rw (
      is,
      last_step a v levels,
      after_at_rest after (end_leaves (slice_index levels (channel v)) (waiting v 1 a)) refl,
    ) (shown a v (slice_index levels (channel v)) small)

pub ends : EndsInTime
ends a v before levels after all small =
    let one : duration v - length before ≡ 1 = omega arith in
    ends_by a (after_steps before (write_leaves 0 v a)) v levels after small (waits a v before (omega arith) ∙ ap (λ n. waiting v n a) one)

goes_on_by : (a b : State) (v n : ℕ) → 0 < n → b ≡ waiting v n a → ShowsTheEarlier v a b
unfolding waiting
goes_on_by a b v n some is =
    rw is (record { status = rw (ne_eqb n 0 (λ e. omega (arith, e))) refl; high = refl; low = refl; line = refl })

pub goes_on : GoesOnUntilThen
goes_on a v before early =
    goes_on_by a (after_steps before (write_leaves 0 v a)) v (duration v - length before) (omega arith) (waits a v before early)

pub given_up : GivenUpLeavesNothing
unfolding waiting
given_up a v w before early = ap (write_leaves 0 w) (waits a v before early)
