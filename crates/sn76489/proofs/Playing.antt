-- The writes of four steps at once.
use Rattle.std.proofs.Common.{◌≡◌, ◌≢◌, ◌∙◌, sym, ap, refl, ℕ, ◌+◌, ◌*◌, ◌%◌, ◌<◌, ◌≤◌, ◌==◌, true, false, List, [], ◌∷◌, add-one, arith, inl, inr}
use Rattle.std.proofs.lemmas.Bool.{cases_lt}
use Rattle.std.proofs.lemmas.Bool.Decides.{nat_tests}
use Rattle.sn76489.specs.declared.SoundWrite.{SoundWrite}
use Rattle.sn76489.specs.State.{State, power_on}
use Rattle.sn76489.specs.Writes.{write_leaves}
use Rattle.sn76489.specs.Clock.{clock_leaves}
use Rattle.sn76489.specs.Samples.{NeverFallFrom, after_writes, writes_at, after_step, chip_before_step}
use Rattle.sn76489.specs.CodeWrites.{caught_up, pending_writes}
use Rattle.sn76489.proofs.Catching.{now_chip, now_left, later_chip, later_left}

pub test_true : (a b : ℕ) → a ≡ b → (a == b) ≡ true
test_true a b h = grind (arith, nat_tests)

pub test_false : (a b : ℕ) → a ≢ b → (a == b) ≡ false
test_false a b h = grind (arith, nat_tests)

due_now : (m : ℕ) (w : SoundWrite) (writes : List SoundWrite) → w.moment ≡ m → writes_at m (w ∷ writes) ≡ w ∷ writes_at m writes
due_now m w writes is = rw (test_true w.moment m is) refl

not_due : (m : ℕ) (w : SoundWrite) (writes : List SoundWrite) → w.moment ≢ m → writes_at m (w ∷ writes) ≡ writes_at m writes
not_due m w writes other = rw (test_false w.moment m other) refl

-- moments that never fall from one on do not fall from an earlier one on
pub not_before : (from m : ℕ) (writes : List SoundWrite) → NeverFallFrom from writes → m ≤ from → NeverFallFrom m writes
not_before from m [] order low = tt
not_before from m (w ∷ writes) order low = (omega (arith, order.0), order.1)

none_before : (from m : ℕ) (writes : List SoundWrite) → NeverFallFrom from writes → m < from → writes_at m writes ≡ []
none_before from m [] order low = refl
none_before from m (w ∷ writes) order low =
    not_due m w writes (λ e. omega (arith, e, order.0)) ∙ none_before w.moment m writes order.1 (omega (arith, order.0))

-- if no write is earlier, the writes up to a moment are those of that moment
those_due : (m : ℕ) (writes : List SoundWrite) (c : State) → NeverFallFrom m writes → caught_up m writes c ≡ after_writes (writes_at m writes) c
unfolding caught_up
those_due m [] c order = refl
those_due m (w ∷ writes) c order =
    elim (cases_lt m w.moment) [
      | inl later ↦
          later_chip m writes w c later
          ∙ sym (ap (λ l. after_writes l c) (not_due m w writes (λ e. omega (arith, e)) ∙ none_before w.moment m writes order.1 later))
      | inr now ↦
          now_chip m writes w c now
          ∙ those_due m writes (write_leaves w.byte c) (not_before w.moment m writes order.1 (omega (arith, order.0)))
          ∙ sym (ap (λ l. after_writes l c) (due_now m w writes (omega (arith, order.0))))
    ]

-- those up to the next moment are those up to this one and those of the next
next_due : (m from : ℕ) (writes : List SoundWrite) (c : State) → NeverFallFrom from writes →
    caught_up (m + 1) writes c ≡ after_writes (writes_at (m + 1) writes) (caught_up m writes c)
unfolding caught_up
next_due m from [] c order = refl
next_due m from (w ∷ writes) c order =
    elim (cases_lt m w.moment) [
      | inl later ↦
          those_due (m + 1) (w ∷ writes) c (omega arith, order.1)
          ∙ sym (ap (after_writes (writes_at (m + 1) (w ∷ writes))) (later_chip m writes w c later))
      | inr now ↦
          now_chip (m + 1) writes w c (omega arith) ∙ next_due m w.moment writes (write_leaves w.byte c) order.1
          ∙ ap (after_writes (writes_at (m + 1) writes)) (sym (now_chip m writes w c now))
          ∙ ap (λ l. after_writes l (caught_up m (w ∷ writes) c)) (sym (not_due (m + 1) w writes (λ e. omega (arith, e))))
    ]

-- the writes that are left after a moment
later_same : (m n : ℕ) (writes : List SoundWrite) → m < n → writes_at n (pending_writes m writes) ≡ writes_at n writes
unfolding pending_writes
later_same m n [] later = refl
later_same m n (w ∷ writes) low =
    elim (cases_lt m w.moment) [
      | inl later ↦ ap (writes_at n) (later_left m writes w later)
      | inr now ↦ ap (writes_at n) (now_left m writes w now) ∙ later_same m n writes low ∙ sym (not_due n w writes (λ e. omega (arith, e)))
    ]

none_pending : (m : ℕ) (writes : List SoundWrite) (c : State) → caught_up m (pending_writes m writes) c ≡ c
unfolding pending_writes caught_up
none_pending m [] c = refl
none_pending m (w ∷ writes) c =
    elim (cases_lt m w.moment) [
      | inl later ↦ ap (λ l. caught_up m l c) (later_left m writes w later) ∙ later_chip m writes w c later
      | inr now ↦ ap (λ l. caught_up m l c) (now_left m writes w now) ∙ none_pending m writes c
    ]

ordered_still : (m from : ℕ) (writes : List SoundWrite) → NeverFallFrom from writes → NeverFallFrom from (pending_writes m writes)
unfolding pending_writes
ordered_still m from [] order = tt
ordered_still m from (w ∷ writes) order =
    elim (cases_lt m w.moment) [
      | inl later ↦ rw (later_left m writes w later) order
      | inr now ↦ rw (now_left m writes w now) (not_before w.moment from (pending_writes m writes) (ordered_still m w.moment writes order.1) order.0)
    ]

-- steps of the definition
played_more : (writes : List SoundWrite) (m : ℕ) → chip_before_step writes (m + 1) ≡ after_step writes m (chip_before_step writes m)
unfolding chip_before_step
played_more writes m = rw add-one refl

clock_step : (writes : List SoundWrite) (m : ℕ) → m % 4 ≡ 0 → chip_before_step writes (m + 1) ≡ clock_leaves (after_writes (writes_at m writes) (chip_before_step writes m))
clock_step writes m whole = played_more writes m ∙ rw (test_true (m % 4) 0 whole) refl

other_step : (writes : List SoundWrite) (m : ℕ) → m % 4 ≢ 0 → chip_before_step writes (m + 1) ≡ after_writes (writes_at m writes) (chip_before_step writes m)
other_step writes m part = played_more writes m ∙ rw (test_false (m % 4) 0 part) refl

-- The chip before clock q, counted from 0. After the writes that are left up to that moment, it is
-- the chip of that step.
pub record IsBefore (writes : List SoundWrite) (q : ℕ) (left : List SoundWrite) (c : State) : Type 0 where
  pub order : NeverFallFrom 0 left
  pub same : (m : ℕ) → 4 * q ≤ m → writes_at m left ≡ writes_at m writes
  pub chip : caught_up (4 * q) left c ≡ after_writes (writes_at (4 * q) writes) (chip_before_step writes (4 * q))

pub before_first : (writes : List SoundWrite) → NeverFallFrom 0 writes → IsBefore writes 0 writes power_on
unfolding chip_before_step
before_first writes order = record { order = order; same = λ m low. refl; chip = those_due 0 writes power_on order }

-- the clock
pub at_clock : (writes left : List SoundWrite) (q : ℕ) (c d : State) → IsBefore writes q left c → d ≡ clock_leaves (caught_up (4 * q) left c) →
    d ≡ chip_before_step writes (4 * q + 1)
at_clock writes left q c d before is = is ∙ ap clock_leaves before.chip ∙ sym (clock_step writes (4 * q) (omega arith))

-- one more step of the writes that are left, from one that is played
one_more : (writes left : List SoundWrite) (m n : ℕ) (d : State) → NeverFallFrom 0 left → n ≡ m + 1 → writes_at n left ≡ writes_at n writes →
    caught_up m left d ≡ chip_before_step writes n → caught_up n left d ≡ after_writes (writes_at n writes) (chip_before_step writes n)
one_more writes left m n d order is same so_far =
    ap (λ k. caught_up k left d) is ∙ next_due m 0 left d order ∙ ap (λ k. after_writes (writes_at k left) (caught_up m left d)) (sym is)
    ∙ ap (after_writes (writes_at n left)) so_far ∙ ap (λ l. after_writes l (chip_before_step writes n)) same

one_step : (writes left : List SoundWrite) (m n : ℕ) (d : State) → NeverFallFrom 0 left → n ≡ m + 1 → writes_at n left ≡ writes_at n writes → n % 4 ≢ 0 →
    caught_up m left d ≡ chip_before_step writes n → caught_up n left d ≡ chip_before_step writes (n + 1)
one_step writes left m n d order is same part so_far = one_more writes left m n d order is same so_far ∙ sym (other_step writes n part)

pub behind_clock : (writes left after : List SoundWrite) (q : ℕ) (c d : State) → IsBefore writes q left c → d ≡ clock_leaves (caught_up (4 * q) left c) →
    after ≡ pending_writes (4 * q) left → IsBefore writes (q + 1) after d
behind_clock writes left after q c d before is rest =
    let order : NeverFallFrom 0 after = rw rest (ordered_still (4 * q) 0 left before.order) in
    let same : (m : ℕ) → 4 * q < m → writes_at m after ≡ writes_at m writes =
    λ m low. ap (writes_at m) rest ∙ later_same (4 * q) m left low ∙ before.same m (omega (arith, low)) in
    let m1 = 4 * q + 1 in
    let m2 = m1 + 1 in
    let m3 = m2 + 1 in
    let p1 : caught_up (4 * q) after d ≡ chip_before_step writes m1 =
    ap (λ l. caught_up (4 * q) l d) rest ∙ none_pending (4 * q) left d ∙ at_clock writes left q c d before is in
    let p2 : caught_up m1 after d ≡ chip_before_step writes m2 =
    one_step writes after (4 * q) m1 d order refl (same m1 (omega arith)) (λ e. omega (arith, e)) p1 in
    let p3 : caught_up m2 after d ≡ chip_before_step writes m3 = one_step writes after m1 m2 d order refl (same m2 (omega arith)) (λ e. omega (arith, e)) p2 in
    let p4 : caught_up m3 after d ≡ chip_before_step writes (m3 + 1) =
    one_step writes after m2 m3 d order refl (same m3 (omega arith)) (λ e. omega (arith, e)) p3 in
    let next : m3 + 1 ≡ 4 * (q + 1) = omega arith in
    record {
      order = order;
      same = λ m low. same m (omega (arith, low));
      chip = one_more writes after m3 (4 * (q + 1)) d order (sym next) (same (4 * (q + 1)) (omega arith)) (p4 ∙ ap (chip_before_step writes) next);
    }
