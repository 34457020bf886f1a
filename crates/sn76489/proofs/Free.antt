-- Clocks before which no write is due.
use Rattle.std.proofs.Common.{◌≡◌, ◌≢◌, ◌∙◌, sym, ap, subst, refl, ℕ, zero, suc, ◌+◌, ◌-◌, ◌*◌, ◌/◌, ◌%◌, ◌<◌, ◌≤◌, List, [], ◌∷◌, ◌++◌, pos, arith, inl, inr}
use Rattle.std.proofs.lemmas.Bool.{cases_lt}
use Rattle.sn76489.specs.declared.SoundWrite.{SoundWrite}
use Rattle.sn76489.specs.State.{State}
use Rattle.sn76489.specs.Clock.{clock_leaves, clocks}
use Rattle.sn76489.specs.Level.{level}
use Rattle.sn76489.specs.Samples.{NeverFallFrom, chip_before_step, samples}
use Rattle.sn76489.specs.CodeWrites.{caught_up, pending_writes}
use Rattle.sn76489.proofs.Catching.{now_left, later_chip, later_left}
use Rattle.sn76489.proofs.Playing.{IsBefore, not_before, at_clock, behind_clock}
use Rattle.sn76489.proofs.Runs.{no_clocks, one_clock_more}
use Rattle.sn76489.proofs.Sampling.{sampled, unsampled}

-- the writes that are left after a moment are later
pub left_later : (m from : ℕ) (writes : List SoundWrite) → NeverFallFrom from writes → NeverFallFrom (m + 1) (pending_writes m writes)
unfolding pending_writes
left_later m from [] order = tt
left_later m from (w ∷ writes) order =
    elim (cases_lt m w.moment) [
      | inl later ↦ rw (later_left m writes w later) (omega (arith, later), order.1)
      | inr now ↦ rw (now_left m writes w now) (left_later m w.moment writes order.1)
    ]

none_due : (m : ℕ) (writes : List SoundWrite) (c : State) → NeverFallFrom (m + 1) writes → caught_up m writes c ≡ c
unfolding caught_up
none_due m [] c order = refl
none_due m (w ∷ writes) c order = later_chip m writes w c (omega (arith, order.0))

all_left : (m : ℕ) (writes : List SoundWrite) → NeverFallFrom (m + 1) writes → pending_writes m writes ≡ writes
unfolding pending_writes
all_left m [] order = refl
all_left m (w ∷ writes) order = later_left m writes w (omega (arith, order.0))

-- these clocks and one more are played, the first after its writes
pub record ArePlayed (writes : List SoundWrite) (q m : ℕ) (after : List SoundWrite) (d : State) : Type 0 where
  pub before : IsBefore writes (q + m + 1) after d
  pub last : d ≡ chip_before_step writes (4 * (q + m) + 1)

first_clock : (c : State) → clocks (0 + 1) c ≡ clock_leaves c
first_clock c = one_clock_more 0 c ∙ ap clock_leaves (no_clocks c)

pub are_played : (writes left after : List SoundWrite) (q m : ℕ) (c d : State) → IsBefore writes q left c → d ≡ caught_up (4 * q) left c →
    after ≡ pending_writes (4 * q) left → NeverFallFrom (4 * (q + m) + 1) after → ArePlayed writes q m after (clocks (m + 1) d)
are_played writes left after q zero c d before is rest free =
    let here : clocks (0 + 1) d ≡ clock_leaves (caught_up (4 * q) left c) = first_clock d ∙ ap clock_leaves is in
    let next : q + 0 + 1 ≡ q + 1 = omega arith in
    let at : 4 * (q + 0) + 1 ≡ 4 * q + 1 = omega arith in
    record {
      before = rw next (behind_clock writes left after q c (clocks (0 + 1) d) before here rest);
      last = rw at (at_clock writes left q c (clocks (0 + 1) d) before here);
    }
are_played writes left after q (suc m) c d before is rest free =
    let order : NeverFallFrom (4 * (q + m) + 1) after = not_before (4 * (q + suc m) + 1) (4 * (q + m) + 1) after free (omega arith) in
    let so_far = are_played writes left after q m c d before is rest order in
    let k = q + m + 1 in
    let here : NeverFallFrom (4 * k + 1) after = not_before (4 * (q + suc m) + 1) (4 * k + 1) after free (omega arith) in
    let one : suc m ≡ m + 1 = omega arith in
    let done : clocks (suc m + 1) d ≡ clock_leaves (caught_up (4 * k) after (clocks (m + 1) d)) =
    one_clock_more (suc m) d ∙ ap clock_leaves (ap (λ n. clocks n d) one ∙ sym (none_due (4 * k) after (clocks (m + 1) d) here)) in
    let same : k ≡ q + suc m = omega arith in
    record {
      before = rw (← same) (behind_clock writes after after k (clocks (m + 1) d) (clocks (suc m + 1) d) so_far.before done (sym (all_left (4 * k) after here)));
      last = rw (← same) (at_clock writes after k (clocks (m + 1) d) (clocks (suc m + 1) d) so_far.before done);
    }

-- no clock before the next multiple of 8 has a sample
pub none_sampled : (writes : List SoundWrite) (q m : ℕ) → q + m ≤ (q + 7) / 8 * 8 → samples writes (4 * (q + m)) ≡ samples writes (4 * q)
none_sampled writes q zero low = let same : 4 * (q + 0) ≡ 4 * q = omega arith in ap (samples writes) same
none_sampled writes q (suc m) low =
    let same : 4 * (q + suc m) ≡ 4 * (q + m + 1) = omega arith in
    let before : q + m ≤ (q + 7) / 8 * 8 = omega (arith, low) in
    ap (samples writes) same ∙ unsampled writes (q + m) (λ e. omega (arith, low, e)) ∙ none_sampled writes q m before

-- ---- a number of clocks above 0

pub some_played : (writes left after : List SoundWrite) (q some : ℕ) (c d f : State) → 0 < some → IsBefore writes q left c → d ≡ caught_up (4 * q) left c →
    after ≡ pending_writes (4 * q) left → NeverFallFrom (4 * (q + (some - 1)) + 1) after → f ≡ clocks some d →
    IsBefore writes (q + some) after f × (f ≡ chip_before_step writes (4 * (q + (some - 1)) + 1))
some_played writes left after q some c d f high before is rest free done =
    let m = some - 1 in
    let all = are_played writes left after q m c d before is rest free in
    let count : some ≡ m + 1 = omega (arith, high) in
    let place : q + m + 1 ≡ q + some = omega (arith, high) in
    let here : f ≡ clocks (m + 1) d = done ∙ ap (λ n. clocks n d) count in (
      subst (λ k. IsBefore writes k after f) place (subst (λ x. IsBefore writes (q + m + 1) after x) (sym here) all.before),
      here ∙ all.last,
    )

pub some_sampled : (writes : List SoundWrite) (q some : ℕ) (f : State) → 0 < some → q + some ≤ (q + 7) / 8 * 8 + 1 → (q + some) % 8 ≡ 1 →
    f ≡ chip_before_step writes (4 * (q + (some - 1)) + 1) → samples writes (4 * (q + some)) ≡ samples writes (4 * q) ++ pos (level f) ∷ []
some_sampled writes q some f high low whole is =
    let m = some - 1 in
    let place : 4 * (q + some) ≡ 4 * (q + m + 1) = omega (arith, high) in
    ap (samples writes) place ∙ sampled writes (q + m) (omega (arith, high, whole))
    ∙ ap (λ l. l ++ pos (level (chip_before_step writes (4 * (q + m) + 1))) ∷ []) (none_sampled writes q m (omega (arith, high, low)))
    ∙ ap (λ x. samples writes (4 * q) ++ pos (level x) ∷ []) (sym is)

pub some_unsampled : (writes : List SoundWrite) (q some : ℕ) → 0 < some → q + some ≤ (q + 7) / 8 * 8 + 1 → (q + some) % 8 ≢ 1 →
    samples writes (4 * (q + some)) ≡ samples writes (4 * q)
some_unsampled writes q some high low part =
    let m = some - 1 in
    let place : 4 * (q + some) ≡ 4 * (q + m + 1) = omega (arith, high) in
    ap (samples writes) place ∙ unsampled writes (q + m) (λ e. part (omega (arith, high, e))) ∙ none_sampled writes q m (omega (arith, high, low))
