-- Writes that are done together.
use Rattle.std.proofs.Common.{◌≡◌, ◌∙◌, sym, ap, refl, ℕ, ◌<◌, ◌≤◌, true, false, List, [], ◌∷◌, length, arith}
use Rattle.std.specs.Prelude.{nat_le}
use Rattle.std.proofs.lemmas.Bool.Decides.{nat_tests}
use Rattle.sn76489.specs.declared.SoundWrite.{SoundWrite}
use Rattle.sn76489.specs.State.{State}
use Rattle.sn76489.specs.Writes.{write_leaves}
use Rattle.sn76489.specs.CodeWrites.{caught_up, pending_writes}

pub le_true : (a b : ℕ) → a ≤ b → nat_le a b ≡ true
le_true a b h = grind (arith, nat_tests)

pub le_false : (a b : ℕ) → b < a → nat_le a b ≡ false
le_false a b h = grind (arith, nat_tests)

-- These writes of chip c and the others of chip d lead to the same state, and leave the same
-- writes.
pub record SameEnd (m : ℕ) (writes : List SoundWrite) (c : State) (others : List SoundWrite) (d : State) : Type 0 where
  pub chip : caught_up m writes c ≡ caught_up m others d
  pub left : pending_writes m writes ≡ pending_writes m others

-- the definitions by the first write, if it is due and if it is not
pub now_chip : (m : ℕ) (behind : List SoundWrite) (w : SoundWrite) (c : State) → w.moment ≤ m → caught_up m (w ∷ behind) c ≡ caught_up m behind (write_leaves w.byte c)
unfolding caught_up
now_chip m behind w c now = rw (le_true w.moment m now) refl

pub now_left : (m : ℕ) (behind : List SoundWrite) (w : SoundWrite) → w.moment ≤ m → pending_writes m (w ∷ behind) ≡ pending_writes m behind
unfolding pending_writes
now_left m behind w now = rw (le_true w.moment m now) refl

pub later_chip : (m : ℕ) (behind : List SoundWrite) (w : SoundWrite) (c : State) → m < w.moment → caught_up m (w ∷ behind) c ≡ c
unfolding caught_up
later_chip m behind w c later = rw (le_false w.moment m later) refl

pub later_left : (m : ℕ) (behind : List SoundWrite) (w : SoundWrite) → m < w.moment → pending_writes m (w ∷ behind) ≡ w ∷ behind
unfolding pending_writes
later_left m behind w later = rw (le_false w.moment m later) refl

-- one write is done
pub one_write : (m : ℕ) (all behind others : List SoundWrite) (w : SoundWrite) (c after d : State) → all ≡ w ∷ behind → w.moment ≤ m →
    after ≡ write_leaves w.byte c → SameEnd m all c others d → SameEnd m behind after others d
one_write m all behind others w c after d is now done same = record {
  chip = ap (caught_up m behind) done ∙ sym (ap (λ l. caught_up m l c) is ∙ now_chip m behind w c now) ∙ same.chip;
  left = sym (ap (pending_writes m) is ∙ now_left m behind w now) ∙ same.left;
}

-- none is left that is due
pub none_due : (m : ℕ) (all behind others : List SoundWrite) (w : SoundWrite) (c d : State) → all ≡ w ∷ behind → m < w.moment →
    SameEnd m all c others d → (c ≡ caught_up m others d) × (all ≡ pending_writes m others)
none_due m all behind others w c d is later same = (
  sym (ap (λ l. caught_up m l c) is ∙ later_chip m behind w c later) ∙ same.chip,
  is ∙ sym (ap (pending_writes m) is ∙ later_left m behind w later) ∙ same.left,
)

pub none_left : (m : ℕ) (all others : List SoundWrite) (c d : State) → length all ≡ 0 → SameEnd m all c others d →
    (c ≡ caught_up m others d) × (all ≡ pending_writes m others)
unfolding caught_up pending_writes
none_left m [] others c d empty same = (same.chip, same.left)
none_left m (w ∷ all) others c d empty same = absurd (omega (arith, empty))
