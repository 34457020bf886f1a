-- Addresses marked one by one.
use Rattle.std.proofs.Common.{◌≡◌, ◌∙◌, refl, ℕ, ◌+◌, ◌<◌, ◌≤◌, Bool, true, false, List, [], ◌∷◌, length, slice_set, length-set, Some, None, Ok, Err, nat_lt, arith}
use Rattle.std.proofs.Common.{replicate, ap, sym}
use Rattle.std.proofs.lemmas.List.{length-replicate}
use Rattle.std.proofs.lemmas.Bool.Decides.{nat_tests}
use Rattle.follow.specs.declared.points.PointsError.TheVariants.{BadLine, BadOrder}
use Rattle.follow.specs.Points.{points_from, points_of_lines, BeginsBadly, points}

-- the marks of the part of a text that was read, and the rest of it
pub record ReadSoFar (text : List ℕ) (marked : List Bool) (line least : ℕ) (rest : List ℕ) : Type 0 where
  pub whole : points text ≡ points_from line least marked (points_of_lines rest)
  pub size : length marked ≡ 65536
  pub count : line + length rest ≤ length text + 1

-- an address that rises
pub read_more : (text : List ℕ) (marked : List Bool) (line least : ℕ) (rest others : List ℕ) (at : ℕ) → ReadSoFar text marked line least rest →
    points_of_lines rest ≡ Some at ∷ points_of_lines others → length others < length rest → least ≤ at → ReadSoFar text (slice_set marked at true) (line + 1) (at + 1) others
read_more text marked line least rest others at so_far next shorter rises =
    let clear : nat_lt at least ≡ false = grind (arith, nat_tests) in
    record {
      whole = so_far.whole ∙ rw (next, clear) refl;
      size = length-set marked at true ∙ so_far.size;
      count = omega (arith, so_far.count, shorter);
    }

pub read_all : (text : List ℕ) (marked : List Bool) (line least : ℕ) (rest : List ℕ) → ReadSoFar text marked line least rest → length rest ≡ 0 → points text ≡ Ok marked
read_all text marked line least [] so_far none = so_far.whole
read_all text marked line least (b ∷ rest) so_far none = absurd (omega arith)

pub read_bad_line : (text : List ℕ) (marked : List Bool) (line least : ℕ) (rest : List ℕ) → ReadSoFar text marked line least rest → BeginsBadly rest →
    points text ≡ Err (BadLine line)
read_bad_line text marked line least rest so_far bad = so_far.whole ∙ rw bad.1 refl

pub read_fallen : (text : List ℕ) (marked : List Bool) (line least : ℕ) (rest others : List ℕ) (at : ℕ) → ReadSoFar text marked line least rest →
    points_of_lines rest ≡ Some at ∷ points_of_lines others → at < least → points text ≡ Err (BadOrder line)
read_fallen text marked line least rest others at so_far next falls =
    let low : nat_lt at least ≡ true = grind (arith, nat_tests) in so_far.whole ∙ rw (next, low) refl

-- nothing was read yet
pub begins : (text : List ℕ) (marked : List Bool) → marked ≡ replicate 65536 false → ReadSoFar text marked 1 0 text
unfolding points
begins text marked is = record { whole = ap (λ (m : List Bool). points_from 1 0 m (points_of_lines text)) (sym is); size = rw is (length-replicate 65536 false); count = omega arith }
