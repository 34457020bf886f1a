-- The bytes that the code of a disc stores: the largest image of its kind, with 00 from the end of
-- its own image on.
use Rattle.std.specs.Prelude.{ℕ, ◌≡◌, ◌≤◌, List, length, slice_index_or}
use Rattle.disc_image.specs.declared.Kind.{Kind}
use Rattle.disc_image.specs.Image.{largest}

pub record IsWhole (kind : Kind) (len : ℕ) (whole : List ℕ) : Type 0 where
  pub size : length whole ≡ largest kind
  pub within : len ≤ largest kind
  pub rest : (n : ℕ) → len ≤ n → slice_index_or whole n 0 ≡ 0
