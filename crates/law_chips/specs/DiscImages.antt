-- The discs of the controller over any steps and accesses: each stays an image of its kind. (Acorn,
-- Disc Filing System User Guide: 80 tracks of 10 sectors of 256 bytes a side.)
use Rattle.std.specs.Prelude.{ℕ, ◌≡◌, ◌≤◌, List, length, Option, None, Some}
use Rattle.disc_image.specs.declared.Kind.{Kind}
use Rattle.disc_image.specs.declared.Kind.TheVariants.{Ssd, Dsd}
use Rattle.disc_image.specs.Image.{Image, largest}
use Rattle.wd1770.specs.State.{State}
use Rattle.wd1770.specs.Select.{disc_of}
use Rattle.wd1770.specs.History.{Event, history}

-- the most bytes that an image of a kind has
abbrev pub most : Kind → ℕ
most Ssd = 204800
most Dsd = 409600

-- The drive has an image of the kind of `d`. It is not shorter than `d`. If `d` is not longer than
-- its kind allows, it is not either.
pub record KeepsImage (d : Image) (drive : Option Image) : Type 0 where
  pub bytes : List ℕ
  pub disc : drive ≡ Some (record { kind = d.kind; bytes = bytes })
  pub grows : length d.bytes ≤ length bytes
  pub fits : length d.bytes ≤ most d.kind → length bytes ≤ most d.kind

-- From any state on, over any events. A drive without a disc has none afterwards. An image is
-- refused if it is longer than `largest`: one that a controller leaves is accepted again.
pub record ImagesKeepTheirKind : Type 0 where
  pub disc : (s : State) (events : List Event) (number : ℕ) (d : Image) →
      disc_of number s ≡ Some d → KeepsImage d (disc_of number (history events s))
  pub none : (s : State) (events : List Event) (number : ℕ) →
      disc_of number s ≡ None → disc_of number (history events s) ≡ None
  pub size : (kind : Kind) → largest kind ≡ most kind
