-- Disc images. An SSD has the tracks of one side in order, and a DSD has side 0 and then side 1 of
-- each track. A side has 80 tracks of 10 sectors of 256 bytes. An image may end earlier.
use Rattle.std.specs.Prelude.{ℕ, ◌+◌, ◌-◌, ◌*◌, ◌&&◌, nat_lt, Bool, List, ◌++◌, length, map, replicate, slice_index_or, slice_set, Option, None, Some, if◌then◌else◌}
use Rattle.std.specs.List.{range_with_len}
use Rattle.disc_image.specs.declared.Kind.{Kind}
use Rattle.disc_image.specs.declared.Kind.TheVariants.{Ssd, Dsd}

pub record Image : Type 0 where
  pub kind : Kind
  -- the bytes of the file
  pub bytes : List ℕ

abbrev pub sides : Kind → ℕ
sides Ssd = 1
sides Dsd = 2

-- the length of the largest image of a kind: 204,800 bytes for an SSD and 409,600 for a DSD
abbrev pub largest : Kind → ℕ
largest kind = sides kind * (80 * (10 * 256))

abbrev pub has_sector : Kind → ℕ → ℕ → ℕ → Bool
has_sector kind side track sector = nat_lt side (sides kind) && nat_lt track 80 && nat_lt sector 10

-- The place in an image of a byte of a sector: tracks in order, the sides of a track in order, and
-- then its sectors.
abbrev pub place : Kind → ℕ → ℕ → ℕ → ℕ → ℕ
place kind side track sector at = 256 * (10 * (sides kind * track + side) + sector) + at

-- the byte at a place; 00 past the image's end
abbrev pub byte_at : Image → ℕ → ℕ
byte_at image n = slice_index_or image.bytes n 0

-- Reading: the 256 bytes of a sector.
abbrev pub sector_bytes : Image → ℕ → ℕ → ℕ → List ℕ
sector_bytes image side track sector = map (λ at. byte_at image (place image.kind side track sector 0 + at)) (range_with_len 0 256)

abbrev pub sector_of : Image → ℕ → ℕ → ℕ → Option (List ℕ)
sector_of image side track sector = if has_sector image.kind side track sector then Some (sector_bytes image side track sector) else None

-- `bytes`, followed by 00 up to length n
abbrev pub with_zeros_to : List ℕ → ℕ → List ℕ
with_zeros_to bytes n = bytes ++ replicate (n - length bytes) 0

-- Writing: a byte of a sector becomes v. An image that ends before the sector's end is extended up
-- to there.
abbrev pub byte_put : ℕ → ℕ → ℕ → ℕ → ℕ → Image → Image
byte_put side track sector at v image =
    if has_sector image.kind side track sector
    then record image { bytes = slice_set (with_zeros_to image.bytes (place image.kind side track sector 256)) (place image.kind side track sector at) v }
    else image
