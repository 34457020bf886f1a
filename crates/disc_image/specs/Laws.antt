-- Laws of writing and then reading.
use Rattle.std.specs.Prelude.{ℕ, ◌≡◌, ◌≢◌, ◌<◌, max, true, length}
use Rattle.disc_image.specs.declared.Kind.{Kind}
use Rattle.disc_image.specs.Image.{Image, has_sector, place, byte_at, byte_put}

-- A byte put is read back.
abbrev pub IsReadBack : Type 0
IsReadBack =
    (d : Image) (side track sector at v : ℕ) → has_sector d.kind side track sector ≡ true → at < 256 →
    byte_at (byte_put side track sector at v d) (place d.kind side track sector at) ≡ v

-- All other bytes stay. Past the end of an image that is extended they stay 00.
abbrev pub OthersStay : Type 0
OthersStay =
    (d : Image) (side track sector at v n : ℕ) → has_sector d.kind side track sector ≡ true → at < 256 →
    n ≢ place d.kind side track sector at → byte_at (byte_put side track sector at v d) n ≡ byte_at d n

-- The image is then as long as before, or up to the sector's end if that is further.
abbrev pub GrowsToTheEnd : Type 0
GrowsToTheEnd =
    (d : Image) (side track sector at v : ℕ) → has_sector d.kind side track sector ≡ true → at < 256 →
    length (byte_put side track sector at v d).bytes ≡ max (length d.bytes) (place d.kind side track sector 256)

-- No two bytes of a disc have one place.
abbrev pub PlacesDiffer : Type 0
PlacesDiffer =
    (kind : Kind) (side track sector at side' track' sector' at' : ℕ) →
    has_sector kind side track sector ≡ true → at < 256 → has_sector kind side' track' sector' ≡ true → at' < 256 →
    place kind side track sector at ≡ place kind side' track' sector' at' →
    (side ≡ side') × (track ≡ track') × (sector ≡ sector') × (at ≡ at')
