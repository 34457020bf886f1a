-- The parts of a session file: the images, the font and the key script.
use Rattle.std.specs.Prelude.{ℕ, ◌==◌, ◌||◌, nat_le, Bool, true, false, List, [], ◌∷◌, ◌++◌, length, replicate, Option, None, Some, Ok, if◌then◌else◌}
use Rattle.std.specs.Int.{w32, to_be_bytes}
use Rattle.save_state.specs.declared.parts.Kind.{Kind}
use Rattle.save_state.specs.declared.parts.Kind.TheVariants.{Os, Tube, Rom, Font, Disc, Keys}
use Rattle.save_state.specs.Fields.{Fields, field, number, byte, ◌>>=◌}

-- the lengths that a part of a kind may have
abbrev pub fits : Kind → ℕ → Bool
fits Os len = len == 16384
fits Tube len = len == 2048
fits Rom len = len == 8192 || len == 16384
fits Font len = len == 960
fits Disc len = nat_le len 409600
fits Keys len = nat_le len 1048576

-- the operating system's ROM and the second processor's are never absent
abbrev pub may_lack : Kind → Bool
may_lack Os = false
may_lack Tube = false
may_lack Rom = true
may_lack Font = true
may_lack Disc = true
may_lack Keys = true

-- the length of a part that is there
abbrev pub length_of : Kind → ℕ → Option (Option ℕ)
length_of kind len = if fits kind len then Some (Some len) else None

-- The meaning of a part's length field: FFFFFFFF for a part that is absent.
abbrev pub length_in : Kind → List ℕ → Option (Option ℕ)
length_in kind bytes =
    if number bytes == 0xFFFFFFFF then (if may_lack kind then Some None else None) else length_of kind (number bytes)

-- the bytes of a part of this length, if it is there
abbrev pub body_at : Option ℕ → Fields (Option (List ℕ))
body_at None bytes at = Ok (None, at)
body_at (Some len) bytes at = do
  body ← field len Some bytes at
  Ok (Some body.0, body.1)

-- a part that is no disc
unfoldable pub part_at : Kind → Fields (Option (List ℕ))
part_at kind bytes at = do
  len ← field 4 (length_in kind) bytes at
  body_at len.0 bytes len.1

-- The meaning of the kind field of a disc of this length: 00 is an SSD, which has at most 204,800
-- bytes, and 01 a DSD.
abbrev pub kind_in : ℕ → List ℕ → Option Bool
kind_in len bytes =
    if byte bytes == 0 then (if nat_le len 204800 then Some false else None)
    else if byte bytes == 1 then Some true
    else None

-- an image, with `true` if it is of a disc with two sides
abbrev pub image_at : Option ℕ → Fields (Option (List ℕ) × Bool)
image_at None bytes at = Ok ((None, false), at)
image_at (Some len) bytes at = do
  dsd ← field 1 (kind_in len) bytes at
  body ← field len Some bytes dsd.1
  Ok ((Some body.0, dsd.0), body.1)

-- a disc: its kind field comes between its length field and its bytes
unfoldable pub disc_at : Fields (Option (List ℕ) × Bool)
disc_at bytes at = do
  len ← field 4 (length_in Disc) bytes at
  image_at len.0 bytes len.1

-- the parts before the discs: both ROMs, those of the sixteen slots, and the font
abbrev pub first_kinds : List Kind
first_kinds = Os ∷ Tube ∷ replicate 16 Rom ++ Font ∷ []

unfoldable pub each_at : List Kind → Fields (List (Option (List ℕ)))
each_at [] bytes at = Ok ([], at)
each_at (kind ∷ kinds) bytes at = do
  part ← part_at kind bytes at
  others ← each_at kinds bytes part.1
  Ok (part.0 ∷ others.0, others.1)

-- all parts, with `true` for each disc that has two sides
pub record Parts : Type 0 where
  pub parts : List (Option (List ℕ))
  pub dsd : List Bool

unfoldable pub parts_at : Fields Parts
parts_at bytes at = do
  first ← each_at first_kinds bytes at
  disc0 ← disc_at bytes first.1
  disc1 ← disc_at bytes disc0.1
  keys ← part_at Keys bytes disc1.1
  Ok (record { parts = first.0 ++ disc0.0.0 ∷ disc1.0.0 ∷ keys.0 ∷ []; dsd = disc0.0.1 ∷ disc1.0.1 ∷ [] }, keys.1)

-- ---- Their bytes

-- its length, and its bytes
abbrev pub part_bytes : Option (List ℕ) → List ℕ
part_bytes None = to_be_bytes w32 0xFFFFFFFF
part_bytes (Some body) = to_be_bytes w32 (length body) ++ body

abbrev pub kind_byte : Bool → ℕ
kind_byte dsd = if dsd then 1 else 0

-- its length, its kind, and its bytes
abbrev pub disc_bytes : Option (List ℕ) → Bool → List ℕ
disc_bytes None dsd = to_be_bytes w32 0xFFFFFFFF
disc_bytes (Some body) dsd = to_be_bytes w32 (length body) ++ kind_byte dsd ∷ body
