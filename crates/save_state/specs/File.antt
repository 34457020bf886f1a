-- A session file, and the session that it holds.
use Rattle.std.specs.Prelude.{ℕ, ◌≡◌, ◌<◌, ◌≤◌, ◌==◌, Bool, false, List, [], ◌∷◌, ◌++◌, length, take, slice_index_or, All, Option, None, Some, IsTrue, codes, Result, Ok, if◌then◌else◌}
use Rattle.std.specs.List.{flat_map}
use Rattle.std.specs.Int.{w32, to_be_bytes}
use Rattle.beeb_bits.specs.declared.clock.Clock.{Clock}
use Rattle.beeb_bits.specs.declared.clock.Clock.TheVariants.{Three, Four}
use Rattle.tube_chip.specs.Events.{Rises}
use Rattle.tube_trace.specs.declared.Entry.{Entry}
use Rattle.tube_trace.specs.Entries.{events_of}
use Rattle.tube_trace.specs.Text.{HasLine}
use Rattle.save_state.specs.declared.StateError.{StateError}
use Rattle.save_state.specs.declared.parts.Kind.{Kind}
use Rattle.save_state.specs.declared.parts.Kind.TheVariants.{Disc, Keys}
use Rattle.save_state.specs.Fields.{Fields, field, with_nothing_behind, exactly, up_to, number, byte, ◌>>=◌}
use Rattle.save_state.specs.Saved.{Session}
use Rattle.save_state.specs.Parts.{parts_at, fits, may_lack, first_kinds, part_bytes, disc_bytes}
use Rattle.save_state.specs.Entries.{entries_at, entry_bytes}

-- the speed: 03 or 04
abbrev pub clock_in : ℕ → Option Clock
clock_in speed = if speed == 3 then Some Three else if speed == 4 then Some Four else None

-- The fields before the parts: the clock, the tick of the moment, and the number of plugged
-- devices.
pub record Header : Type 0 where
  pub clock : Clock
  pub ticks : ℕ
  pub plugs : ℕ

unfoldable pub header_at : Fields Header
header_at bytes at = do
  name ← field 4 (exactly (codes "BTUB")) bytes at
  form ← field 1 (exactly (1 ∷ [])) bytes name.1
  clock ← field 1 (λ b. clock_in (byte b)) bytes form.1
  ticks ← field 4 (λ b. up_to 1073741824 (number b)) bytes clock.1
  plugs ← field 1 (λ b. up_to 8 (byte b)) bytes ticks.1
  Ok (record { clock = clock.0; ticks = ticks.0; plugs = plugs.0 }, plugs.1)

-- the number of the accesses, and the accesses
unfoldable pub list_at : ℕ → Fields (List Entry)
list_at ticks bytes at = do
  count ← field 4 (λ b. up_to 4194304 (number b)) bytes at
  entries_at ticks count.0 None bytes count.1

-- The session that a file holds, or the first field at fault.
unfoldable pub file : List ℕ → Result Session StateError
file bytes = do
  head ← header_at bytes 0
  parts ← parts_at bytes head.1
  list ← list_at head.0.ticks bytes parts.1
  with_nothing_behind bytes (
    record {
      clock = head.0.clock;
      ticks = head.0.ticks;
      plugs = head.0.plugs;
      parts = parts.0.parts;
      dsd = parts.0.dsd;
      entries = list.0;
    },
    list.1,
  )

-- ---- The file of a session

abbrev pub speed_of : Clock → ℕ
speed_of Three = 3
speed_of Four = 4

abbrev pub header_bytes : Clock → ℕ → ℕ → List ℕ
header_bytes clock ticks plugs = codes "BTUB" ++ 1 ∷ speed_of clock ∷ to_be_bytes w32 ticks ++ plugs ∷ []

-- the part at an index
abbrev pub part : Session → ℕ → Option (List ℕ)
part s place = slice_index_or s.parts place None

abbrev pub is_dsd : Session → ℕ → Bool
is_dsd s drive = slice_index_or s.dsd drive false

abbrev pub parts_bytes : Session → List ℕ
parts_bytes s =
    flat_map part_bytes (take 19 s.parts)
    ++ disc_bytes (part s 19) (is_dsd s 0)
    ++ disc_bytes (part s 20) (is_dsd s 1)
    ++ part_bytes (part s 21)

abbrev pub list_bytes : List Entry → List ℕ
list_bytes entries = to_be_bytes w32 (length entries) ++ flat_map entry_bytes entries

-- the one file of a session
unfoldable pub file_of : Session → List ℕ
file_of s = header_bytes s.clock s.ticks s.plugs ++ parts_bytes s ++ list_bytes s.entries

-- ---- The rules of a session

-- a part of a kind: absent, if it may be, or of a length of its kind
abbrev pub IsPart : Kind → Option (List ℕ) → Type 0
IsPart kind None = IsTrue (may_lack kind)
IsPart kind (Some body) = IsTrue (fits kind (length body))

-- a disc: an SSD has at most 204,800 bytes, and an absent one is no DSD
abbrev pub IsDisc : Option (List ℕ) → Bool → Type 0
IsDisc None dsd = dsd ≡ false
IsDisc (Some body) dsd = IsTrue (fits Disc (length body)) × (dsd ≡ false → length body ≤ 204800)

-- a part of each kind
abbrev pub ArePartsOf : List Kind → List (Option (List ℕ)) → Type 0
ArePartsOf [] [] = Unit {0}
ArePartsOf [] (p ∷ parts) = ⊥
ArePartsOf (kind ∷ kinds) [] = ⊥
ArePartsOf (kind ∷ kinds) (p ∷ parts) = IsPart kind p × ArePartsOf kinds parts

pub record IsSession (s : Session) : Type 0 where
  pub ticks : s.ticks ≤ 1073741824
  pub plugs : s.plugs ≤ 8
  pub many : length s.parts ≡ 22
  pub both : length s.dsd ≡ 2
  pub first : ArePartsOf first_kinds (take 19 s.parts)
  pub disc0 : IsDisc (part s 19) (is_dsd s 0)
  pub disc1 : IsDisc (part s 20) (is_dsd s 1)
  pub keys : IsPart Keys (part s 21)
  pub few : length s.entries ≤ 4194304
  pub lines : All HasLine s.entries
  pub below : All (λ e. (e.tick).0 < s.ticks) s.entries
  pub rises : Rises (events_of s.entries)
