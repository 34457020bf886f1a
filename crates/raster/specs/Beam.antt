-- The beam's place, the address of the byte that is shown, and the cursor's marks.
use Rattle.std.specs.Prelude.{ℕ, ◌+◌, ◌-◌, ◌*◌, ◌%◌, ◌&&◌, ◌||◌, ◌≡◌, ◌⊎◌, nat_le, min, Bool, if◌then◌else◌}
use Rattle.beeb_bits.specs.Bits.{bit}
use Rattle.crtc6845.specs.declared.Beam.{Beam}

-- The beam's place: x counts dots from the beginning of horizontal sync, and y lines from that of
-- vertical sync.
pub record Place : Type 0 where
  pub x : ℕ
  pub y : ℕ

-- The place at a character. A line or a frame may start with the character, and horizontal sync may
-- begin.
abbrev pub place_at : Beam → Place → Place
place_at beam p = record {
  x = if beam.sync_start then 0 else p.x;
  y = if beam.frame_end then 0 else if beam.line_start then min (p.y + 1) 1023 else p.y;
}

-- the place one character later
abbrev pub place_past : ℕ → Place → Place
place_past dots p = record p { x = min (p.x + dots) 4095 }

-- The four sizes of the screen, in bytes.
abbrev pub IsScreenSize : ℕ → Type 0
IsScreenSize size = (size ≡ 16384) ⊎ (size ≡ 8192) ⊎ (size ≡ 20480) ⊎ (size ≡ 10240)

-- The RAM address of the byte that is shown. If bit 13 of MA is set, the byte is in a teletext page
-- of 1,024 bytes, at 7C00 or 3C00 by bit 11. Otherwise a character has eight bytes, and an address
-- past the RAM's end wraps by the size of the screen. (BBC Microcomputer Advanced User Guide,
-- Screen Addresses.)
abbrev pub page_address : ℕ → ℕ
page_address ma = (if bit ma 11 then 0x7C00 else 0x3C00) + ma % 1024

abbrev pub wrapped_address : ℕ → ℕ → ℕ
wrapped_address size at = (if nat_le 0x8000 at then at - size else at) % 0x8000

abbrev pub byte_address : ℕ → ℕ → ℕ → ℕ
byte_address ma ra size = if bit ma 13 then page_address ma else wrapped_address size (ma % 0x2000 * 8 + ra % 8)

-- The cursor among the three characters before this one.
pub record Cursor : Type 0 where
  pub one_ago : Bool
  pub two_ago : Bool
  pub three_ago : Bool

abbrev pub cursor_past : Bool → Cursor → Cursor
cursor_past here c = record { one_ago = here; two_ago = c.one_ago; three_ago = c.two_ago }

-- The characters that the cursor marks, by the ULA's control byte. With bit 7 the cursor marks the
-- character that it is on, with bit 6 the next one, and with bit 5 the two after that. In teletext
-- it marks only the one that it is on, if any of the three bits is set.
abbrev pub is_marked : ℕ → Bool → Cursor → Bool
is_marked control here c =
    if bit control 1 then here && (bit control 5 || bit control 6 || bit control 7)
    else (bit control 7 && here) || (bit control 6 && c.one_ago) || (bit control 5 && (c.two_ago || c.three_ago))
