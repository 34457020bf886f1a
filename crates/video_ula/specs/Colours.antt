-- The tables of the code for the pixels: the colours of the palette's entries, and sixteen dots of
-- a byte by the width of a pixel.
use Rattle.std.specs.Prelude.{ℕ, ◌/◌, ◌<◌, ◌≡◌, Bool, false, List, [], ◌++◌, length, map, slice_index, slice_index_or}
use Rattle.std.specs.List.{range_with_len}
use Rattle.video_ula.specs.Pixels.{shifted_byte, entry_of, under_cursor, colour_of}
use Rattle.video_ula.specs.declared.ready.Ready.{Ready}

-- the colours of all entries
abbrev pub entry_colours : Bool → List ℕ → List ℕ
entry_colours flash palette = map (colour_of flash) palette

-- the colour of pixel k, by the colours of the entries
abbrev pub pixel_of : List ℕ → ℕ → Bool → ℕ → ℕ
pixel_of entries byte cursor k = under_cursor cursor (slice_index entries (entry_of (shifted_byte byte k)))

-- sixteen dots, with pixels `width` dots wide
abbrev pub dots_in : List ℕ → ℕ → Bool → ℕ → List ℕ
dots_in entries byte cursor width = map (λ d. pixel_of entries byte cursor (d / width)) (range_with_len 0 16)

-- eight dots from dot `first` on, and the eight of all bytes
abbrev pub eight_in : ℕ → List ℕ → ℕ → ℕ → List ℕ
eight_in first entries byte width = map (λ d. pixel_of entries byte false (d / width)) (range_with_len first 8)

unfoldable pub table_of : ℕ → List ℕ → ℕ → List (List ℕ)
table_of first entries width = map (λ byte. eight_in first entries byte width) (range_with_len 0 256)

-- the tables are right if `waits` is 0
abbrev pub IsReady : List ℕ → ℕ → Ready → Type 0
IsReady entries width r = r.waits ≡ 0 → (r.first ≡ table_of 0 entries width) × (r.last ≡ table_of 8 entries width)

-- the entries of a byte in the tables: eight dots, and sixteen
abbrev pub eight_at : List (List ℕ) → ℕ → List ℕ
eight_at table byte = slice_index_or table byte []

abbrev pub sixteen_at : Ready → ℕ → List ℕ
sixteen_at r byte = eight_at r.first byte ++ eight_at r.last byte

-- both tables have eight dots for each byte
abbrev pub HasEights : Ready → Type 0
HasEights r = (byte : ℕ) → byte < 256 → (length (eight_at r.first byte) ≡ 8) × (length (eight_at r.last byte) ≡ 8)
