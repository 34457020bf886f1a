-- Several characters inside a line at once.
use Rattle.std.specs.Prelude.{ℕ, ◌+◌, ◌-◌, ◌%◌, ◌==◌, ◌&&◌, ◌≡◌, ◌<◌, nat_le, false, if◌then◌else◌}
use Rattle.crtc6845.specs.declared.Beam.{Beam}
use Rattle.crtc6845.specs.declared.Span.{Span}
use Rattle.crtc6845.specs.State.{State}
use Rattle.crtc6845.specs.Registers.{cursor_address}
use Rattle.crtc6845.specs.Clock.{address, has_cursor, beam_of}
use Rattle.crtc6845.specs.Laws.{clocks}

-- The characters before the last one of the line, if the next one is not the first. Past R0 they
-- count up to 255.
abbrev pub inside_clocks : State → ℕ
inside_clocks c =
    if nat_le c.character c.registers.horizontal_total then c.registers.horizontal_total - c.character
    else 256 - c.character

-- The outputs of the k-th clock of a span, counted from 0. The addresses count up. The cursor is at
-- most on the first character. Horizontal sync begins with clock `to_sync`.
abbrev pub beam_in_span : Span → ℕ → Beam
beam_in_span span k = record {
  shown = span.shown;
  ma = (span.ma + k) % 16384;
  ra = span.ra;
  cursor = span.cursor && k == 0;
  line_start = false;
  sync_start = k == span.to_sync;
  frame_end = false;
  fields = span.fields;
  row_end = false;
  restart = false;
}

-- Each clock of the span has the outputs of `beam_in_span`.
abbrev pub TellsSpan : Span → State → Type 0
TellsSpan span c = (k : ℕ) → k < span.clocks → beam_of (clocks k c) ≡ beam_in_span span k

-- The next n characters, except the first, have no cursor.
abbrev pub CursorIsFirst : ℕ → State → Type 0
CursorIsFirst n c = (k : ℕ) → 0 < k → k < n → has_cursor (record c { character = c.character + k }) ≡ false

-- The number of addresses from the current character's to the cursor's.
abbrev pub to_cursor : State → ℕ
to_cursor c = (cursor_address c.registers + 16384 - address c) % 16384
