-- The text of a trace: the clock of the machines and the entries, or the first offending line.
use Rattle.std.specs.Prelude.{ℕ, ◌+◌, nat_eq, Bool, true, List, [], ◌∷◌, ◌++◌, map, drop, length, codes, Option, Some, None, Result, Ok, Err, if◌then◌else◌}
use Rattle.std.specs.List.{starts_with}
use Rattle.digits.specs.Lines.{text_lines}
use Rattle.beeb_bits.specs.Order.{before}
use Rattle.beeb_bits.specs.declared.clock.Clock.{Clock}
use Rattle.beeb_bits.specs.declared.clock.Clock.TheVariants.{Three, Four}
use Rattle.tube_trace.specs.declared.Entry.{Entry}
use Rattle.tube_trace.specs.declared.TraceError.{TraceError}
use Rattle.tube_trace.specs.declared.TraceError.TheVariants.{BadLine, BadOrder}
use Rattle.tube_trace.specs.Line.{entry_of}

-- the entry comes after the one before it, if there is one
abbrev pub follows : Option Entry → Entry → Bool
follows None e = true
follows (Some d) e = before (d.tick).0 d.side (e.tick).0 e.side

-- these entries in front of what is read
abbrev pub in_front : List Entry → Result (List Entry) TraceError → Result (List Entry) TraceError
in_front front (Ok entries) = Ok (front ++ entries)
in_front front (Err e) = Err e

-- The meaning of lines that count from `line`, after entry `last`: their entries, or the first line
-- that is outside the form or not after the one before it. The last line of a text without its line
-- feed is outside the form, as is any incomplete line.
abbrev pub entries_behind : ℕ → Option Entry → List (Option Entry) → Result (List Entry) TraceError
entries_behind line last [] = Ok []
entries_behind line last (None ∷ lines) = Err (BadLine line)
entries_behind line last (Some e ∷ lines) =
    if follows last e then in_front (e ∷ []) (entries_behind (line + 1) (Some e) lines) else Err (BadOrder line)

-- The meaning of a text of lines. Lines count from 1.
unfoldable pub lines_read : List ℕ → Result (List Entry) TraceError
lines_read text = entries_behind 1 None (map entry_of (text_lines text))

-- the text before the lines: `T2` and a line feed at clock Four
abbrev pub beginning : Clock → List ℕ
beginning Three = []
beginning Four = codes "T2\n"

-- A text that begins with `T2` and a line feed is of clock Four. Every other text is of clock
-- Three.
abbrev pub clock_of : List ℕ → Clock
clock_of text = if starts_with nat_eq text (beginning Four) then Four else Three

-- the rest of it, after its beginning
abbrev pub rest_of : List ℕ → List ℕ
rest_of text = drop (length (beginning (clock_of text))) text

-- the entries that were read, with a clock
abbrev pub at_clock : Clock → Result (List Entry) TraceError → Result (Clock × List Entry) TraceError
at_clock clock (Ok entries) = Ok (clock, entries)
at_clock clock (Err e) = Err e

-- The meaning of a text as a trace: its clock, and the meaning of the lines of its rest.
unfoldable pub trace : List ℕ → Result (Clock × List Entry) TraceError
trace text = at_clock (clock_of text) (lines_read (rest_of text))
