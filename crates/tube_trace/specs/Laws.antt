-- What is written reads back, and no other bytes are read so.
use Rattle.std.specs.Prelude.{ℕ, ◌≡◌, ◌<◌, List, All, Some, Ok}
use Rattle.beeb_bits.specs.declared.clock.Clock.{Clock}
use Rattle.tube_chip.specs.Events.{Rises}
use Rattle.tube_trace.specs.declared.Entry.{Entry}
use Rattle.tube_trace.specs.Entries.{events_of}
use Rattle.tube_trace.specs.Line.{entry_of}
use Rattle.tube_trace.specs.Trace.{trace}
use Rattle.tube_trace.specs.Text.{line_byte, line_text, text_of, HasLine}

-- the byte of an entry's line is below 256
abbrev pub IsOfByte : Entry → Type 0
IsOfByte e = line_byte e.op e.answer < 256

-- the line of an entry is read as that entry
abbrev pub LineReadsBack : Type 0
LineReadsBack = (e : Entry) → HasLine e → IsOfByte e → entry_of (line_text e) ≡ Some e

-- and no other bytes are; what is read has a line
abbrev pub OnlyLineReads : Type 0
OnlyLineReads = (line : List ℕ) (e : Entry) → entry_of line ≡ Some e → (line ≡ line_text e) × HasLine e × IsOfByte e

-- the text of a clock and rising entries is read as that clock and those entries
abbrev pub TextReadsBack : Type 0
TextReadsBack =
    (clock : Clock) (entries : List Entry) → Rises (events_of entries) → All HasLine entries → All IsOfByte entries →
    trace (text_of clock entries) ≡ Ok (clock, entries)

-- and no other text is; what is read rises and has lines
abbrev pub OnlyTextReads : Type 0
OnlyTextReads =
    (text : List ℕ) (clock : Clock) (entries : List Entry) → trace text ≡ Ok (clock, entries) →
    (text ≡ text_of clock entries) × Rises (events_of entries) × All HasLine entries × All IsOfByte entries
