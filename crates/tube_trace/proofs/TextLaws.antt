-- The lines of rising entries are read as those entries, and no other lines are.
use Rattle.std.proofs.Common.{◌≡◌, ◌∙◌, sym, refl, ℕ, List, [], ◌∷◌, map, All, Some, None, Ok}
use Rattle.std.proofs.lemmas.List.Elements.{All-nil, All-cons, All-head, All-tail}
use Rattle.digits.specs.Lines.{text_lines}
use Rattle.tube_trace.specs.declared.Entry.{Entry}
use Rattle.tube_trace.specs.Line.{entry_of}
use Rattle.tube_chip.specs.Events.{Rises}
use Rattle.tube_trace.specs.Entries.{events_of}
use Rattle.tube_trace.specs.Trace.{lines_read}
use Rattle.tube_trace.specs.Text.{lines_text, HasLine}
use Rattle.tube_trace.specs.Laws.{IsOfByte}
use Rattle.tube_trace.proofs.LineLaws.{line_read, line_only}
use Rattle.tube_trace.proofs.TextLemmas.{joined, lines_joined, line_first}
use Rattle.tube_trace.proofs.RiseLemmas.{read_tells, rising_read}

entries_back : (entries : List Entry) → All HasLine entries → All IsOfByte entries → map entry_of (text_lines (lines_text entries)) ≡ map Some entries
entries_back [] lines bytes = refl
entries_back (e ∷ entries) lines bytes = rw (
  line_first e (lines_text entries),
  line_read e (All-head HasLine e entries lines) (All-head IsOfByte e entries bytes),
  entries_back entries (All-tail HasLine e entries lines) (All-tail IsOfByte e entries bytes),
)

pub lines_back : (entries : List Entry) → Rises (events_of entries) → All HasLine entries → All IsOfByte entries → lines_read (lines_text entries) ≡ Ok entries
unfolding lines_read
lines_back entries rises lines bytes = rw (entries_back entries lines bytes) (rising_read 1 None entries rises)

-- lines that have these entries are the lines of these entries
record AreLines (lines : List (List ℕ)) (entries : List Entry) : Type 0 where
  text : joined lines ≡ lines_text entries
  each : All HasLine entries
  bytes : All IsOfByte entries

lines_only : (lines : List (List ℕ)) (entries : List Entry) → map entry_of lines ≡ map Some entries → AreLines lines entries
lines_only [] [] h = record { text = refl; each = All-nil HasLine; bytes = All-nil IsOfByte }
lines_only [] (e ∷ entries) h = absurd cc
lines_only (line ∷ lines) [] h = absurd cc
lines_only (line ∷ lines) (e ∷ entries) h =
    let here : entry_of line ≡ Some e = cc in
    let one = line_only line e here in
    let rest = lines_only lines entries cc in
    record { text = rw (one.0, rest.text); each = All-cons HasLine e entries one.1 rest.each; bytes = All-cons IsOfByte e entries one.2 rest.bytes }

pub only_lines : (text : List ℕ) (entries : List Entry) → lines_read text ≡ Ok entries →
    (text ≡ lines_text entries) × Rises (events_of entries) × All HasLine entries × All IsOfByte entries
unfolding lines_read
only_lines text entries h =
    let tells = read_tells 1 None (map entry_of (text_lines text)) entries h in
    let parts = lines_only (text_lines text) entries tells.0 in
    (sym (lines_joined text) ∙ parts.text, tells.1, parts.each, parts.bytes)
