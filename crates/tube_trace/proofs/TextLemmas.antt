-- A text read twenty bytes at a time.
use Rattle.std.proofs.Common.{◌≡◌, refl, ap, ℕ, ◌+◌, ◌*◌, ◌<◌, List, [], ◌∷◌, ◌++◌, length, take, drop, map, true, false, ◌==◌, Option, Some, None, Result, Ok, Err, arith, append_assoc, append-nil}
use Rattle.std.proofs.Common.{length-append, length-drop, min}
use Rattle.std.specs.List.{flat_map}
use Rattle.std.proofs.lemmas.Bool.Decides.{nat_tests}
use Rattle.std.proofs.lemmas.Grind.{common_steps}
use Rattle.std.proofs.Math.ListN.{drop_of_length-le}
use Rattle.std.proofs.lemmas.List.{length-take, take_at, take-append-drop, nil_from_length}
use Rattle.digits.specs.Hexadecimal.{hex_digit, hex_digits}
use Rattle.digits.specs.Lines.{begin_with, text_lines}
use Rattle.beeb_bits.specs.declared.Side.{Side}
use Rattle.tube_chip.specs.declared.Op.{Op}
use Rattle.tube_trace.specs.declared.Entry.{Entry}
use Rattle.tube_trace.specs.declared.TraceError.{TraceError}
use Rattle.tube_trace.specs.declared.TraceError.TheVariants.{BadLine, BadOrder}
use Rattle.tube_trace.specs.Line.{entry_of}
use Rattle.tube_trace.specs.Text.{side_letter, op_letter, access_text, line_text}
use Rattle.tube_trace.specs.Trace.{follows, in_front, entries_behind}
use Rattle.tube_trace.proofs.LineLaws.{line_only, long_line}

-- ---- the lines of a text are the text

abbrev pub joined : List (List ℕ) → List ℕ
joined lines = flat_map (λ line. line) lines

begin_joined : (b : ℕ) (lines : List (List ℕ)) → joined (begin_with b lines) ≡ b ∷ joined lines
begin_joined b [] = refl
begin_joined b (line ∷ lines) = refl

pub lines_joined : (text : List ℕ) → joined (text_lines text) ≡ text
lines_joined [] = refl
lines_joined (b ∷ text) = grind (arith, begin_joined b (text_lines text), lines_joined text)

-- ---- a line in front of a text is its first

digit_other : (n : ℕ) → (hex_digit n == 10) ≡ false
digit_other n = grind (arith, nat_tests)

number_other : (n : ℕ) → (48 + n == 10) ≡ false
number_other n = grind (arith, nat_tests)

side_other : (side : Side) → (side_letter side == 10) ≡ false
side_other side = grind arith

letter_other : (op : Op) → (op_letter op == 10) ≡ false
letter_other op = grind arith

pub line_first : (e : Entry) (rest : List ℕ) → text_lines (line_text e ++ rest) ≡ line_text e ∷ text_lines rest
unfolding access_text hex_digits
line_first e rest = simp (digit_other, number_other, side_other, letter_other)

-- twenty bytes that have an entry are the first line
line_reads : (text : List ℕ) {e : Entry} → entry_of (take 20 text) ≡ Some e → map entry_of (text_lines text) ≡ Some e ∷ map entry_of (text_lines (drop 20 text))
line_reads text {e} is =
    let line : take 20 text ≡ line_text e = (line_only (take 20 text) e is).0 in
    let split : text_lines text ≡ take 20 text ∷ text_lines (drop 20 text) = rw (← line, take-append-drop 20 text) at (line_first e (drop 20 text)) in
    rw (split, is)

-- if they have none, the first line has none
stops_at : (line rest : List ℕ) → entry_of (take 20 (line ++ rest)) ≡ None → (o : Option Entry) → entry_of line ≡ o → o ≡ None
stops_at line rest none None e = refl
stops_at line rest none (Some entry) e = let here : entry_of line ≡ None = rw (take_at line rest 20 (long_line line e)) at none in cc

line_stops : (text : List ℕ) → 0 < length text → entry_of (take 20 text) ≡ None → (more : List (Option Entry)) × (map entry_of (text_lines text) ≡ None ∷ more)
line_stops text some none = by (text_lines text) (lines_joined text)
  where
    by : (lines : List (List ℕ)) → joined lines ≡ text → (more : List (Option Entry)) × (map entry_of lines ≡ None ∷ more)
    by [] is = absurd (omega (arith, ap length is))
    by (line ∷ lines) is = (map entry_of lines, rw (stops_at line (joined lines) (rw (← is) at none) (entry_of line) refl))

-- ---- the bytes that are taken for a line

pub take_least : {front : List ℕ} (text : List ℕ) → front ≡ take (min (length text) 20) text → front ≡ take 20 text
take_least text is = let least : take (min (length text) 20) text ≡ take 20 text = grind (arith, common_steps) in rw least at is

pub drop_least : {back : List ℕ} (text : List ℕ) → back ≡ drop (min (length text) 20) text → back ≡ drop 20 text
drop_least text is = let least : drop (min (length text) 20) text ≡ drop 20 text = grind (arith, common_steps, drop_of_length-le) in rw least at is

-- ---- what was read, with what is left of the text, is the whole text's

pub record ReadSoFar (text : List ℕ) (entries : List Entry) (last : Option Entry) (rest : List ℕ) : Type 0 where
  pub whole : entries_behind 1 None (map entry_of (text_lines text)) ≡ in_front entries (entries_behind (length entries + 1) last (map entry_of (text_lines rest)))
  pub size : 20 * length entries + length rest ≡ length text

in_front_more : (entries : List Entry) (e : Entry) (r : Result (List Entry) TraceError) → in_front entries (in_front (e ∷ []) r) ≡ in_front (entries ++ e ∷ []) r
in_front_more entries e (Ok more) = rw append_assoc
in_front_more entries e (Err error) = refl

pub read_more : {text : List ℕ} {entries : List Entry} {last : Option Entry} {rest : List ℕ} {e : Entry} →
    ReadSoFar text entries last rest → entry_of (take 20 rest) ≡ Some e → follows last e ≡ true → ReadSoFar text (entries ++ e ∷ []) (Some e) (drop 20 rest)
read_more {text} {entries} {last} {rest} {e} so_far is after =
    let long : length (take 20 rest) ≡ 20 = long_line (take 20 rest) is in
    let more : length (entries ++ e ∷ []) ≡ length entries + 1 = length-append entries (e ∷ []) in
    record {
      whole = rw more (rw (line_reads rest is, after, in_front_more) at so_far.whole);
      size = omega (arith, so_far.size, length-drop 20 rest, length-take 20 rest);
    }

pub read_all : {text : List ℕ} {entries : List Entry} {last : Option Entry} {rest : List ℕ} →
    ReadSoFar text entries last rest → length rest ≡ 0 → entries_behind 1 None (map entry_of (text_lines text)) ≡ Ok entries
read_all {rest} so_far h = rw (nil_from_length rest h, append-nil) at so_far.whole

pub read_bad_line : {text : List ℕ} {entries : List Entry} {last : Option Entry} {rest : List ℕ} →
    ReadSoFar text entries last rest → 0 < length rest → entry_of (take 20 rest) ≡ None → entries_behind 1 None (map entry_of (text_lines text)) ≡ Err (BadLine (length entries + 1))
read_bad_line {rest} so_far some none = rw (line_stops rest some none).1 at so_far.whole

pub read_bad_order : {text : List ℕ} {entries : List Entry} {last : Option Entry} {rest : List ℕ} {e : Entry} →
    ReadSoFar text entries last rest → entry_of (take 20 rest) ≡ Some e → follows last e ≡ false
    → entries_behind 1 None (map entry_of (text_lines text)) ≡ Err (BadOrder (length entries + 1))
read_bad_order {rest} so_far is after = rw (line_reads rest is, after) at so_far.whole
