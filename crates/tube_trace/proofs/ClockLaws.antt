-- The text of a clock and rising entries is read as that clock and those entries, and no other text
-- is.
use Rattle.std.proofs.Common.{◌≡◌, sym, refl, ℕ, Bool, drop, List, ◌++◌, true, false, Result, Ok, Err, arith}
use Rattle.std.specs.Prelude.{nat_eq}
use Rattle.std.specs.List.{starts_with}
use Rattle.std.proofs.lemmas.Bool.Decides.{Decides-eqb}
use Rattle.std.proofs.lemmas.Slice.Eq.{starts_is}
use Rattle.beeb_bits.specs.declared.clock.Clock.{Clock}
use Rattle.beeb_bits.specs.declared.clock.Clock.TheVariants.{Three, Four}
use Rattle.tube_trace.specs.declared.Entry.{Entry}
use Rattle.tube_trace.specs.declared.TraceError.{TraceError}
use Rattle.tube_trace.specs.declared.TraceError.TheVariants.{BadLine}
use Rattle.tube_trace.specs.Line.{entry_of}
use Rattle.tube_trace.specs.Trace.{beginning, clock_of, rest_of, at_clock, lines_read, trace}
use Rattle.tube_trace.specs.Text.{lines_text}
use Rattle.tube_trace.specs.Laws.{TextReadsBack, OnlyTextReads}
use Rattle.tube_trace.proofs.TextLaws.{lines_back, only_lines}

abbrev is_four : List ℕ → Bool
is_four text = starts_with nat_eq text (beginning Four)

-- a text that begins so is its beginning and what follows it
begins : (text : List ℕ) → is_four text ≡ true → text ≡ beginning Four ++ drop 3 text
begins text h = (starts_is Decides-eqb text (beginning Four) true (sym h)).0 refl

-- and its first line is outside the form
no_line : (text : List ℕ) → lines_read (beginning Four ++ text) ≡ Err (BadLine 1)
unfolding lines_read entry_of
no_line text = refl

-- what reads as lines does not begin so
begins_other : (text : List ℕ) (entries : List Entry) → lines_read text ≡ Ok entries → is_four text ≡ false
begins_other text entries is = grind (arith, begins text, no_line (drop 3 text))

-- each text is its beginning and its rest
whole : (text : List ℕ) → text ≡ beginning (clock_of text) ++ rest_of text
whole text = grind (arith, begins text)

pub text_read : TextReadsBack
unfolding trace
text_read Three entries rises lines bytes =
    let is = lines_back entries rises lines bytes in
    rw (begins_other (lines_text entries) entries is, is)
text_read Four entries rises lines bytes = rw (lines_back entries rises lines bytes)

at_clock_ok : (c clock : Clock) (r : Result (List Entry) TraceError) (entries : List Entry) → at_clock c r ≡ Ok (clock, entries) →
    (c ≡ clock) × (r ≡ Ok entries)
at_clock_ok c clock r entries h = grind arith

pub text_only : OnlyTextReads
unfolding trace
text_only text clock entries h =
    let parts : (clock_of text ≡ clock) × (lines_read (rest_of text) ≡ Ok entries) = at_clock_ok _ clock _ entries h in
    let lines = only_lines (rest_of text) entries parts.1 in
    (rw (lines.0, parts.0) at (whole text), lines.1, lines.2, lines.3)
