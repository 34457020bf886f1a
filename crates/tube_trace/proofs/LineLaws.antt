-- The line of an entry is read as that entry, and no other bytes are.
use Rattle.std.proofs.Common.{◌≡◌, ◌∙◌, refl, ap, ℕ, ◌+◌, ◌-◌, ◌%◌, ◌^◌, ◌<◌, ◌≤◌, length, get_or, take, List, [], ◌∷◌, ◌++◌, Bool, true, IsTrue, cond, ◌&&◌, Option, Some, None, codes, eqb-true}
use Rattle.std.proofs.Common.{append_assoc, arith}
use Rattle.std.specs.Prelude.{slice_index, slice_range}
use Rattle.std.specs.List.{list_all}
use Rattle.std.proofs.lemmas.Bool.Decides.{nat_tests}
use Rattle.std.proofs.lemmas.List.{length-take}
use Rattle.std.proofs.lemmas.List.FromFn.{fill_by_all}
use Rattle.digits.specs.Hexadecimal.{hex_digits, hex_number}
use Rattle.digits.proofs.HexLaws.{digits_are_hex, reads_back, only_digits}
use Rattle.beeb_bits.specs.declared.Side.{Side}
use Rattle.tube_chip.specs.declared.Op.{Op}
use Rattle.tube_chip.specs.Act.{MayDo}
use Rattle.tube_trace.specs.declared.Entry.{Entry}
use Rattle.tube_trace.specs.Line.{is_space, is_octal, side_of, entry_from, entry_of}
use Rattle.tube_trace.specs.Entries.{IsEntry}
use Rattle.tube_trace.specs.Text.{side_letter, op_letter, number_of, access_text, line_byte, IsAnswer}
use Rattle.tube_trace.specs.Laws.{LineReadsBack, OnlyLineReads}

-- ---- written and read

side_back : (side : Side) → side_of (side_letter side) ≡ Some side
side_back side = grind arith

number_below : (side : Side) (op : Op) → MayDo side op → number_of op < 8
number_below side op may = grind arith

entry_back : (tick : ℕ) (side : Side) (op : Op) (answer : ℕ) → MayDo side op → IsAnswer op answer →
    entry_from tick (Some side) (op_letter op) (number_of op) (line_byte op answer)
    ≡ Some (record { tick = record { 0 = tick }; side = side; op = op; answer = answer })
entry_back tick side op answer may is = grind arith

access_read : (tick : ℕ) (side : Side) (op : Op) (byte : ℕ) → tick < 2 ^ 40 → number_of op < 8 → byte < 256 →
    entry_of (access_text tick side op (hex_digits 2 byte) ++ codes "\n") ≡ entry_from tick (Some side) (op_letter op) (number_of op) byte
unfolding entry_of access_text hex_digits
access_read tick side op byte t n b =
    let low : number_of op % 8 < 8 = omega arith in
    let octal : is_octal (48 + number_of op % 8) ≡ true = grind (arith, nat_tests) in
    let number : 48 + number_of op % 8 - 48 ≡ number_of op = omega arith in
    rw ((digits_are_hex 10 tick).1, octal, (digits_are_hex 2 byte).1, reads_back 10 tick t, reads_back 2 byte b, side_back side, number)

pub line_read : LineReadsBack
line_read e has byte =
    access_read (e.tick).0 e.side e.op (line_byte e.op e.answer) has.tick (number_below e.side e.op has.may) byte
    ∙ entry_back (e.tick).0 e.side e.op e.answer has.may has.answer

-- ---- read and written

-- what an entry says of the letters and numbers that it was made of
record IsMadeOf (e : Entry) (tick byte side letter number : ℕ) : Type 0 where
  tick_is : (e.tick).0 ≡ tick
  side_is : side_letter e.side ≡ side
  letter_is : op_letter e.op ≡ letter
  number_is : number_of e.op ≡ number
  byte_is : line_byte e.op e.answer ≡ byte
  answer_is : IsAnswer e.op e.answer
  may : IsEntry e

made_of : (tick byte side letter number : ℕ) {e : Entry} → number < 8 → entry_from tick (side_of side) letter number byte ≡ Some e → IsMadeOf e tick byte side letter number
made_of tick byte side letter number low is = grind (arith, nat_tests)

-- the tests of the form, one by one
tests : {a b c d f g : Bool} {o : Option Entry} {e : Entry} → cond (a && (b && c && d && f && g)) o None ≡ Some e →
    IsTrue a × IsTrue b × IsTrue c × IsTrue d × IsTrue f × IsTrue g × (o ≡ Some e)
tests h = grind arith

pub long_line : (line : List ℕ) {e : Entry} → entry_of line ≡ Some e → length line ≡ 20
unfolding entry_of
long_line line is = grind (arith, nat_tests)

-- twenty bytes one by one
twenty : (line : List ℕ) → length line ≡ 20 →
    line ≡ take 10 line ++ (get_or line 10 0 ∷ get_or line 11 0 ∷ get_or line 12 0 ∷ get_or line 13 0 ∷ get_or line 14 0
    ∷ get_or line 15 0 ∷ get_or line 16 0 ∷ get_or line 17 0 ∷ get_or line 18 0 ∷ get_or line 19 0 ∷ [])
twenty line long = rw (fill_by_all (λ i. get_or line i 0) line 20 0 long (λ k lt. refl))

two_at : (line : List ℕ) → length line ≡ 20 → slice_range line 17 19 ≡ get_or line 17 0 ∷ get_or line 18 0 ∷ []
two_at line long = rw (fill_by_all (λ i. get_or line i 0) line 20 0 long (λ k lt. refl))

octal_back : (b : ℕ) → IsTrue (is_octal b) → (48 + (b - 48) % 8 ≡ b) × (b - 48 < 8)
octal_back b h = let low : 48 ≤ b = grind (arith, nat_tests) in let high : b ≤ 55 = grind (arith, nat_tests) in omega arith

spaces_are : (a b c d : ℕ) → IsTrue (list_all is_space (a ∷ b ∷ c ∷ d ∷ [])) → (a ≡ 32) × (b ≡ 32) × (c ≡ 32) × (d ≡ 32)
spaces_are a b c d h = grind (arith, nat_tests)

pub line_only : OnlyLineReads
unfolding access_text entry_of
line_only line e is =
    let long : length line ≡ 20 = long_line line is in
    let front : List ℕ = slice_range line 0 10 in
    let ten : length front ≡ 10 = simp length-take (omega arith) in
    let t = tests is in
    let two : List ℕ = slice_range line 17 19 in
    let octal = octal_back (slice_index line 15) t.3 in
    let made = made_of (hex_number front) (hex_number two) (slice_index line 11) (slice_index line 13) (slice_index line 15 - 48) octal.1 t.6 in
    let pair : two ≡ get_or line 17 0 ∷ get_or line 18 0 ∷ [] = two_at line long in
    let both : length two ≡ 2 = ap length pair in
    let tick = rw ten at (only_digits front t.1) in
    let byte = rw both at (only_digits two t.4) in
    let blanks = spaces_are (get_or line 10 0) (get_or line 12 0) (get_or line 14 0) (get_or line 16 0) t.2 in
    let feed : get_or line 19 0 ≡ 10 = eqb-true _ _ t.5 in (
      rw (made.tick_is, tick.0, made.byte_is, byte.0, pair, made.side_is, made.letter_is, made.number_is, octal.0)
          (twenty line long ∙ (rw (blanks.0, blanks.1, blanks.2, blanks.3, feed, append_assoc))),
      record { may = made.may; tick = rw made.tick_is tick.1; answer = made.answer_is },
      rw made.byte_is byte.1,
    )
