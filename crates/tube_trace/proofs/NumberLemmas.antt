-- The numbers of a line, read by five digits at most, and what they say of its entry.
use Rattle.std.proofs.Common.{◌≡◌, ◌∙◌, ap, ℕ, ◌+◌, ◌*◌, ◌^◌, List, [], ◌∷◌, ◌++◌, ◌-◌, ◌==◌, ◌≢◌, length, take-add, length-drop, Bool, true, false, if◌then◌else◌, ◌&&◌, Option, Some, None, arith}
use Rattle.std.specs.Prelude.{slice_index, slice_range}
use Rattle.std.specs.List.{list_all}
use Rattle.std.proofs.lemmas.List.{length-take}
use Rattle.std.proofs.lemmas.List.Folds.{list_all-append}
use Rattle.digits.specs.Hexadecimal.{is_hex, hex_value, hex_number, hex_number_after}
use Rattle.digits.proofs.HexLaws.{number_after}
use Rattle.tube_trace.specs.declared.Entry.{Entry}
use Rattle.tube_trace.specs.Line.{is_space, is_octal, side_of, entry_from, is_formed, entry_of}
use Rattle.std.proofs.lemmas.Bool.Decides.{nat_tests}

number_append : (a b : List ℕ) (n : ℕ) → hex_number_after n (a ++ b) ≡ hex_number_after n a * 16 ^ length b + hex_number b
number_append [] b n = number_after b n
number_append (x ∷ a) b n = number_append a b (16 * n + hex_value x)

halves : (line : List ℕ) → slice_range line 0 10 ≡ slice_range line 0 5 ++ slice_range line 5 10
halves line = take-add 5 5 line

ten_all : (line : List ℕ) → list_all is_hex (slice_range line 0 10) ≡ list_all is_hex (slice_range line 0 5) && list_all is_hex (slice_range line 5 10)
ten_all line = ap (list_all is_hex) (halves line) ∙ list_all-append is_hex (slice_range line 0 5) (slice_range line 5 10)

ten_number : (line : List ℕ) → length line ≡ 20 → hex_number (slice_range line 0 10) ≡ hex_number (slice_range line 0 5) * 1048576 + hex_number (slice_range line 5 10)
ten_number line long =
    let five : length (slice_range line 5 10) ≡ 5 = simp (length-take, length-drop) (omega arith) in
    ap hex_number (halves line) ∙ (rw five at (number_append (slice_range line 0 5) (slice_range line 5 10) 0))

-- ---- the tick and the byte

-- what a text is as a number, or that it is none
none_is : {A : Type 0} {t : Bool} (x : A) → None ≡ (if t then Some x else None) → t ≡ false
none_is x h = grind arith

some_is : {A : Type 0} {t : Bool} {x y : A} → Some y ≡ (if t then Some x else None) → (t ≡ true) × (x ≡ y)
some_is h = grind arith

and_false : (a : Bool) → a && false ≡ false
and_false a = grind arith

abbrev number_in : List ℕ → Option ℕ
number_in bytes = if list_all is_hex bytes then Some (hex_number bytes) else None

abbrev numbers : List ℕ → Option (ℕ × ℕ)
numbers line =
    if list_all is_hex (slice_range line 0 10) && list_all is_hex (slice_range line 17 19)
    then Some (hex_number (slice_range line 0 10), hex_number (slice_range line 17 19)) else None

pub no_high : (line : List ℕ) → None ≡ number_in (slice_range line 0 5) → None ≡ numbers line
no_high line h = rw (ten_all line, none_is _ h)

pub no_low : (line : List ℕ) → None ≡ number_in (slice_range line 5 10) → None ≡ numbers line
no_low line h = rw (ten_all line, none_is _ h, and_false (list_all is_hex (slice_range line 0 5)))

pub no_byte : (line : List ℕ) → None ≡ number_in (slice_range line 17 19) → None ≡ numbers line
no_byte line h = rw (none_is _ h, and_false (list_all is_hex (slice_range line 0 10)))

pub all_numbers : (line : List ℕ) {high low byte : ℕ} → length line ≡ 20 → Some high ≡ number_in (slice_range line 0 5) → Some low ≡ number_in (slice_range line 5 10) →
    Some byte ≡ number_in (slice_range line 17 19) → Some (high * 1048576 + low, byte) ≡ numbers line
all_numbers line long is_high is_low is_byte =
    let high = some_is is_high in
    let low = some_is is_low in
    let byte = some_is is_byte in
    rw (ten_all line, high.0, low.0, byte.0, ten_number line long, high.1, low.1, byte.1)

-- ---- the tests of the form, in the order of the code

abbrev parted : List ℕ → Bool
parted line =
    list_all is_space (slice_index line 10 ∷ slice_index line 12 ∷ slice_index line 14 ∷ slice_index line 16 ∷ [])
    && is_octal (slice_index line 15) && slice_index line 19 == 10

regroup : (a b c d e : Bool) → (((a && b) && c) && d) && e ≡ ((b && c) && e) && (a && d)
regroup a b c d e = grind arith

formed_is : (line : List ℕ) → is_formed line ≡ parted line && (list_all is_hex (slice_range line 0 10) && list_all is_hex (slice_range line 17 19))
formed_is line = regroup (list_all is_hex (slice_range line 0 10)) _ (is_octal (slice_index line 15)) (list_all is_hex (slice_range line 17 19)) (slice_index line 19 == 10)

pub not_long : (line : List ℕ) → length line ≢ 20 → None ≡ entry_of line
unfolding entry_of
not_long line h = let other : (length line == 20) ≡ false = grind (arith, nat_tests) in rw other

pub not_parted : (line : List ℕ) → parted line ≡ false → None ≡ entry_of line
unfolding entry_of
not_parted line h = rw (formed_is line, h, and_false (length line == 20))

pub no_numbers : (line : List ℕ) → None ≡ numbers line → None ≡ entry_of line
unfolding entry_of
no_numbers line h = rw (formed_is line, none_is _ h, and_false (parted line), and_false (length line == 20))

pub with_numbers : (line : List ℕ) {tick byte : ℕ} {o : Option Entry} → length line ≡ 20 → parted line ≡ true → Some (tick, byte) ≡ numbers line →
    o ≡ entry_from tick (side_of (slice_index line 11)) (slice_index line 13) (slice_index line 15 - 48) byte → o ≡ entry_of line
unfolding entry_of
with_numbers line long is_parted are is =
    let both = some_is are in
    is ∙ (rw (long, formed_is line, is_parted, both.0, ap (λ (p : ℕ × ℕ). p.0) both.1, ap (λ (p : ℕ × ℕ). p.1) both.1))
