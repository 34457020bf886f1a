-- One line of a key script: `at T down KK`, `at T up KK`, `at T shot`, `at T break` or `at T adc C
-- VVVV`. T is decimal, without leading zeros and at most 1073741824. KK is two upper-case
-- hexadecimal digits from 00 to 7F, C is 0 to 3, and VVVV four such digits. (This project's own
-- format.)
use Rattle.std.specs.Prelude.{ℕ, ◌-◌, ◌==◌, ◌&&◌, nat_eq, nat_lt, List, [], ◌∷◌, length, take, Option, Some, None, option_map, codes, if◌then◌else◌}
use Rattle.std.specs.List.{ends_with, list_all}
use Rattle.std.specs.Str.{bytes_eq}
use Rattle.digits.specs.Decimal.{decimal_number}
use Rattle.digits.specs.Hexadecimal.{is_hex, hex_number}
use Rattle.key_script.specs.declared.Event.{Event}
use Rattle.key_script.specs.declared.What.{What}
use Rattle.key_script.specs.declared.What.TheVariants.{Down, Up, Shot, Break, Level}
use Rattle.key_script.specs.Words.{words_of}

-- the number of a word with `digits` digits, below `bound`
abbrev pub number_of : ℕ → ℕ → List ℕ → Option ℕ
number_of digits bound word =
    if length word == digits && list_all is_hex word && nat_lt (hex_number word) bound then Some (hex_number word) else None

-- the number of a key: two digits, below 80 hexadecimal
abbrev pub key_of : List ℕ → Option ℕ
key_of word = number_of 2 128 word

-- the number of a channel: one digit, below 4
abbrev pub channel_of : List ℕ → Option ℕ
channel_of word = number_of 1 4 word

-- a level: four digits
abbrev pub level_of : List ℕ → Option ℕ
level_of word = number_of 4 65536 word

-- `shot` or `break`
abbrev pub what_alone : List ℕ → Option What
what_alone word =
    if bytes_eq word (codes "shot") then Some Shot
    else if bytes_eq word (codes "break") then Some Break
    else None

-- `down` or `up` of a key
abbrev pub what_with : List ℕ → List ℕ → Option What
what_with word key =
    if bytes_eq word (codes "down") then option_map Down (key_of key)
    else if bytes_eq word (codes "up") then option_map Up (key_of key)
    else None

abbrev pub level_with : Option ℕ → Option ℕ → Option What
level_with (Some channel) (Some level) = Some (Level channel level)
level_with (Some channel) None = None
level_with None level = None

-- `adc` with a channel and its level
abbrev pub what_of_level : List ℕ → List ℕ → List ℕ → Option What
what_of_level word channel level = if bytes_eq word (codes "adc") then level_with (channel_of channel) (level_of level) else None

-- the meaning of the words after the tick
abbrev pub what_of : List (List ℕ) → Option What
what_of [] = None
what_of (word ∷ []) = what_alone word
what_of (word ∷ key ∷ []) = what_with word key
what_of (word ∷ channel ∷ level ∷ []) = what_of_level word channel level
what_of (word ∷ channel ∷ level ∷ more ∷ words) = None

abbrev pub event_at : Option ℕ → Option What → Option Event
event_at (Some tick) (Some what) = Some (record { tick = record { 0 = tick }; what = what })
event_at (Some tick) None = None
event_at None what = None

abbrev pub event_of_words : List (List ℕ) → Option Event
event_of_words [] = None
event_of_words (first ∷ []) = None
event_of_words (first ∷ tick ∷ words) = if bytes_eq first (codes "at") then event_at (decimal_number 1073741824 tick) (what_of words) else None

-- The event of a line with its line feed, or none if the bytes are outside the form.
abbrev pub event_of : List ℕ → Option Event
event_of line = if ends_with nat_eq line (10 ∷ []) then event_of_words (words_of (take (length line - 1) line)) else None
