-- Options: keys with their values, and flags, in any place among the positional words.
use Rattle.std.specs.Prelude.{ℕ, ◌&&◌, Bool, true, false, not, List, [], ◌∷◌, map, Option, Some, None, is_none, is_some, option_and_then, slice_index_or, slice_set, unwrap_or, if◌then◌else◌, codes}
use Rattle.std.specs.Str.{bytes_eq}
use Rattle.beeb_bits.specs.declared.clock.Clock.{Clock}
use Rattle.beeb_bits.specs.declared.clock.Clock.TheVariants.{Three, Four}
use Rattle.cmd_words.specs.declared.keys.CommandKind.{CommandKind}
use Rattle.cmd_words.specs.declared.keys.CommandKind.TheVariants.{ReplayHost, ReplayPara, Solo, Run, Resume, FollowHost, FollowPara}
use Rattle.cmd_words.specs.Alone.{is_flag, takes_value}
use Rattle.cmd_words.specs.Keys.{Key, keys, place_of, fits, address_of}
use Rattle.digits.specs.Decimal.{decimal_number}

-- the options among the words, in order; key is the key before the first word, if there is one; a
-- flag is its own value
abbrev pub options : Option (List ℕ) → List (List ℕ) → List (List ℕ × List ℕ)
options key [] = []
options None (w ∷ ws) = if takes_value w then options (Some w) ws else if is_flag w then (w, w) ∷ options None ws else options None ws
options (Some key) (v ∷ ws) = (key, v) ∷ options None ws

-- each key has its value; if waits is true, the first word is the value of a key before it
abbrev pub is_closed : Bool → List (List ℕ) → Bool
is_closed waits [] = not waits
is_closed false (w ∷ ws) = is_closed (takes_value w) ws
is_closed true (v ∷ ws) = is_closed false ws

-- the values of the options, by the places of their keys
abbrev pub Values : Type 0
Values = List (Option (List ℕ))

-- no option: None for each key
unfoldable pub no_values : Values
no_values = map (λ (k : Key). None) keys

abbrev pub value_at : Values → ℕ → Option (List ℕ)
value_at values place = slice_index_or values place None

-- the value of a key, by its word
abbrev pub value_of : Values → List ℕ → Option (List ℕ)
value_of values word = option_and_then (value_at values) (place_of word)

-- a value put in its place, if that is empty and the value fits
abbrev pub put_at : CommandKind → List ℕ → Values → ℕ → Option Values
put_at command_kind value values place =
    if fits command_kind place value && is_none (value_at values place) then Some (slice_set values place (Some value)) else None

-- one more option, its value put in the place of its key
abbrev pub put_option : CommandKind → List ℕ × List ℕ → Values → Option Values
put_option command_kind o values = option_and_then (put_at command_kind o.1 values) (place_of o.0)

-- the values after the options were put in their places
abbrev pub put_options : CommandKind → List (List ℕ × List ℕ) → Values → Option Values
put_options command_kind [] values = Some values
put_options command_kind (o ∷ os) values = option_and_then (put_options command_kind os) (put_option command_kind o values)

-- the number of accesses to keep, by the value of its key
abbrev pub keep_in : Option (List ℕ) → ℕ
keep_in None = 1048576
keep_in (Some word) = unwrap_or (decimal_number 4194304 word) 1048576

-- the number of accesses to keep
abbrev pub keep_of : Values → ℕ
keep_of values = keep_in (value_of values (codes "--keep"))

-- the number of plugged devices, by the value of its key
abbrev pub plugs_in : Option (List ℕ) → ℕ
plugs_in None = 0
plugs_in (Some word) = unwrap_or (decimal_number 8 word) 0

-- the number of plugged devices, at most 8
abbrev pub plugs_of : Values → ℕ
plugs_of values = plugs_in (value_of values (codes "--plugs"))

-- the clock of the machines, by the value of its key
abbrev pub clock_in : Option (List ℕ) → Clock
clock_in None = Three
clock_in (Some word) = if bytes_eq word (codes "4") then Four else Three

-- the clock of the machines: that of a second processor at 3 MHz if no speed is given
abbrev pub clock_of : Values → Clock
clock_of values = clock_in (value_of values (codes "--speed"))

-- the name of the sound file, if given
abbrev pub wav_of : Values → Option (List ℕ)
wav_of values = value_of values (codes "--wav")

-- the name of the session file to save, if given
abbrev pub save_of : Values → Option (List ℕ)
save_of values = value_of values (codes "--save")

-- the address whose instructions are listed, if given
abbrev pub at_of : Values → Option ℕ
at_of values = option_and_then address_of (value_of values (codes "--at"))

-- the address to watch, if given: only instructions before which its byte changed are listed
abbrev pub watch_of : Values → Option ℕ
watch_of values = option_and_then address_of (value_of values (codes "--watch"))

-- the first tick of the listing, by the value of its key
abbrev pub from_in : Option (List ℕ) → ℕ
from_in None = 0
from_in (Some word) = unwrap_or (decimal_number 1073741824 word) 0

-- the first tick of the listing: instructions that start earlier are not listed
abbrev pub from_of : Values → ℕ
from_of values = from_in (value_of values (codes "--from"))

-- true if the host has a Tube: `--no-tube` is not given
abbrev pub tube_of : Values → Bool
tube_of values = is_none (value_of values (codes "--no-tube"))

-- true if the starts of each address are counted: `--counts` is given
abbrev pub counts_of : Values → Bool
counts_of values = is_some (value_of values (codes "--counts"))

abbrev pub has_os : Values → Bool
has_os values = is_some (value_of values (codes "--os"))

abbrev pub has_tube : Values → Bool
has_tube values = is_some (value_of values (codes "--tube"))

-- The machines of a command have their image: the host `--os`, the second processor `--tube`. Those
-- of `resume` have it in the session file.
abbrev pub has_images : CommandKind → Values → Bool
has_images ReplayHost values = has_os values
has_images ReplayPara values = has_tube values
has_images Solo values = has_os values && has_tube values
has_images Run values = has_os values && has_tube values
has_images Resume values = true
has_images FollowHost values = has_os values
has_images FollowPara values = has_tube values

-- true if both an address and a file of addresses are given
abbrev pub has_both : Values → Bool
has_both values = is_some (value_of values (codes "--at")) && is_some (value_of values (codes "--points"))

abbrev pub if_images : CommandKind → Values → Option Values
if_images command_kind values = if has_images command_kind values && not (has_both values) then Some values else None

-- the options among the words, if each key has its value
unfoldable pub closed_options : CommandKind → List (List ℕ) → Option Values
closed_options command_kind words = if is_closed false words then put_options command_kind (options None words) no_values else None

-- the options among the words, if the command accepts them
unfoldable pub options_of : CommandKind → List (List ℕ) → Option Values
options_of command_kind words = option_and_then (if_images command_kind) (closed_options command_kind words)
