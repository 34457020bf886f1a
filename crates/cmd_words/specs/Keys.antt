-- The keys of the options.
use Rattle.std.specs.Prelude.{ℕ, ◌+◌, ◌&&◌, ◌==◌, nat_le, Bool, true, false, List, [], ◌∷◌, length, Option, Some, None, option_map, slice_index_or, if◌then◌else◌, codes}
use Rattle.std.specs.List.{list_all}
use Rattle.std.specs.Str.{bytes_eq}
use Rattle.cmd_words.specs.declared.keys.InputKind.{InputKind}
use Rattle.cmd_words.specs.declared.keys.InputKind.TheVariants.{Os, Tube, Rom, Font, Disc, Keys, Points}
use Rattle.cmd_words.specs.declared.keys.CommandKind.{CommandKind}
use Rattle.cmd_words.specs.declared.keys.CommandKind.TheVariants.{ReplayHost, ReplayPara, Solo, Run, Resume, FollowHost, FollowPara}
use Rattle.cmd_words.specs.declared.keys.CommandSet.{CommandSet}
use Rattle.cmd_words.specs.Alone.{is_name}
use Rattle.digits.specs.Decimal.{decimal_number}
use Rattle.digits.specs.Hexadecimal.{hex_number, is_hex}

-- the kind of an option's value
pub data Value : Type 0 where
  -- the name of a file that is read
  file : (slot : InputKind) → Value
  -- the name of an output
  output : Value
  -- a decimal number from least to most
  numeric : (least most : ℕ) → Value
  -- one of the given words
  one_of : (words : List (List ℕ)) → Value
  -- four upper-case hexadecimal digits
  four_digits : Value

-- a key: its word, the commands that take it, and the kind of its value
pub record Key : Type 0 where
  pub word : List ℕ
  pub command_set : CommandSet
  pub value : Value

abbrev pub key : List ℕ → CommandSet → Value → Key
key word command_set value = record { word = word; command_set = command_set; value = value }

-- the commands that make a host from the options
abbrev pub hosts : CommandSet
hosts = record { replay_host = true; replay_para = false; solo = true; run = true; resume = false; follow_host = true; follow_para = false }

-- the commands that make a second processor from the options
abbrev pub paras : CommandSet
paras = record { replay_host = false; replay_para = true; solo = true; run = true; resume = false; follow_host = false; follow_para = true }

-- the commands that make a host or a second processor from the options
abbrev pub machines : CommandSet
machines = record { replay_host = true; replay_para = true; solo = true; run = true; resume = false; follow_host = true; follow_para = true }

-- the commands that run both machines, from the options or from a session file
abbrev pub runs : CommandSet
runs = record { replay_host = false; replay_para = false; solo = true; run = true; resume = true; follow_host = false; follow_para = false }

-- the commands with a host in their final state
abbrev pub heard : CommandSet
heard = record { replay_host = true; replay_para = false; solo = true; run = true; resume = true; follow_host = false; follow_para = false }

-- the commands that list instructions
abbrev pub lists : CommandSet
lists = record { replay_host = false; replay_para = false; solo = false; run = false; resume = false; follow_host = true; follow_para = true }

-- the commands that run only a host
abbrev pub host_alone : CommandSet
host_alone = record { replay_host = true; replay_para = false; solo = false; run = false; resume = false; follow_host = true; follow_para = false }

-- The keys. The keys of files are in the order of reading.
unfoldable pub keys : List Key
keys =
    key (codes "--os") hosts (file Os)
    ∷ key (codes "--tube") paras (file Tube)
    ∷ key (codes "--rom0") hosts (file (Rom 0))
    ∷ key (codes "--rom1") hosts (file (Rom 1))
    ∷ key (codes "--rom2") hosts (file (Rom 2))
    ∷ key (codes "--rom3") hosts (file (Rom 3))
    ∷ key (codes "--rom4") hosts (file (Rom 4))
    ∷ key (codes "--rom5") hosts (file (Rom 5))
    ∷ key (codes "--rom6") hosts (file (Rom 6))
    ∷ key (codes "--rom7") hosts (file (Rom 7))
    ∷ key (codes "--rom8") hosts (file (Rom 8))
    ∷ key (codes "--rom9") hosts (file (Rom 9))
    ∷ key (codes "--rom10") hosts (file (Rom 10))
    ∷ key (codes "--rom11") hosts (file (Rom 11))
    ∷ key (codes "--rom12") hosts (file (Rom 12))
    ∷ key (codes "--rom13") hosts (file (Rom 13))
    ∷ key (codes "--rom14") hosts (file (Rom 14))
    ∷ key (codes "--rom15") hosts (file (Rom 15))
    ∷ key (codes "--font") hosts (file Font)
    ∷ key (codes "--disc0") hosts (file (Disc 0))
    ∷ key (codes "--disc1") hosts (file (Disc 1))
    ∷ key (codes "--keys") hosts (file Keys)
    ∷ key (codes "--points") lists (file Points)
    ∷ key (codes "--plugs") hosts (numeric 0 8)
    ∷ key (codes "--keep") runs (numeric 0 4194304)
    ∷ key (codes "--speed") machines (one_of (codes "3" ∷ codes "4" ∷ []))
    ∷ key (codes "--wav") heard output
    ∷ key (codes "--save") runs output
    ∷ key (codes "--at") lists four_digits
    ∷ key (codes "--watch") lists four_digits
    ∷ key (codes "--from") lists (numeric 0 1073741824)
    ∷ key (codes "--no-tube") host_alone (one_of (codes "--no-tube" ∷ []))
    ∷ key (codes "--counts") lists (one_of (codes "--counts" ∷ []))
    ∷ []

-- no commands
abbrev pub no_command_kinds : CommandSet
no_command_kinds = record { replay_host = false; replay_para = false; solo = false; run = false; resume = false; follow_host = false; follow_para = false }

-- the entry past the last key
abbrev pub no_key : Key
no_key = key [] no_command_kinds output

abbrev pub key_at : ℕ → Key
key_at place = slice_index_or keys place no_key

-- the place of a word in a list of keys
abbrev pub place_in : List Key → List ℕ → Option ℕ
place_in [] word = None
place_in (k ∷ ks) word = if bytes_eq k.word word then Some 0 else option_map (λ place. place + 1) (place_in ks word)

-- the place of a word among all keys
abbrev pub place_of : List ℕ → Option ℕ
place_of word = place_in keys word

-- true if the command is among those that take an option
abbrev pub takes : CommandKind → CommandSet → Bool
takes ReplayHost command_set = command_set.replay_host
takes ReplayPara command_set = command_set.replay_para
takes Solo command_set = command_set.solo
takes Run command_set = command_set.run
takes Resume command_set = command_set.resume
takes FollowHost command_set = command_set.follow_host
takes FollowPara command_set = command_set.follow_para

-- true if a number was read and is at least least
abbrev pub is_from : ℕ → Option ℕ → Bool
is_from least None = false
is_from least (Some n) = nat_le least n

-- true if the word is in the list
abbrev pub is_among : List (List ℕ) → List ℕ → Bool
is_among [] word = false
is_among (w ∷ ws) word = if bytes_eq w word then true else is_among ws word

abbrev pub is_four_digits : List ℕ → Bool
is_four_digits word = length word == 4 && list_all is_hex word

-- the number of four upper-case hexadecimal digits
abbrev pub address_of : List ℕ → Option ℕ
address_of word = if is_four_digits word then Some (hex_number word) else None

-- true if the word is a value of the given kind
abbrev pub is_value : Value → List ℕ → Bool
is_value (file slot) word = is_name word
is_value output word = is_name word
is_value (numeric least most) word = is_from least (decimal_number most word)
is_value (one_of words) word = is_among words word
is_value four_digits word = is_four_digits word

-- true if the command takes the key at a place, and with this value
abbrev pub fits : CommandKind → ℕ → List ℕ → Bool
fits command_kind place value = takes command_kind (key_at place).command_set && is_value (key_at place).value value
