-- The arguments of a command, as a list of items: an option may be anywhere after the command word.
use Rattle.std.specs.Prelude.{ℕ, ◌≡◌, Bool, true, false, not, List, [], ◌∷◌, ◌++◌, codes}
use Rattle.std.specs.List.{list_all}
use Rattle.cmd_words.specs.Alone.{is_dashed, is_flag, takes_value}
use Rattle.cmd_words.specs.Words.{command}

-- One item: a positional argument, an option with its value, or a flag.
pub data Item : Type 0 where
  argument : List ℕ → Item
  option : List ℕ → List ℕ → Item
  flag : List ℕ → Item

-- The words are what the item says: an argument does not begin with `-`, and a value may be any
-- word.
abbrev pub is_item : Item → Bool
is_item (argument word) = not (is_dashed word)
is_item (option key value) = takes_value key
is_item (flag word) = is_flag word

abbrev pub is_argument : Item → Bool
is_argument (argument word) = true
is_argument (option key value) = false
is_argument (flag word) = false

abbrev pub item_words : Item → List (List ℕ)
item_words (argument word) = word ∷ []
item_words (option key value) = key ∷ value ∷ []
item_words (flag word) = word ∷ []

abbrev pub words_of : List Item → List (List ℕ)
words_of [] = []
words_of (i ∷ items) = item_words i ++ words_of items

-- After this command word, an option or a flag may move over any items. The words then spell the
-- same command, or none as before.
abbrev pub OptionMoves : List ℕ → Type 0
OptionMoves word =
    (i : Item) (front over : List Item) (back : List (List ℕ)) →
    is_argument i ≡ false →
    is_item i ≡ true →
    list_all is_item front ≡ true →
    list_all is_item over ≡ true →
    command (word ∷ (words_of front ++ (item_words i ++ (words_of over ++ back))))
    ≡ command (word ∷ (words_of front ++ (words_of over ++ (item_words i ++ back))))

-- This holds for each command that takes options.
pub record OptionsMove : Type 0 where
  pub replay : OptionMoves (codes "replay")
  pub solo : OptionMoves (codes "solo")
  pub run : OptionMoves (codes "run")
  pub resume : OptionMoves (codes "resume")
  pub follow : OptionMoves (codes "follow")
