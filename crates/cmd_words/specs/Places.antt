-- Options may come in any place after the command word.
use Rattle.std.specs.Prelude.{◌≡◌, true, false, List, ℕ, ◌∷◌, ◌++◌, codes}
use Rattle.cmd_words.specs.Alone.{is_flag, takes_value}
use Rattle.cmd_words.specs.Given.{is_closed}
use Rattle.cmd_words.specs.Words.{command}

-- After this command word, an option with its value may move over any words in which each key has
-- its value. The words then spell the same command, or none as before.
abbrev pub MayMove : List ℕ → Type 0
MayMove word =
    (key value : List ℕ) (front over back : List (List ℕ)) → takes_value key ≡ true → is_closed false front ≡ true → is_closed false over ≡ true →
    command (word ∷ (front ++ key ∷ value ∷ (over ++ back))) ≡ command (word ∷ (front ++ (over ++ key ∷ value ∷ back)))

-- A flag, which is one word, may move in the same manner.
abbrev pub FlagMayMove : List ℕ → Type 0
FlagMayMove word =
    (flag : List ℕ) (front over back : List (List ℕ)) → is_flag flag ≡ true → is_closed false front ≡ true → is_closed false over ≡ true →
    command (word ∷ (front ++ flag ∷ (over ++ back))) ≡ command (word ∷ (front ++ (over ++ flag ∷ back)))

-- Both hold for each command that takes options.
abbrev pub StandAnywhere : Type 0
StandAnywhere =
    (MayMove (codes "replay") × MayMove (codes "solo") × MayMove (codes "run") × MayMove (codes "resume") × MayMove (codes "follow"))
    × (FlagMayMove (codes "replay") × FlagMayMove (codes "solo") × FlagMayMove (codes "run") × FlagMayMove (codes "resume") × FlagMayMove (codes "follow"))
