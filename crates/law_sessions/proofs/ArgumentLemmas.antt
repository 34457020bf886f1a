-- An option may move over any items.
use Rattle.std.proofs.Common.{◌≡◌, ◌∙◌, sym, refl, ap, ℕ, Bool, true, false, not, ◌&&◌, List, [], ◌∷◌, ◌++◌, codes}
use Rattle.std.specs.List.{list_all}
use Rattle.cmd_words.specs.Alone.{is_dashed, is_flag, takes_value}
use Rattle.cmd_words.specs.Given.{is_closed}
use Rattle.cmd_words.specs.Words.{command}
use Rattle.cmd_words.specs.Places.{MayMove, FlagMayMove, StandAnywhere}
use Rattle.law_sessions.specs.Arguments.{Item, argument, option, flag, is_item, is_argument, item_words, words_of, OptionMoves, OptionsMove}

both : (a b : Bool) → (a && b) ≡ true → (a ≡ true) × (b ≡ true)
both true true is = (refl, refl)
both true false is = cc
both false b is = cc

no_key : (is_flag dashed : Bool) → not dashed ≡ true → (not is_flag && dashed) ≡ false
no_key true false is = refl
no_key false false is = refl
no_key is_flag true is = cc

flag_no_key : (is_flag dashed : Bool) → is_flag ≡ true → (not is_flag && dashed) ≡ false
flag_no_key true dashed is = refl
flag_no_key false dashed is = cc

-- each key among the words of items has its value
closed_items : (items : List Item) → list_all is_item items ≡ true → is_closed false (words_of items) ≡ true
closed_items [] are = refl
closed_items (argument word ∷ items) are =
    let parts = both (not (is_dashed word)) (list_all is_item items) are in
    ap (λ b. is_closed b (words_of items)) (no_key (is_flag word) (is_dashed word) parts.0) ∙ closed_items items parts.1
closed_items (option key value ∷ items) are =
    let parts = both (takes_value key) (list_all is_item items) are in
    ap (λ b. is_closed b (value ∷ words_of items)) parts.0 ∙ closed_items items parts.1
closed_items (flag word ∷ items) are =
    let parts = both (is_flag word) (list_all is_item items) are in
    ap (λ b. is_closed b (words_of items)) (flag_no_key (is_flag word) (is_dashed word) parts.0) ∙ closed_items items parts.1

moves : (word : List ℕ) → MayMove word → FlagMayMove word → OptionMoves word
moves word valued single (argument w) front over back is_option is before_it after_it = cc
moves word valued single (option key value) front over back is_option is before_it after_it =
    valued key value (words_of front) (words_of over) back is (closed_items front before_it) (closed_items over after_it)
moves word valued single (flag w) front over back is_option is before_it after_it =
    single w (words_of front) (words_of over) back is (closed_items front before_it) (closed_items over after_it)

pub options_move : StandAnywhere → OptionsMove
options_move (valued, single) = record {
  replay = moves (codes "replay") valued.0 single.0;
  solo = moves (codes "solo") valued.1 single.1;
  run = moves (codes "run") valued.2 single.2;
  resume = moves (codes "resume") valued.3 single.3;
  follow = moves (codes "follow") valued.4 single.4;
}
