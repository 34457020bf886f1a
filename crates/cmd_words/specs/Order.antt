-- The order of the options does not matter.
use Rattle.std.specs.Prelude.{◌≡◌, List, ℕ, ◌∷◌, ◌++◌}
use Rattle.cmd_words.specs.declared.keys.CommandKind.{CommandKind}
use Rattle.cmd_words.specs.Given.{Values, put_options}

-- Two neighbouring options may change places, and so options may come in any order.
abbrev pub AreOrderFree : Type 0
AreOrderFree =
    (command_kind : CommandKind) (front back : List (List ℕ × List ℕ)) (a b : List ℕ × List ℕ) (values : Values) →
    put_options command_kind (front ++ a ∷ b ∷ back) values ≡ put_options command_kind (front ++ b ∷ a ∷ back) values
