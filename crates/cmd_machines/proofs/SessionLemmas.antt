-- The parts of a session.
use Rattle.std.proofs.Common.{◌≡◌, refl, ℕ, List, [], ◌∷◌, ◌++◌, length, append-nil}
use Rattle.cmd_words.specs.declared.keys.InputKind.{InputKind}
use Rattle.cmd_machines.specs.Sessions.{there}

-- no further part
there_none : (slots : List InputKind) → there slots [] ≡ []
there_none [] = refl
there_none (slot ∷ slots) = refl

pub there_end : (list : List (InputKind × List ℕ)) (slots : List InputKind) → list ++ there slots [] ≡ list
there_end list slots = rw (there_none slots) (append-nil list)

pub all_gone : {A : Type 0} (xs : List A) → length xs ≡ 0 → xs ≡ []
all_gone [] is = refl
all_gone (x ∷ xs) is = cc
