-- An option may move over words in which each key has its value.
use Rattle.std.proofs.Common.{◌≡◌, ◌∙◌, refl, ℕ, List, [], ◌∷◌, ◌++◌, Option, Some, None, Bool, true, false, codes, append_assoc, arith}
use Rattle.std.specs.Prelude.{is_some}
use Rattle.cmd_words.specs.declared.keys.CommandKind.{CommandKind}
use Rattle.cmd_words.specs.Alone.{is_flag, takes_value, alone}
use Rattle.cmd_words.specs.Given.{Values, no_values, options, is_closed, put_options, closed_options, options_of}
use Rattle.cmd_words.specs.Words.{command, sided_by, sided_with, both_by, both_with, resume_by, resume_with}
use Rattle.cmd_words.specs.Places.{MayMove, FlagMayMove, StandAnywhere}
use Rattle.cmd_words.proofs.OrderLemmas.{order_free}

-- ---- words in two parts

alone_parts : (skip : Bool) (front rest : List (List ℕ)) → is_closed skip front ≡ true → alone skip (front ++ rest) ≡ alone skip front ++ alone false rest
alone_parts true [] rest closed = cc
alone_parts false [] rest closed = refl
alone_parts true (v ∷ front) rest closed = alone_parts false front rest closed
alone_parts false (w ∷ front) rest closed = grind (arith, alone_parts true front rest, alone_parts false front rest)

closed_parts : (waits : Bool) (front rest : List (List ℕ)) → is_closed waits front ≡ true → is_closed waits (front ++ rest) ≡ is_closed false rest
closed_parts true [] rest closed = cc
closed_parts false [] rest closed = refl
closed_parts true (v ∷ front) rest closed = closed_parts false front rest closed
closed_parts false (w ∷ front) rest closed = closed_parts (takes_value w) front rest closed

options_parts : (key : Option (List ℕ)) (front rest : List (List ℕ)) → is_closed (is_some key) front ≡ true → options key (front ++ rest) ≡ options key front ++ options None rest
options_parts (Some key) [] rest closed = cc
options_parts None [] rest closed = refl
options_parts (Some key) (v ∷ front) rest closed = rw (options_parts None front rest closed)
options_parts None (w ∷ front) rest closed = grind (arith, options_parts (Some w) front rest, options_parts None front rest)

-- ---- an option before other words

-- words that are one option
record IsOption (words : List (List ℕ)) (o : List ℕ × List ℕ) : Type 0 where
  alone_in : (rest : List (List ℕ)) → alone false (words ++ rest) ≡ alone false rest
  closed_in : (rest : List (List ℕ)) → is_closed false (words ++ rest) ≡ is_closed false rest
  options_in : (rest : List (List ℕ)) → options None (words ++ rest) ≡ o ∷ options None rest

key_option : (key value : List ℕ) → takes_value key ≡ true → IsOption (key ∷ value ∷ []) (key, value)
key_option key value valued = record { alone_in = λ rest. rw valued; closed_in = λ rest. rw (valued, is_closed); options_in = λ rest. rw valued }

flag_option : (flag : List ℕ) → is_flag flag ≡ true → IsOption (flag ∷ []) (flag, flag)
flag_option flag is = record { alone_in = λ rest. rw is; closed_in = λ rest. rw (is, is_closed); options_in = λ rest. rw is }

-- ---- one option moves over others

put_moved : (command_kind : CommandKind) (o : List ℕ × List ℕ) (front over back : List (List ℕ × List ℕ)) (values : Values) →
    put_options command_kind (front ++ o ∷ (over ++ back)) values ≡ put_options command_kind (front ++ (over ++ o ∷ back)) values
put_moved command_kind o front [] back values = refl
put_moved command_kind o front (p ∷ over) back values =
    order_free command_kind front (over ++ back) o p values ∙ simp append_assoc at (put_moved command_kind o (front ++ p ∷ []) over back values)

-- ---- whole lists of words

-- these words are equal for a command that takes options
record AreLike (before after : List (List ℕ)) : Type 0 where
  alone_same : alone false before ≡ alone false after
  options_same : (command_kind : CommandKind) → options_of command_kind before ≡ options_of command_kind after

-- an option moves over words in which each key has its value
are_like : (words : List (List ℕ)) (o : List ℕ × List ℕ) (front over back : List (List ℕ)) → IsOption words o → is_closed false front ≡ true →
    is_closed false over ≡ true → AreLike (front ++ (words ++ (over ++ back))) (front ++ (over ++ (words ++ back)))
unfolding options_of closed_options
are_like words o front over back option one closed = record {
  alone_same = simp (alone_parts, option.alone_in);
  options_same = λ command_kind. simp (closed_parts, options_parts, option.closed_in, option.options_in)
      (rw (put_moved command_kind o (options None front) (options None over) (options None back) no_values));
}

-- a command with the same result for such words
abbrev IsMoving : List ℕ → Type 0
IsMoving word = (before after : List (List ℕ)) → AreLike before after → command (word ∷ before) ≡ command (word ∷ after)

may_move : (word : List ℕ) → IsMoving word → MayMove word × FlagMayMove word
may_move word moving = (
  λ key value front over back valued one closed. moving _ _ (are_like (key ∷ value ∷ []) (key, value) front over back (key_option key value valued) one closed),
  λ flag front over back is one closed. moving _ _ (are_like (flag ∷ []) (flag, flag) front over back (flag_option flag is) one closed),
)

pub stand_anywhere : StandAnywhere
unfolding command
stand_anywhere =
    let replay = may_move (codes "replay") (λ before after like. simp (like.alone_same, sided_by, sided_with, like.options_same)) in
    let solo = may_move (codes "solo") (λ before after like. simp (like.alone_same, both_by, both_with, like.options_same)) in
    let run = may_move (codes "run") (λ before after like. simp (like.alone_same, both_by, both_with, like.options_same)) in
    let resume = may_move (codes "resume") (λ before after like. simp (like.alone_same, resume_by, resume_with, like.options_same)) in
    let follow = may_move (codes "follow") (λ before after like. simp (like.alone_same, sided_by, sided_with, like.options_same)) in
    ((replay.0, solo.0, run.0, resume.0, follow.0), (replay.1, solo.1, run.1, resume.1, follow.1))
