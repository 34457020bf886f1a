-- A log of a side's accesses: the first of them, and the number of all.
use Rattle.std.specs.Prelude.{ℕ, ◌≡◌, ◌+◌, ◌≤◌, List, [], ◌∷◌, ◌++◌, length, take, refl}
use Rattle.std.proofs.Common.{sym, ◌∙◌, ap, arith, inl, inr, length-append, append_assoc}
use Rattle.std.proofs.lemmas.List.{append-nil, take_all, take-append-le, length-take-le}
use Rattle.std.proofs.lemmas.Bool.{lt-ltb, le-ltb, cases_lt}
use Rattle.beeb_bits.specs.declared.Side.{Side}
use Rattle.tube_chip.specs.Act.{Query}
use Rattle.tube_chip.specs.Events.{Event}
use Rattle.tube_chip.specs.declared.Answer.{Answer}
use Rattle.tube_trace.specs.declared.Entry.{Entry}
use Rattle.tube_trace.specs.Entries.{accesses, entry_of}
use Rattle.tube_party.specs.declared.log.Log.{Log}
use Rattle.tube_party.specs.Turn.{note_leaves, note_all_leaves}

-- nothing was noted yet, and `keep` accesses are to be stored
pub record IsFresh (keep : ℕ) (log : Log) : Type 0 where
  pub list : log.list.items ≡ []
  pub count : log.count ≡ 0
  pub keep_is : log.keep ≡ keep

-- these further accesses were noted
pub record HasNoted (entries : List Entry) (old new : Log) : Type 0 where
  pub list_is : new.list.items ≡ note_all_leaves old.keep old.list.items entries
  pub count_is : new.count ≡ old.count + length entries
  pub keep_is : new.keep ≡ old.keep

-- ---- Laws that loops over logs use

-- an unchanged log
pub none_noted : (log : Log) → HasNoted [] log log
none_noted log = record { list_is = refl; count_is = omega arith; keep_is = refl }

-- the accesses of two lists, one after the other
pub accesses-append : (xs ys : List Event) → accesses (xs ++ ys) ≡ accesses xs ++ accesses ys
accesses-append [] ys = refl
accesses-append (x ∷ xs) ys =
    ap (λ z. entry_of x.tick x.side x.query x.answer ++ z) (accesses-append xs ys)
    ∙ sym (append_assoc (entry_of x.tick x.side x.query x.answer) (accesses xs) (accesses ys))

noted_take : (keep : ℕ) (xs : List Entry) (x : Entry) → note_leaves keep (take keep xs) x ≡ take keep (xs ++ x ∷ [])
noted_take keep xs x = elim (cases_lt (length xs) keep) [
  | inl lt ↦
      let few : length xs ≤ keep = omega arith in
      let all : take keep xs ≡ xs = take_all keep xs few in
      let more : length (xs ++ x ∷ []) ≤ keep = omega (arith, length-append xs (x ∷ [])) in
      ap (λ (z : List Entry). note_leaves keep z x) all
      ∙ (rw (lt-ltb (length xs) keep lt) refl)
      ∙ sym (take_all keep (xs ++ x ∷ []) more)
  | inr ge ↦
      let full : length (take keep xs) ≡ keep = length-take-le keep xs ge in
      let over : keep ≤ length (take keep xs) = omega arith in
      (rw (le-ltb (length (take keep xs)) keep over) refl) ∙ sym (take-append-le keep xs (x ∷ []) ge)
]

pub noted_all_take : (keep : ℕ) (xs ys : List Entry) → note_all_leaves keep (take keep xs) ys ≡ take keep (xs ++ ys)
noted_all_take keep xs [] = ap (take keep) (sym (append-nil xs))
noted_all_take keep xs (y ∷ ys) =
    ap (λ z. note_all_leaves keep z ys) (noted_take keep xs y)
    ∙ noted_all_take keep (xs ++ y ∷ []) ys
    ∙ ap (take keep) (append_assoc xs (y ∷ []) ys)

-- an event is one access at most
pub at_most_one : (t : ℕ) (side : Side) (q : Query) (a : Answer) → length (entry_of t side q a) ≤ 1
at_most_one t side q a = grind arith
