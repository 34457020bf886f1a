-- What is stored as the list of events grows.
use Rattle.std.proofs.Common.{ℕ, ◌≡◌, ◌+◌, refl, sym, ◌∙◌, ap, arith, List, [], ◌∷◌, ◌++◌, length, length-append}
use Rattle.tube_chip.specs.Events.{Event}
use Rattle.tube_trace.specs.declared.Entry.{Entry}
use Rattle.tube_trace.specs.Entries.{accesses}
use Rattle.tube_party.specs.declared.log.Log.{Log}
use Rattle.tube_party.specs.Logs.{HasNoted, accesses-append}
use Rattle.tube_party.specs.Turn.{note_leaves, note_all_leaves}

-- ---- what was noted after what was stored before

note_leaves-append : (keep : ℕ) (xs ys list : List Entry) → note_all_leaves keep list (xs ++ ys) ≡ note_all_leaves keep (note_all_leaves keep list xs) ys
note_leaves-append keep [] ys list = refl
note_leaves-append keep (x ∷ xs) ys list = note_leaves-append keep xs ys (note_leaves keep list x)

pub noted_on : (keep : ℕ) (xs ys : List Event) (list : List Entry)
    → note_all_leaves keep (note_all_leaves keep list (accesses xs)) (accesses ys) ≡ note_all_leaves keep list (accesses (xs ++ ys))
noted_on keep xs ys list = sym (ap (note_all_leaves keep list) (accesses-append xs ys) ∙ note_leaves-append keep (accesses xs) (accesses ys) list)

pub counted_on : (xs ys : List Event) (n : ℕ) → n + length (accesses xs) + length (accesses ys) ≡ n + length (accesses (xs ++ ys))
counted_on xs ys n = let a = ap length (accesses-append xs ys) ∙ length-append (accesses xs) (accesses ys) in omega arith

-- what was noted of two lists in turn
pub noted_both : (xs ys : List Event) {a b c : Log} → HasNoted (accesses xs) a b → HasNoted (accesses ys) b c → HasNoted (accesses (xs ++ ys)) a c
noted_both xs ys {a} f g = record {
  list_is = g.list_is ∙ (λ i. note_all_leaves (f.keep_is i) (f.list_is i) (accesses ys)) ∙ noted_on a.keep xs ys a.list.items;
  count_is = g.count_is ∙ ap (λ z. z + length (accesses ys)) f.count_is ∙ counted_on xs ys a.count;
  keep_is = g.keep_is ∙ f.keep_is;
}
