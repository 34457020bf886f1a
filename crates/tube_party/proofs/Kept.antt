-- What is stored as the list of events grows.
use Rattle.std.proofs.Common.{ℕ, ◌≡◌, ◌+◌, refl, sym, ◌∙◌, ap, arith, List, [], ◌∷◌, ◌++◌, length, take, if◌then◌else◌, length-append}
use Rattle.std.proofs.lemmas.List.{append-nil}
use Rattle.tube_chip.specs.Act.{Query}
use Rattle.tube_chip.specs.Events.{Event, of_side, is_side}
use Rattle.tube_chip.specs.declared.Answer.{Answer}
use Rattle.tube_trace.specs.declared.Entry.{Entry}
use Rattle.beeb_bits.specs.declared.Side.{Side}
use Rattle.beeb_bits.specs.declared.Side.TheVariants.{Host, Para}
use Rattle.tube_trace.specs.Entries.{accesses, entry_of}
use Rattle.tube_party.specs.OneThread.{IsKept}
use Rattle.tube_party.specs.Logs.{accesses-append, noted_all_take}
use Rattle.tube_party.specs.Turn.{note_all_leaves}
use Rattle.tube_party.proofs.Runs.{event}

by_side : (side with_side : Side) (x : Event) (xs ys zs : List Event) → xs ≡ ys ++ zs
    → (if is_side side with_side then x ∷ xs else xs) ≡ (if is_side side with_side then x ∷ ys else ys) ++ zs
by_side side with_side x xs ys zs e = grind arith

pub of_side-append : (side : Side) (xs ys : List Event) → of_side side (xs ++ ys) ≡ of_side side xs ++ of_side side ys
of_side-append side [] ys = refl
of_side-append side (x ∷ xs) ys = by_side side x.side x (of_side side (xs ++ ys)) (of_side side xs) (of_side side ys) (of_side-append side xs ys)

-- the accesses of a side grow by those of the new events
pub grows : (side : Side) (events more : List Event) → accesses (of_side side (events ++ more)) ≡ accesses (of_side side events) ++ accesses (of_side side more)
grows side events more = ap accesses (of_side-append side events more) ∙ accesses-append (of_side side events) (of_side side more)

pub kept_more : {side : Side} {events : List Event} (more : List Event) {keep : ℕ} {list : List Entry} {count : ℕ} → IsKept side events keep list count
    → IsKept side (events ++ more) keep (note_all_leaves keep list (accesses (of_side side more))) (count + length (accesses (of_side side more)))
kept_more {side} {events} more {keep} k =
    record {
      list_is =
          ap (λ z. note_all_leaves keep z (accesses (of_side side more))) k.list_is
          ∙ noted_all_take keep (accesses (of_side side events)) (accesses (of_side side more))
          ∙ ap (take keep) (sym (grows side events more));
      count_is =
          ap (λ z. z + length (accesses (of_side side more))) k.count_is
          ∙ sym (length-append (accesses (of_side side events)) (accesses (of_side side more)))
          ∙ ap length (sym (grows side events more));
    }

-- by one event of the side
pub kept_own : (side : Side) {events : List Event} {keep : ℕ} {list : List Entry} {count : ℕ} (t : ℕ) (q : Query) (a : Answer)
    → IsKept side events keep list count
    → IsKept side (events ++ event t side q a ∷ []) keep (note_all_leaves keep list (entry_of t side q a)) (count + length (entry_of t side q a))
kept_own Host t q a k = rw append-nil at (kept_more (event t Host q a ∷ []) k)
kept_own Para t q a k = rw append-nil at (kept_more (event t Para q a ∷ []) k)

-- by events that are no accesses of the side
pub kept_beside : {side : Side} {events : List Event} (more : List Event) {keep : ℕ} {list : List Entry} {count : ℕ} → accesses (of_side side more) ≡ []
    → IsKept side events keep list count → IsKept side (events ++ more) keep list count
kept_beside more {count = count} none k =
    let same : count + 0 ≡ count = omega arith in rw same at (rw none at (kept_more more k))
