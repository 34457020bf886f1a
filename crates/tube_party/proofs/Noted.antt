-- What is stored of the accesses that were made before a run continues.
use Rattle.std.proofs.Common.{ℕ, ◌≡◌, ◌+◌, ◌<◌, ◌≤◌, sym, ◌∙◌, ap, arith, Bool, true, false, if◌then◌else◌, List, [], ◌∷◌, ◌++◌, length, take, get_or}
use Rattle.std.proofs.lemmas.List.{take_more, map-append}
use Rattle.beeb_bits.specs.declared.Side.{Side}
use Rattle.tube_chip.specs.State.{State, power_on}
use Rattle.tube_chip.specs.Act.{access, act}
use Rattle.tube_chip.specs.Events.{Event, is_side, after}
use Rattle.tube_trace.specs.declared.Entry.{Entry}
use Rattle.tube_trace.specs.Entries.{accesses, event_of, events_of}
use Rattle.tube_party.specs.declared.log.Log.{Log}
use Rattle.tube_party.specs.CodeAtWork.{own_of}
use Rattle.tube_party.specs.Logs.{HasNoted}
use Rattle.tube_party.specs.OneThread.{IsKept}
use Rattle.tube_party.specs.Turn.{note_all_leaves}
use Rattle.tube_party.proofs.Kept.{kept_more}
use Rattle.tube_party.proofs.Listed.{after-push}

-- one more entry of a list
pub events_more : (xs : List Entry) (i : ℕ) (d : Entry) → i < length xs → events_of (take (i + 1) xs) ≡ events_of (take i xs) ++ event_of (get_or xs i d) ∷ []
events_more xs i d lt = ap events_of (take_more xs i d lt) ∙ map-append event_of (take i xs) (get_or xs i d ∷ [])

pub chip_more : (xs : List Entry) (i : ℕ) (d : Entry) (c c2 : State) → i < length xs → c ≡ after (events_of (take i xs)) →
    c2 ≡ (act c (get_or xs i d).side (access (get_or xs i d).op)).0 → c2 ≡ after (events_of (take (i + 1) xs))
chip_more xs i d c c2 lt so_far is =
    is
    ∙ ap (λ x. (act x (get_or xs i d).side (access (get_or xs i d).op)).0) so_far
    ∙ sym (ap after (events_more xs i d lt) ∙ after-push power_on (events_of (take i xs)) (event_of (get_or xs i d)))

pub noted_more : (side : Side) (xs : List Entry) (i keep : ℕ) (d : Entry) (log log2 : Log) → i < length xs →
    IsKept side (events_of (take i xs)) keep log.list.items log.count → log.keep ≡ keep → HasNoted (own_of side (get_or xs i d)) log log2 →
    IsKept side (events_of (take (i + 1) xs)) keep log2.list.items log2.count
noted_more side xs i keep d log log2 lt kept same noted =
    let e : Entry = get_or xs i d in
    let more : IsKept side (events_of (take i xs) ++ event_of e ∷ []) keep (note_all_leaves keep log.list.items (own_of side e)) (log.count + length (own_of side e)) =
    kept_more (event_of e ∷ []) kept in
    let all : IsKept side (events_of (take (i + 1) xs)) keep (note_all_leaves keep log.list.items (own_of side e)) (log.count + length (own_of side e)) =
    rw (events_more xs i d lt) more in
    record {
      list_is = noted.list_is ∙ ap (λ k. note_all_leaves k log.list.items (own_of side e)) same ∙ all.list_is;
      count_is = noted.count_is ∙ all.count_is;
    }

most_by : (e : Entry) (b : Bool) → length (accesses (if b then event_of e ∷ [] else [])) ≤ 1
most_by e true = omega arith
most_by e false = omega arith

-- it is one entry at most
own_most : (side : Side) (e : Entry) → length (own_of side e) ≤ 1
own_most side e = most_by e (is_side side e.side)

-- with the number to be stored by another name
pub kept_of : {side : Side} {l : List Event} {keep keep2 count : ℕ} {list : List Entry} → keep ≡ keep2 → IsKept side l keep list count → IsKept side l keep2 list count
kept_of {side = side} {l = l} {count = count} {list = list} e k = rw e at k

pub few_more : (side : Side) (e : Entry) (log log2 : Log) (i : ℕ) → log.count ≤ i → HasNoted (own_of side e) log log2 → log2.count ≤ i + 1
few_more side e log log2 i few noted = omega (arith, few, noted.count_is, own_most side e)
