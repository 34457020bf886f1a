-- Two sides merged entry by entry.
use Rattle.std.proofs.Common.{◌≡◌, refl, ap, ℕ, zero, suc, ◌+◌, ◌-◌, ◌<◌, ◌≤◌, length, take, List, [], ◌∷◌, ◌++◌, true, false, IsTrue, nat_lt, cond, All, Some, None, arith, append_assoc, length-append, take_all, ◌⊎◌, inl}
use Rattle.std.proofs.Common.{inr}
use Rattle.std.proofs.lemmas.List.{map-append}
use Rattle.std.proofs.lemmas.List.Elements.{All-push, All-head, All-tail}
use Rattle.std.proofs.lemmas.Grind.{common_steps}
use Rattle.std.proofs.lemmas.Bool.Decides.{nat_tests}
use Rattle.beeb_bits.specs.Order.{before}
use Rattle.beeb_bits.specs.declared.Side.{Side}
use Rattle.beeb_bits.specs.declared.Side.TheVariants.{Host, Para}
use Rattle.tube_chip.specs.Events.{Event, Rises, RisesAfter, merge, put_in}
use Rattle.tube_trace.specs.declared.Entry.{Entry}
use Rattle.tube_trace.specs.Entries.{accesses, event_of, events_of}
use Rattle.tube_trace.specs.Merge.{IsOfSide, next_of, of_both}
use Rattle.tube_trace.specs.Text.{HasLine}

-- an entry is the next of two lists, and these are left
next_merged : (host para : List Entry) {x : Entry} {h p : List Entry} → next_of host para ≡ Some (x, h, p) →
    merge (events_of host) (events_of para) ≡ event_of x ∷ merge (events_of h) (events_of p)
next_merged host para is = grind (arith, nat_tests)

next_taken : (host para : List Entry) {x : Entry} {h p : List Entry} → next_of host para ≡ Some (x, h, p) → ((host ≡ x ∷ h) × (para ≡ p)) ⊎ ((host ≡ h) × (para ≡ x ∷ p))
next_taken host para is = grind arith

next_lines : (host para : List Entry) {x : Entry} {h p : List Entry} → next_of host para ≡ Some (x, h, p) →
    All HasLine host → All HasLine para → HasLine x × All HasLine h × All HasLine p
next_lines host para {x} {h} {p} is all_host all_para =
    elim (next_taken host para is) [
      | inl e ↦ let all = rw e.0 at all_host in (All-head HasLine x h all, All-tail HasLine x h all, rw e.1 at all_para)
      | inr e ↦ let all = rw e.1 at all_para in (All-head HasLine x p all, rw e.0 at all_host, All-tail HasLine x p all)
    ]

-- what is merged until here, with the first of what is left of both lists, is the first of all
pub record MergedSoFar (host para : List Entry) (keep : ℕ) (entries host_left para_left : List Entry) : Type 0 where
  pub whole : events_of entries ++ take (keep - length entries) (merge (events_of host_left) (events_of para_left)) ≡ take keep (merge (events_of host) (events_of para))
  pub lines : All HasLine host → All HasLine para → All HasLine entries × All HasLine host_left × All HasLine para_left

pub merged_more : {host para : List Entry} {keep : ℕ} {entries host_left para_left : List Entry} {x : Entry} {h p : List Entry} →
    MergedSoFar host para keep entries host_left para_left → next_of host_left para_left ≡ Some (x, h, p) → length entries < keep →
    MergedSoFar host para keep (entries ++ x ∷ []) h p
merged_more {keep} {entries} {host_left} {para_left} {x} so_far is low =
    let room : keep - length entries ≡ suc (keep - (length entries + 1)) = omega arith in
    record {
      whole = rw (length-append entries (x ∷ []), map-append event_of entries (x ∷ []), append_assoc) (rw (next_merged host_left para_left is, room) at so_far.whole);
      lines = λ all_host all_para.
          let parts = so_far.lines all_host all_para in
          let left = next_lines host_left para_left is parts.1 parts.2 in
          (All-push HasLine entries x parts.0 left.0, left.1, left.2);
    }

-- ---- entries of both lists, and those of one alone

pub accesses_back : (xs : List Entry) → accesses (events_of xs) ≡ xs
accesses_back [] = refl
accesses_back (x ∷ xs) = ap (λ (z : List Entry). x ∷ z) (accesses_back xs)

pub more_of_both : (k : ℕ) (host para : List Entry) {x : Entry} {h p : List Entry} → next_of host para ≡ Some (x, h, p) → of_both (suc k) host para ≡ x ∷ of_both k h p
more_of_both k host para is = ap (λ es. accesses (take (suc k) es)) (next_merged host para is)

pub none_of_both : (k : ℕ) (host para : List Entry) → next_of host para ≡ None → of_both k host para ≡ []
none_of_both k host para is = grind (arith, nat_tests)

-- one list alone
merge_one : (events : List Event) → merge events [] ≡ events
merge_one [] = refl
merge_one (e ∷ events) = ap (λ (z : List Event). e ∷ z) (merge_one events)

pub of_one : (xs : List Entry) → of_both (length xs) xs [] ≡ xs
of_one xs =
    let few : length (events_of xs) ≤ length xs = grind (arith, common_steps) in
    rw (merge_one (events_of xs), take_all (length xs) (events_of xs) few) (accesses_back xs)

-- ---- what is merged of two sides rises

before-host : (a b : ℕ) {x y : Side} → x ≡ Host → y ≡ Para → nat_lt b a ≡ false → IsTrue (before a x b y)
before-host a b host para h = grind (arith, nat_tests)

before-para : (a b : ℕ) (x y : Side) → nat_lt b a ≡ true → IsTrue (before b y a x)
before-para a b x y h = grind (arith, nat_tests)

abbrev IsOf : Side → Entry → Type 0
IsOf side e = e.side ≡ side

-- what is made of others rises after an event, as these do
abbrev Goes : (List Event → List Event) → List Event → Type 0
Goes rest host = (x : Event) (para : List Entry) → All (IsOf Para) para → RisesAfter x host → RisesAfter x (events_of para) → RisesAfter x (rest (events_of para))

put_in-rises : (x : Event) (a : Entry) (host : List Event) (rest : List Event → List Event) (para : List Entry) →
    Goes rest host → a.side ≡ Host → All (IsOf Para) para → RisesAfter x (event_of a ∷ host) → RisesAfter x (events_of para) → RisesAfter x (put_in (event_of a) rest (events_of para))
put_in-rises x a host rest [] goes first all up_host up_para = (up_host.0, goes (event_of a) [] all up_host.1 tt)
put_in-rises x a host rest (b ∷ para) goes first all up_host up_para =
    elim (nat_lt (b.tick).0 (a.tick).0) as (λ t. nat_lt (b.tick).0 (a.tick).0 ≡ t →
    RisesAfter x (cond t (event_of b ∷ put_in (event_of a) rest (events_of para)) (event_of a ∷ rest (event_of b ∷ events_of para)))) [
      | true ↦ λ e. (up_para.0, put_in-rises (event_of b) a host rest para goes first (All-tail (IsOf Para) b para all) (before-para (a.tick).0 (b.tick).0 a.side b.side e, up_host.1) up_para.1)
      | false ↦ λ e. (up_host.0, goes (event_of a) (b ∷ para) all up_host.1 (before-host (a.tick).0 (b.tick).0 first (All-head (IsOf Para) b para all) e, up_para.1))
    ] refl

merge-rises-after : (host : List Entry) → All (IsOf Host) host → Goes (merge (events_of host)) (events_of host)
merge-rises-after [] all = λ x para of_para up_host up_para. up_para
merge-rises-after (a ∷ host) all = λ x para of_para up_host up_para.
    put_in-rises x a (events_of host) (merge (events_of host)) para (merge-rises-after host (All-tail (IsOf Host) a host all)) (All-head (IsOf Host) a host all) of_para up_host up_para

merge-rises : (host para : List Entry) → All (IsOf Host) host → All (IsOf Para) para → Rises (events_of host) → Rises (events_of para) → Rises (merge (events_of host) (events_of para))
merge-rises [] para of_host of_para up_host up_para = up_para
merge-rises (a ∷ host) [] of_host of_para up_host up_para =
    merge-rises-after host (All-tail (IsOf Host) a host of_host) (event_of a) [] of_para up_host tt
merge-rises (a ∷ host) (b ∷ para) of_host of_para up_host up_para =
    let first = All-head (IsOf Host) a host of_host in
    let others = All-tail (IsOf Para) b para of_para in
    let goes = merge-rises-after host (All-tail (IsOf Host) a host of_host) in
    elim (nat_lt (b.tick).0 (a.tick).0) as (λ t. nat_lt (b.tick).0 (a.tick).0 ≡ t →
    Rises (cond t (event_of b ∷ put_in (event_of a) (merge (events_of host)) (events_of para)) (event_of a ∷ merge (events_of host) (event_of b ∷ events_of para)))) [
      | true ↦ λ e.
          let next = before-para (a.tick).0 (b.tick).0 a.side b.side e in
          put_in-rises (event_of b) a (events_of host) (merge (events_of host)) para goes first others (next, up_host) up_para
      | false ↦ λ e. goes (event_of a) (b ∷ para) of_para up_host (before-host (a.tick).0 (b.tick).0 first (All-head (IsOf Para) b para of_para) e, up_para)
    ] refl

RisesAfter-take : (k : ℕ) (x : Event) (events : List Event) → RisesAfter x events → RisesAfter x (take k events)
RisesAfter-take zero x events rises = tt
RisesAfter-take (suc k) x [] rises = tt
RisesAfter-take (suc k) x (e ∷ events) rises = (rises.0, RisesAfter-take k e events rises.1)

pub Rises-take : (k : ℕ) (events : List Event) → Rises events → Rises (take k events)
Rises-take zero events rises = tt
Rises-take (suc k) [] rises = tt
Rises-take (suc k) (e ∷ events) rises = RisesAfter-take k e events rises

pub first_merged_rise : (keep : ℕ) (host para entries : List Entry) → IsOfSide Host host → IsOfSide Para para →
    events_of entries ≡ take keep (merge (events_of host) (events_of para)) → Rises (events_of entries)
first_merged_rise keep host para entries h p is = rw is (Rises-take keep _ (merge-rises host para h.each p.each h.rises p.rises))
