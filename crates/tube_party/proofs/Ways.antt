-- The parasite's steps while what it observes stays: each asks nothing, looks at the lines, or
-- reads a status register.
use Rattle.std.proofs.Common.{ℕ, ◌≡◌, ◌+◌, ◌<◌, ◌≤◌, refl, sym, ◌∙◌, ap, arith, nat_lt, Bool, true, false, cond, if◌then◌else◌}
use Rattle.std.proofs.Common.{List, [], ◌∷◌, ◌++◌, length, length-append, take, None, Some}
use Rattle.std.specs.Prelude.{All}
use Rattle.std.proofs.lemmas.List.{take_all, take-append-le}
use Rattle.std.proofs.lemmas.List.Elements.{All-nil, All-cons, All-head, All-tail, All-append}
use Rattle.beeb_bits.specs.declared.Side.{Side}
use Rattle.beeb_bits.specs.declared.Side.TheVariants.{Host, Para}
use Rattle.tube_chip.specs.State.{State, lines_of}
use Rattle.tube_chip.specs.declared.Op.{Op}
use Rattle.tube_chip.specs.declared.Answer.{Answer}
use Rattle.tube_chip.specs.declared.Answer.TheVariants.{Byte, Seen}
use Rattle.tube_chip.specs.Act.{Query, access, look, act, ShowsAlike, answer_of}
use Rattle.tube_chip.specs.Events.{Event, of_side, is_side}
use Rattle.tube_trace.specs.declared.Entry.{Entry}
use Rattle.tube_trace.specs.Entries.{accesses, entry_of}
use Rattle.tube_party.specs.Transitions.{Transitions, IsLawful, shown_lines}
use Rattle.tube_party.specs.Turn.{note_leaves, note_all_leaves}
use Rattle.tube_party.specs.Logs.{accesses-append, at_most_one}
use Rattle.tube_party.specs.CodePassing.{IsStatusRead, passed_entry}
use Rattle.tube_party.proofs.Runs.{event, IsOf, Steps, Over, Silent, Asking, steps_append, Glances, Here, Past, Seeing}

-- what leaves the chip: a look, and a read of a status register
abbrev pub IsGlance : Query → Type 0
IsGlance (access op) = IsStatusRead op
IsGlance look = Unit {0}

pub glance_leaves : (c : State) (q : Query) → IsGlance q → (act c Para q).0 ≡ c
glance_leaves c q is = grind arith

-- the event is such, and the chip answers it so
abbrev pub IsIdle : State → Event → Type 0
IsIdle c e = IsGlance e.query × ((act c Para e.query).1 ≡ e.answer)

abbrev pub IsBelow : ℕ → Event → Type 0
IsBelow t e = e.tick < t

-- Steps from t to last, below n, that ask only below `safe_until`, and their accesses.
pub record IsWay {T : Type 0} (p : Transitions T) (n safe_until : ℕ) (c : State) (t last : T) (entries : List Entry) : Type 0 where
  pub events : List Event
  pub runs : Steps p Para n last t events
  pub idle : All (IsIdle c) events
  pub early : All (IsBelow safe_until) events
  pub noted : accesses events ≡ entries

-- ---- What is stored

-- the list grows at its end alone
longer_by : (keep : ℕ) (list : List Entry) (x : Entry) → (length list ≤ length (note_leaves keep list x)) ×
    ((n : ℕ) → n ≤ length list → take n (note_leaves keep list x) ≡ take n list)
longer_by keep list x = elim (nat_lt (length list) keep) as (λ b. (length list ≤ length (cond b (list ++ x ∷ []) list))
    × ((n : ℕ) → n ≤ length list → take n (cond b (list ++ x ∷ []) list) ≡ take n list)) [
      | true ↦ (let l = length-append list (x ∷ []) in omega arith, λ n le. take-append-le n list (x ∷ []) le)
      | false ↦ (omega arith, λ n le. refl)
    ]

pub still_kept : (keep : ℕ) (list xs : List Entry)
    → (length list ≤ length (note_all_leaves keep list xs)) × ((n : ℕ) → n ≤ length list → take n (note_all_leaves keep list xs) ≡ take n list)
still_kept keep list [] = (omega arith, λ n le. refl)
still_kept keep list (x ∷ xs) =
    let one = longer_by keep list x in
    let more = still_kept keep (note_leaves keep list x) xs in
    (omega arith, λ n le. more.1 n (omega arith) ∙ one.1 n le)

-- so that what was noted can be cut off again
pub cut_back : (keep : ℕ) (list xs : List Entry) → take (length list) (note_all_leaves keep list xs) ≡ list
cut_back keep list xs = (still_kept keep list xs).1 (length list) (omega arith) ∙ take_all (length list) list (omega arith)

pub none_of : (xs : List Entry) → length xs ≡ 0 → xs ≡ []
none_of [] e = refl
none_of (x ∷ xs) e = absurd (omega arith)

pub all_own : (events : List Event) → All (IsOf Para) events → (of_side Para events ≡ events) × (of_side Host events ≡ [])
all_own [] each = (refl, refl)
all_own (e ∷ events) each =
    let is : e.side ≡ Para = All-head (IsOf Para) e events each in
    let rest = all_own events (All-tail (IsOf Para) e events each) in (
      ap (λ x. if is_side Para x then e ∷ of_side Para events else of_side Para events) is ∙ ap (λ l. e ∷ l) rest.0,
      ap (λ x. if is_side Host x then e ∷ of_side Host events else of_side Host events) is ∙ rest.1,
    )

-- ---- The chip may change if what it showed stays

-- the lines stay, and what the status registers show, if one is read at all
module _ (is_read : Bool) (c d : State) (lines : lines_of d ≡ lines_of c) (shows : is_read ≡ true → ShowsAlike Para c d) where
  one_still : (r : Bool) → is_read ≡ r → (t : ℕ) (side : Side) (q : Query) (a : Answer) (xs : List Entry) → IsGlance q → (act c Para q).1 ≡ a
      → (r ≡ false → entry_of t side q a ++ xs ≡ []) → ((act d Para q).1 ≡ a) × (r ≡ false → xs ≡ [])
  one_still r is t side q a xs glance idle h = grind arith

  pub seen_still : (events : List Event) → All (IsIdle c) events → (is_read ≡ false → accesses events ≡ []) → All (IsIdle d) events
  seen_still [] idle none = All-nil (IsIdle d)
  seen_still (e ∷ events) idle none =
      let head = All-head (IsIdle c) e events idle in
      let one = one_still is_read refl e.tick e.side e.query e.answer (accesses events) head.0 head.1 none in
      All-cons (IsIdle d) e events (head.0, one.0) (seen_still events (All-tail (IsIdle c) e events idle) one.1)

module _ {T : Type 0} (p : Transitions T) (lp : IsLawful p) (n : ℕ) where
  -- the parasite's, below n and the tick of what follows
  abbrev pub IsOn : ℕ → Event → Type 0
  IsOn d e = (e.side ≡ Para) × (e.tick < n) × (e.tick < d)

  -- ticks rise, and a tick has one access at most
  pub record IsExecution (from to : ℕ) (events : List Event) : Type 0 where
    pub each : All (IsOn to) events
    pub few : length (accesses events) + from ≤ to

  pub execution_of : {last t : T} {events : List Event} → Steps p Para n last t events → IsExecution (p.due t) (p.due last) events
  execution_of {last} Over = record { each = All-nil (IsOn (p.due last)); few = omega arith }
  execution_of (Silent {s = t} low none on) =
      let up = lp.rises t None in
      let rest = execution_of on in
      record { each = rest.each; few = omega arith }
  execution_of {last} (Asking {s = t} {others = others} q a low is on) =
      let up = lp.rises t (Some a) in
      let rest = execution_of on in
      let one = at_most_one (p.due t) Para q a in
      let both = length-append (entry_of (p.due t) Para q a) (accesses others) in
      record { each = All-cons (IsOn (p.due last)) _ others (refl, low, omega arith) rest.each; few = omega arith }

-- ---- Such steps

module _ {T : Type 0} {p : Transitions T} {n safe_until : ℕ} {c : State} where
  -- no step
  abbrev pub no_way : {t : T} → IsWay p n safe_until c t t []
  no_way = record { events = []; runs = Over; idle = All-nil (IsIdle c); early = All-nil (IsBelow safe_until); noted = refl }

  -- steps that ask nothing, and looks
  pub way_of_looks : {last t : T} → Glances p n (shown_lines (lines_of c) safe_until) last t → IsWay p n safe_until c t last []
  way_of_looks Here = no_way
  way_of_looks (Past low none on) =
      let w = way_of_looks on in
      record { events = w.events; runs = Silent low none w.runs; idle = w.idle; early = w.early; noted = w.noted }
  way_of_looks (Seeing {s = t} low is before on) =
      let w = way_of_looks on in
      let e : Event = event (p.due t) Para look (Seen (lines_of c)) in
      record {
        events = e ∷ w.events;
        runs = Asking look (Seen (lines_of c)) low is w.runs;
        idle = All-cons (IsIdle c) e w.events (tt, refl) w.idle;
        early = All-cons (IsBelow safe_until) e w.events before w.early;
        noted = w.noted;
      }

  -- an access in front
  pub way_first : {t on last : T} {op : Op} {byte : ℕ} {entries : List Entry} → p.due t < n → p.asks t ≡ Some (access op) → on ≡ p.next t (Some (Byte byte))
      → p.due t < safe_until → IsStatusRead op → byte ≡ answer_of c Para op → IsWay p n safe_until c on last entries
      → IsWay p n safe_until c t last (passed_entry Para (p.due t) op byte ∷ entries)
  way_first {t} {op = op} {byte = byte} low asks goes early reads is w =
      let e : Event = event (p.due t) Para (access op) (Byte byte) in
      record {
        events = e ∷ w.events;
        runs = Asking (access op) (Byte byte) low asks (rw goes at w.runs);
        idle = All-cons (IsIdle c) e w.events (reads, ap (λ x. Byte x) (sym is)) w.idle;
        early = All-cons (IsBelow safe_until) e w.events early w.early;
        noted = ap (λ l. passed_entry Para (p.due t) op byte ∷ l) w.noted;
      }

  -- such steps after others
  pub way_on : {t mid last : T} {xs ys : List Entry} → IsWay p n safe_until c t mid xs → IsWay p n safe_until c mid last ys → IsWay p n safe_until c t last (xs ++ ys)
  way_on {ys = ys} a b =
      record {
        events = a.events ++ b.events;
        runs = steps_append p Para n n (omega arith) a.runs b.runs;
        idle = All-append (IsIdle c) a.events b.events a.idle b.idle;
        early = All-append (IsBelow safe_until) a.events b.events a.early b.early;
        noted = accesses-append a.events b.events ∙ cc;
      }
