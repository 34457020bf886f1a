-- A replay that meets no difference follows the trace, and the converse.
use Rattle.std.proofs.Common.{ℕ, zero, suc, ◌≡◌, ◌+◌, ◌<◌, ◌≤◌, inl, inr, ◌&&◌, nat_lt, refl, sym, ◌∙◌, ap, subst, arith, Bool, true, false, if◌then◌else◌, List, [], ◌∷◌, ◌++◌, length}
use Rattle.std.proofs.Common.{map, Option, None, Some}
use Rattle.std.specs.Prelude.{All}
use Rattle.std.proofs.lemmas.List.{append-nil}
use Rattle.std.proofs.lemmas.List.Elements.{All-nil, All-cons, All-head, All-tail}
use Rattle.std.proofs.lemmas.Bool.{cases_lt}
use Rattle.std.proofs.lemmas.Bool.Decides.{nat_tests}
use Rattle.beeb_bits.specs.declared.Side.{Side}
use Rattle.tube_chip.specs.declared.Op.{Op}
use Rattle.tube_chip.specs.declared.Answer.{Answer}
use Rattle.tube_chip.specs.declared.Answer.TheVariants.{Byte, Seen}
use Rattle.tube_chip.specs.State.{power_on, lines_of}
use Rattle.tube_chip.specs.Act.{Query, access, look}
use Rattle.tube_chip.specs.Events.{Event, is_side}
use Rattle.tube_trace.specs.declared.Entry.{Entry}
use Rattle.tube_trace.specs.Entries.{accesses}
use Rattle.tube_party.specs.declared.replaying.Doing.{Doing}
use Rattle.tube_party.specs.Transitions.{Transitions, IsLawful}
use Rattle.tube_party.specs.Replay.{Numbered, Ended, own_from, same_op, is_that, next_line, finish_leaves, differs, doing_of, one_step, replay_from, replay_of, chip_before}
use Rattle.tube_party.specs.CodeCursor.{Misses}
use Rattle.tube_party.specs.ReplayLaws.{own_below, IsAnsweredBy, FollowsTrace, ReplayIsFollowing, difference, IsDifference, DiffersAt, ReplayTellsDifference}
use Rattle.tube_party.proofs.Runs.{event, Steps, Over, Silent, Asking, steps_of, runs_of}
use Rattle.tube_party.proofs.ReplayLemmas.{Goes, goes_all, goes_end, goes_none, goes_look, goes_access, at_end, step_now}

abbrev pub entry : ℕ → Side → Op → ℕ → Entry
entry t side op a = record { tick = record { 0 = t }; side = side; op = op; answer = a }

-- the entries of numbered ones
abbrev pub entries : List Numbered → List Entry
entries own = map (λ x. x.entry) own

-- they are the side's
abbrev pub AreOf : Side → List Numbered → Type 0
AreOf side own = All (λ x. x.entry.side ≡ side) own

own_by : (side : Side) (n line : ℕ) (x : Entry) (trace : List Entry) (b : Bool) → (is_side side x.side && nat_lt (x.tick).0 n) ≡ b
    → (entries (own_from side n (line + 1) trace) ≡ own_below side n trace) × AreOf side (own_from side n (line + 1) trace)
    → (entries (own_from side n line (x ∷ trace)) ≡ own_below side n (x ∷ trace)) × AreOf side (own_from side n line (x ∷ trace))
own_by side n line x trace b is on = grind (arith, nat_tests)

pub own_entries : (side : Side) (n line : ℕ) (trace : List Entry) → (entries (own_from side n line trace) ≡ own_below side n trace) × AreOf side (own_from side n line trace)
own_entries side n line [] = (refl, All-nil (λ y. y.entry.side ≡ side))
own_entries side n line (x ∷ trace) = own_by side n line x trace _ refl (own_entries side n (line + 1) trace)

op_same : (a : Op) → same_op a a ≡ true
op_same a = grind (arith, nat_tests)

-- an entry is known by its parts
same_entry : (x : Entry) (t : ℕ) (side : Side) (op : Op) → is_that x t op ≡ true → x.side ≡ side → entry t side op x.answer ≡ x
same_entry x t side op is on = grind (arith, nat_tests)

pub that_entry : (t : ℕ) (side : Side) (op : Op) (a : ℕ) → is_that (entry t side op a) t op ≡ true
that_entry t side op a = let same : same_op op op ≡ true = op_same op in grind (arith, nat_tests)

abbrev ending : {S : Type 0} → S → Ended S
ending s = record { machine = s; place = None }

-- what is said of the machine at a place, if there is one
abbrev told_of : Option (ℕ × Option Doing) → Option Doing
told_of None = None
told_of (Some place) = place.1

abbrev line_of : Option (ℕ × Option Doing) → ℕ
line_of None = 0
line_of (Some place) = place.0

no_line : (left : List Numbered) → next_line left ≡ None → left ≡ []
no_line [] e = refl
no_line (x ∷ left) e = cc

differs_not : {X : Type 0} (place : ℕ × Option Doing) → Some place ≡ None → X
differs_not place e = cc

entries_none : (own : List Numbered) → (let l : List Entry = [] in l) ≡ entries own → own ≡ []
entries_none [] e = refl
entries_none (x ∷ own) e = cc

-- an access is the first of these entries
record IsFirstOf (t : ℕ) (op : Op) (b : ℕ) (rest : List Entry) (own : List Numbered) : Type 0 where
  pub next : Numbered
  pub others : List Numbered
  pub split : own ≡ next ∷ others
  pub that : is_that next.entry t op ≡ true
  pub answer : next.entry.answer ≡ b
  pub rest_is : rest ≡ entries others

first_of_own : (t : ℕ) (side : Side) (op : Op) (b : ℕ) (rest : List Entry) (own : List Numbered) → entry t side op b ∷ rest ≡ entries own → IsFirstOf t op b rest own
first_of_own t side op b rest [] e = cc
first_of_own t side op b rest (x ∷ own) e =
    let head : x.entry ≡ entry t side op b = cc in
    let tail : rest ≡ entries own = cc in
    record {
      next = x;
      others = own;
      split = refl;
      that = ap (λ y. is_that y t op) head ∙ that_entry t side op b;
      answer = ap (λ y. y.answer) head;
      rest_is = tail;
    }

module _ {S : Type 0} (m : Transitions S) (lawful : IsLawful m) (side : Side) (trace : List Entry) (n : ℕ) where
  abbrev Told : Event → Type 0
  Told e = IsAnsweredBy trace e.tick e.side e.query e.answer

  abbrev Answered : List Event → Type 0
  Answered events = All Told events

  -- how a replay ends with the side's entries that are left
  data Ending (last : S) (left : List Numbered) (e : Ended S) : Type 0 where
    Finishes : n ≤ m.due last → e ≡ finish_leaves m n last left → Ending last left e
    Parts : (op : Op) (line : ℕ) → m.due last < n → m.asks last ≡ Some (access op) → Misses left (length trace) (m.due last) op line
        → e ≡ differs m side last op line → Ending last left e

  -- the machine and the side's entries agree up to a point, and how it ends there
  record Comes (s : S) (own : List Numbered) (e : Ended S) : Type 0 where
    pub events : List Event
    pub last : S
    pub runs : Steps m side n last s events
    pub answered : Answered events
    pub agreed : List Numbered
    pub left : List Numbered
    pub own_is : own ≡ agreed ++ left
    pub agrees : accesses events ≡ entries agreed
    pub ends : Ending last left e

  comes_here : {s : S} {own : List Numbered} {e : Ended S} → Ending s own e → Comes s own e
  comes_here {s} {own} ends =
      record { events = []; last = s; runs = Over; answered = All-nil Told; agreed = []; left = own; own_is = refl; agrees = refl; ends = ends }

  -- one step in front that asks nothing, or a look
  comes_none : {s : S} {own : List Numbered} {e : Ended S} → m.due s < n → m.asks s ≡ None → Comes (m.next s None) own e → Comes s own e
  comes_none low none c =
      record {
        events = c.events;
        last = c.last;
        runs = Silent low none c.runs;
        answered = c.answered;
        agreed = c.agreed;
        left = c.left;
        own_is = c.own_is;
        agrees = c.agrees;
        ends = c.ends;
      }

  comes_look : {s : S} {own : List Numbered} {e : Ended S} {a : Answer} → m.due s < n → m.asks s ≡ Some look → IsAnsweredBy trace (m.due s) side look a
      → Comes (m.next s (Some a)) own e → Comes s own e
  comes_look {s} {a = a} low is told c =
      record {
        events = event (m.due s) side look a ∷ c.events;
        last = c.last;
        runs = Asking look a low is c.runs;
        answered = All-cons Told (event (m.due s) side look a) c.events told c.answered;
        agreed = c.agreed;
        left = c.left;
        own_is = c.own_is;
        agrees = c.agrees;
        ends = c.ends;
      }

  -- an access, which is the side's next entry
  comes_access : {s : S} {x : Numbered} {own : List Numbered} {e : Ended S} {op : Op} → m.due s < n → m.asks s ≡ Some (access op) → is_that x.entry (m.due s) op ≡ true
      → x.entry.side ≡ side → Comes (m.next s (Some (Byte x.entry.answer))) own e → Comes s (x ∷ own) e
  comes_access {s} {x} {op = op} low is that of c =
      let done : Event = event (m.due s) side (access op) (Byte x.entry.answer) in
      record {
        events = done ∷ c.events;
        last = c.last;
        runs = Asking (access op) (Byte x.entry.answer) low is c.runs;
        answered = All-cons Told done c.events tt c.answered;
        agreed = x ∷ c.agreed;
        left = c.left;
        own_is = ap (λ l. x ∷ l) c.own_is;
        agrees =
            ap (λ l. entry (m.due s) side op x.entry.answer ∷ l) c.agrees
            ∙ ap (λ y. y ∷ entries c.agreed) (same_entry x.entry (m.due s) side op that of);
        ends = c.ends;
      }

  -- an access of the machine, and the test of the side's next entry
  comes_test : (s : S) (x : Numbered) (own : List Numbered) (e : Ended S) (op : Op) (go : S → List Numbered → Ended S) (b : Bool) → is_that x.entry (m.due s) op ≡ b
      → m.due s < n → m.asks s ≡ Some (access op) → x.entry.side ≡ side
      → ((u : S) → e ≡ go u own → m.due s < m.due u → Comes u own e)
      → e ≡ (if b then go (m.next s (Some (Byte x.entry.answer))) own else differs m side s op x.line)
      → Comes s (x ∷ own) e
  comes_test s x own e op go true is low asks of on same =
      comes_access low asks is of (on (m.next s (Some (Byte x.entry.answer))) same (lawful.rises s (Some (Byte x.entry.answer))))
  comes_test s x own e op go false is low asks of on same = comes_here (Parts op x.line low asks (refl, is) same)

  -- one step of the replay
  comes_step : (s : S) (own : List Numbered) (e : Ended S) (go : S → List Numbered → Ended S) (o : Option Query) → m.asks s ≡ o → m.due s < n → AreOf side own
      → ((u : S) (l : List Numbered) → AreOf side l → e ≡ go u l → m.due s < m.due u → Comes u l e)
      → e ≡ one_step m side trace s own o go
      → Comes s own e
  comes_step s own e go None is low of on same = comes_none low is (on (m.next s None) own of same (lawful.rises s None))
  comes_step s own e go (Some look) is low of on same =
      let a : Answer = Seen (lines_of (chip_before side (m.due s) power_on trace)) in
      comes_look low is refl (on (m.next s (Some a)) own of same (lawful.rises s (Some a)))
  comes_step s [] e go (Some (access op)) is low of on same = comes_here (Parts op (length trace + 1) low is refl same)
  comes_step s (x ∷ own) e go (Some (access op)) is low of on same =
      comes_test s x own e op go _ refl low is (All-head (λ y. y.entry.side ≡ side) x own of)
      (λ u. on u own (All-tail (λ y. y.entry.side ≡ side) x own of)) same

  comes : (k : ℕ) (s : S) (own : List Numbered) (e : Ended S) → n ≤ m.due s + k → AreOf side own → e ≡ replay_from m side trace n k s own → Comes s own e
  comes zero s own e enough of same = comes_here (Finishes (omega arith) same)
  comes (suc k) s own e enough of same = elim (cases_lt (m.due s) n) [
    | inl low ↦
        comes_step s own e (replay_from m side trace n k) (m.asks s) refl low of
        (λ u l of_l on up. comes k u l e (omega arith) of_l on)
        (same ∙ step_now m side trace n k s own low)
    | inr over ↦ comes_here (Finishes over (same ∙ at_end m side trace n (suc k) s own over))
  ]

  comes_all : (s : S) → Comes s (own_from side n 1 trace) (replay_of m side trace n s)
  comes_all s =
      let goes = goes_all m side trace n s in
      comes goes.steps s (own_from side n 1 trace) (replay_of m side trace n s) goes.enough (own_entries side n 1 trace).1 goes.same

  -- with no place, nothing is left

  follows_by : (s ended : S) (c : Comes s (own_from side n 1 trace) (replay_of m side trace n s)) → Ending c.last c.left (replay_of m side trace n s)
      → replay_of m side trace n s ≡ ending ended → FollowsTrace m side trace n s ended
  follows_by s ended c (Finishes over same) e =
      let ends : ending ended ≡ finish_leaves m n c.last c.left = sym e ∙ same in
      let none : c.left ≡ [] = no_line c.left (sym (ap (λ y. y.place) ends)) in
      let runs = runs_of m side n c.runs in
      let all : own_from side n 1 trace ≡ c.agreed = c.own_is ∙ ap (λ l. c.agreed ++ l) none ∙ append-nil c.agreed in
      record {
        events = c.events;
        follows = record { steps = runs.0; last = c.last; runs = runs.1; over = over; ends = ap (λ y. y.machine) ends };
        own = c.agrees ∙ sym (ap entries all) ∙ (own_entries side n 1 trace).0;
        answered = c.answered;
      }
  follows_by s ended c (Parts op line low asks misses same) e =
      differs_not (line, Some (doing_of (m.due c.last) side op)) (sym (ap (λ y. y.place) (sym e ∙ same)))

  -- with a place, they differ there

  abbrev At : S → Ended S → ℕ → Option Doing → Type 0
  At stopped e line what = e ≡ record { machine = stopped; place = Some (line, what) }

  abbrev Whole : S → List Numbered → ℕ → Option Doing → S → Type 0
  Whole last left line what stopped = IsDifference m side n (length trace) (record { last = last; left = left }) (difference line what stopped)

  difference_by : (last stopped : S) (left : List Numbered) (e : Ended S) (line : ℕ) (what : Option Doing) → Ending last left e → At stopped e line what → Whole last left line what stopped
  difference_by last stopped left e line what h at = grind (arith, nat_tests)

  differs_of : (s stopped : S) (line : ℕ) (what : Option Doing) → At stopped (replay_of m side trace n s) line what → DiffersAt m side trace n s (difference line what stopped)
  differs_of s stopped line what at =
      let c = comes_all s in
      let runs = runs_of m side n c.runs in
      record {
        events = c.events;
        steps = runs.0;
        last = c.last;
        runs = runs.1;
        answered = c.answered;
        agreed = c.agreed;
        left = c.left;
        own = c.own_is;
        agrees = c.agrees;
        differs = difference_by c.last stopped c.left (replay_of m side trace n s) line what c.ends at;
      }

  -- the converse: the replay takes the entries that agree

  takes_all : {last s : S} {events : List Event} {own : List Numbered} (agreed left : List Numbered) {whole : Ended S} → Goes m side trace n whole s own
      → own ≡ agreed ++ left → accesses events ≡ entries agreed → Answered events → Steps m side n last s events → Goes m side trace n whole last left
  takes_all {last = last} agreed left {whole} goes own_is agrees answered Over =
      subst (Goes m side trace n whole last) (own_is ∙ ap (λ l. l ++ left) (entries_none agreed agrees)) goes
  takes_all agreed left goes own_is agrees answered (Silent low none on) = takes_all agreed left (goes_none goes lawful low none) own_is agrees answered on
  takes_all agreed left goes own_is agrees answered (Asking {s = s} {others = others} look a low is on) =
      let told = All-head Told (event (m.due s) side look a) others answered in
      takes_all agreed left (rw (← told) at (goes_look goes lawful low is)) own_is agrees (All-tail Told (event (m.due s) side look a) others answered) on
  takes_all agreed left goes own_is agrees answered (Asking {s = s} {others = others} (access op) (Seen l) low is on) =
      absurd (All-head Told (event (m.due s) side (access op) (Seen l)) others answered)
  takes_all agreed left goes own_is agrees answered (Asking {s = s} {others = others} (access op) (Byte b) low is on) =
      let first = first_of_own (m.due s) side op b (accesses others) agreed agrees in
      let split = own_is ∙ ap (λ l. l ++ left) first.split in
      takes_all first.others left
      (goes_access goes lawful (first.others ++ left) op b low is (record { next = first.next; split = split; that = first.that; answer = first.answer }))
      refl first.rest_is (All-tail Told (event (m.due s) side (access op) (Byte b)) others answered) on

  replayed_of : (s ended : S) → FollowsTrace m side trace n s ended → replay_of m side trace n s ≡ ending ended
  replayed_of s ended f =
      let own : List Numbered = own_from side n 1 trace in
      goes_end (takes_all own [] (goes_all m side trace n s) (sym (append-nil own)) (f.own ∙ sym (own_entries side n 1 trace).0) f.answered
      (steps_of m side n f.follows.steps f.follows.runs)) f.follows.over
      ∙ ap ending (sym f.follows.ends)

  place_by : (whole : Ended S) (last stopped : S) (left : List Numbered) (line : ℕ) (what : Option Doing) → Goes m side trace n whole last left → Whole last left line what stopped
      → At stopped whole line what
  place_by whole last stopped left line what goes d = grind (arith, nat_tests)

  place_of : (s stopped : S) (line : ℕ) (what : Option Doing) → DiffersAt m side trace n s (difference line what stopped) → At stopped (replay_of m side trace n s) line what
  place_of s stopped line what d =
      place_by (replay_of m side trace n s) d.last stopped d.left line what
      (takes_all d.agreed d.left (goes_all m side trace n s) d.own d.agrees d.answered (steps_of m side n d.steps d.runs))
      d.differs

pub replay_following : {S : Type 0} (m : Transitions S) → IsLawful m → ReplayIsFollowing m
replay_following m lawful side trace n s ended =
    (λ e. let c = comes_all m lawful side trace n s in follows_by m lawful side trace n s ended c c.ends e, replayed_of m lawful side trace n s ended)

pub replay_differs : {S : Type 0} (m : Transitions S) → IsLawful m → ReplayTellsDifference m
replay_differs m lawful side trace n s line what stopped = (differs_of m lawful side trace n s stopped line what, place_of m lawful side trace n s stopped line what)
