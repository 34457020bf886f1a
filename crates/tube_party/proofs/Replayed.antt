-- The replay of the reference run's own list.
use Rattle.std.proofs.Common.{ℕ, ◌≡◌, ◌<◌, refl, sym, ◌∙◌, ap, arith, Bool, true, false, ◌&&◌, nat_lt, if◌then◌else◌, List, [], ◌∷◌, ◌++◌}
use Rattle.std.specs.Prelude.{All, IsTrue, filter}
use Rattle.std.proofs.lemmas.List.Elements.{All-nil, All-cons, All-head, All-tail, All-weaker, filter-append}
use Rattle.std.proofs.lemmas.Bool.Decides.{nat_tests}
use Rattle.beeb_bits.specs.Order.{before}
use Rattle.beeb_bits.specs.declared.Side.{Side}
use Rattle.beeb_bits.specs.declared.Side.TheVariants.{Host, Para}
use Rattle.tube_chip.specs.declared.Answer.{Answer}
use Rattle.tube_chip.specs.declared.Answer.TheVariants.{Seen}
use Rattle.tube_chip.specs.State.{State, power_on, lines_of}
use Rattle.tube_chip.specs.Act.{Query, access, look, act}
use Rattle.tube_chip.specs.Events.{Event, IsBefore, Rises, RisesAfter, IsAnsweredFrom, IsLegal, of_side, is_side}
use Rattle.tube_chip.proofs.Merged.{rises_tail}
use Rattle.tube_trace.specs.declared.Entry.{Entry}
use Rattle.tube_trace.specs.Entries.{entry_of, accesses}
use Rattle.tube_party.specs.Transitions.{Transitions, IsLawful, Follows, FitsAnswer}
use Rattle.tube_party.specs.Replay.{chip_before}
use Rattle.tube_party.specs.Reference.{World, reference}
use Rattle.tube_party.specs.ReplayLaws.{own_below, IsAnsweredBy, FollowsTrace, ReferenceIsReplayed}
use Rattle.tube_party.proofs.ReplayLemmas.{low_true}
use Rattle.tube_party.proofs.FollowingLemmas.{replay_following}
use Rattle.tube_party.proofs.Listed.{IsEarlier, before-then}
use Rattle.tube_party.proofs.Followed.{followed, all_earlier}

-- what holds of the events' ticks and sides holds of their entries'
placed_by : (P : ℕ → Side → Type 0) (t : ℕ) (side : Side) (q : Query) (a : Answer) (xs : List Entry) → P t side → All (λ (x : Entry). P (x.tick).0 x.side) xs
    → All (λ x. P (x.tick).0 x.side) (entry_of t side q a ++ xs)
placed_by P t side q a xs h on = grind (arith, nat_tests)

pub placed : (P : ℕ → Side → Type 0) (l : List Event) → All (λ (e : Event). P e.tick e.side) l → All (λ (x : Entry). P (x.tick).0 x.side) (accesses l)
placed P [] h = All-nil (λ x. P (x.tick).0 x.side)
placed P (e ∷ l) h =
    placed_by P e.tick e.side e.query e.answer (accesses l) (All-head (λ f. P f.tick f.side) e l h) (placed P l (All-tail (λ f. P f.tick f.side) e l h))

below_end : (t n : ℕ) (side : Side) → IsTrue (before t side n Host) → t < n
below_end t n Host h = grind (arith, nat_tests)
below_end t n Para h = grind (arith, nat_tests)

-- all entries are below the end
pub all_below : (n : ℕ) (l : List Event) → All (IsEarlier n Host) l → All (λ (x : Entry). (x.tick).0 < n) (accesses l)
all_below n l h =
    All-weaker (λ x. IsTrue (before (x.tick).0 x.side n Host)) (λ x. (x.tick).0 < n) (λ x on. below_end (x.tick).0 n x.side on) (accesses l)
    (placed (λ k side. IsTrue (before k side n Host)) l h)

-- the side's entries
abbrev pub own : Side → List Entry → List Entry
own side trace = filter (λ x. is_side side x.side) trace

low_and : (b : Bool) (t n : ℕ) → t < n → (b && nat_lt t n) ≡ b
low_and true t n low = low_true t n low
low_and false t n low = refl

-- if all entries are below n, those of a side below n are those of the side
pub own_all : (side : Side) (n : ℕ) (trace : List Entry) → All (λ (e : Entry). (e.tick).0 < n) trace → own_below side n trace ≡ own side trace
own_all side n [] low = refl
own_all side n (x ∷ trace) low =
    by (is_side side x.side) refl (low_and (is_side side x.side) (x.tick).0 n (All-head (λ e. (e.tick).0 < n) x trace low))
    (own_all side n trace (All-tail (λ e. (e.tick).0 < n) x trace low))
  where
    by : (b : Bool) → is_side side x.side ≡ b → (is_side side x.side && nat_lt (x.tick).0 n) ≡ is_side side x.side → own_below side n trace ≡ own side trace
        → own_below side n (x ∷ trace) ≡ own side (x ∷ trace)
    by true is same on = rw (same ∙ is, is) (ap (λ l. x ∷ l) on)
    by false is same on = rw (same ∙ is, is) on

-- the accesses of a side are the side's entries
own_by : (side : Side) (t : ℕ) (of : Side) (q : Query) (a : Answer) (b : Bool) → is_side side of ≡ b → own side (entry_of t of q a) ≡ (if b then entry_of t of q a else [])
own_by side t of q a b is = grind arith

event_by : (side : Side) (e : Event) (l : List Event) (b : Bool) → accesses
    (if b then e ∷ of_side side l else of_side side l) ≡ (if b then entry_of e.tick e.side e.query e.answer else []) ++ accesses (of_side side l)
event_by side e l true = refl
event_by side e l false = refl

pub own_of_accesses : (side : Side) (l : List Event) → accesses (of_side side l) ≡ own side (accesses l)
own_of_accesses side [] = refl
own_of_accesses side (e ∷ l) =
    event_by side e l (is_side side e.side)
    ∙ ap (λ x. (if is_side side e.side then entry_of e.tick e.side e.query e.answer else []) ++ x) (own_of_accesses side l)
    ∙ ap (λ x. x ++ own side (accesses l)) (sym (own_by side e.tick e.side e.query e.answer (is_side side e.side) refl))
    ∙ sym (filter-append (λ x. is_side side x.side) (entry_of e.tick e.side e.query e.answer) (accesses l))

-- what its looks see

-- as `IsAnsweredBy`, from chip c on
abbrev pub IsAnsweredOn : State → List Entry → ℕ → Side → Query → Answer → Type 0
IsAnsweredOn c trace t side (access op) a = FitsAnswer (access op) a
IsAnsweredOn c trace t side look a = a ≡ Seen (lines_of (chip_before side t c trace))

abbrev pub On : State → List Entry → Event → Type 0
On c trace e = IsAnsweredOn c trace e.tick e.side e.query e.answer

-- an event after the look stops it
stops_by : (e : Event) (c : State) (t : ℕ) (side : Side) (q : Query) (a : Answer) (more : List Entry) → IsTrue (before e.tick e.side t side) →
    chip_before e.side e.tick c more ≡ c → chip_before e.side e.tick c (entry_of t side q a ++ more) ≡ c
stops_by e c t side q a more later on = grind (arith, nat_tests)

stops : (e : Event) (c : State) (l : List Event) → All (IsBefore e) l → chip_before e.side e.tick c (accesses l) ≡ c
stops e c [] h = refl
stops e c (f ∷ l) h = stops_by e c f.tick f.side f.query f.answer (accesses l) (All-head (IsBefore e) f l h) (stops e c l (All-tail (IsBefore e) f l h))

-- an event before the look is done
does_by : (f : Event) (c : State) (t : ℕ) (side : Side) (q : Query) (a : Answer) (more : List Entry) → IsTrue (before t side f.tick f.side) → (act c side q).1 ≡ a →
    chip_before f.side f.tick c (entry_of t side q a ++ more) ≡ chip_before f.side f.tick (act c side q).0 more
does_by f c t side q a more first is = grind arith

head_by : (c : State) (t : ℕ) (side : Side) (q : Query) (a : Answer) (more : List Entry) → (act c side q).1 ≡ a → chip_before side t c more ≡ c
    → IsAnsweredOn c (entry_of t side q a ++ more) t side q a
head_by c t side q a more is still = grind (arith, nat_tests)

pub tail_by : (c d : State) (trace more : List Entry) (t : ℕ) (side : Side) (q : Query) (a : Answer) → chip_before side t c trace ≡ chip_before side t d more
    → IsAnsweredOn d more t side q a → IsAnsweredOn c trace t side q a
tail_by c d trace more t side q a same h = grind (arith, nat_tests)

pub all_after : (e : Event) (l : List Event) → RisesAfter e l → All (IsBefore e) l
all_after e [] h = All-nil (IsBefore e)
all_after e (f ∷ l) h =
    All-cons (IsBefore e) f l h.0 (All-weaker (IsBefore f) (IsBefore e) (λ g on. before-then e.tick f.tick g.tick e.side f.side g.side h.0 on) l (all_after f l h.1))

looks : (c : State) (l : List Event) → Rises l → IsAnsweredFrom c l → All (On c (accesses l)) l
looks c [] rises is = All-nil (On c [])
looks c (e ∷ l) rises is =
    let later = all_after e l rises in
    let rest = looks (act c e.side e.query).0 l (rises_tail e l rises) is.1 in
    let both : All (λ f. IsBefore e f × On (act c e.side e.query).0 (accesses l) f) l = λ k d low. (later k d low, rest k d low) in
    All-cons (On c (accesses (e ∷ l))) e l
    (head_by c e.tick e.side e.query e.answer (accesses l) is.0 (stops e c l later))
    (All-weaker (λ f. IsBefore e f × On (act c e.side e.query).0 (accesses l) f) (On c (accesses (e ∷ l)))
    (λ f x. tail_by c (act c e.side e.query).0 (accesses (e ∷ l)) (accesses l) f.tick f.side f.query f.answer (does_by f c e.tick e.side e.query e.answer (accesses l) x.0 is.0) x.1) l both)

at_power_on : (trace : List Entry) (t : ℕ) (side : Side) (q : Query) (a : Answer) → IsAnsweredOn power_on trace t side q a → IsAnsweredBy trace t side q a
at_power_on trace t side (access op) a h = h
at_power_on trace t side look a h = h

side_by : (P : Event → Type 0) (e : Event) (l : List Event) (b : Bool) → P e → All P l → All P (if b then e ∷ l else l)
side_by P e l true h on = All-cons P e l h on
side_by P e l false h on = on

All-of_side : (P : Event → Type 0) (side : Side) (l : List Event) → All P l → All P (of_side side l)
All-of_side P side [] h = h
All-of_side P side (e ∷ l) h = side_by P e (of_side side l) (is_side side e.side) (All-head P e l h) (All-of_side P side l (All-tail P e l h))

-- a machine that follows its side of a legal list follows the trace of it
pub follows_own : {S : Type 0} (m : Transitions S) (side : Side) (n : ℕ) (s ended : S) (l : List Event) → IsLegal l → All (IsEarlier n Host) l →
    Follows m side s (of_side side l) n ended → FollowsTrace m side (accesses l) n s ended
follows_own m side n s ended l legal earlier follows =
    record {
      events = of_side side l;
      follows = follows;
      own = own_of_accesses side l ∙ sym (own_all side n (accesses l) (all_below n l earlier));
      answered = All-of_side (λ e. IsAnsweredBy (accesses l) e.tick e.side e.query e.answer) side l
          (All-weaker (On power_on (accesses l)) (λ e. IsAnsweredBy (accesses l) e.tick e.side e.query e.answer)
          (λ e h. at_power_on (accesses l) e.tick e.side e.query e.answer h) l (looks power_on l legal.rises legal.answered));
    }

pub reference_replayed : {S T : Type 0} (h : Transitions S) (p : Transitions T) → IsLawful h → IsLawful p → ReferenceIsReplayed h p
reference_replayed {S} {T} h p lh lp s t n =
    let w : World S T = reference h p s t n in
    let f = followed h p lh lp s t n in
    let earlier = all_earlier h p lh lp s t n in (
      (replay_following h lh Host (accesses w.list) n s w.host).1 (follows_own h Host n s w.host w.list f.legal earlier f.host),
      (replay_following p lp Para (accesses w.list) n t w.para).1 (follows_own p Para n t w.para w.list f.legal earlier f.para),
    )
