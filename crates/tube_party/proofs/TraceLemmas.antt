-- The accesses of the reference run make a trace.
use Rattle.std.proofs.Common.{ℕ, ◌≡◌, subst, if◌then◌else◌, List, [], ◌∷◌, ◌++◌, Some}
use Rattle.std.specs.Prelude.{All, IsTrue}
use Rattle.std.proofs.lemmas.List.Elements.{All-nil, All-cons, All-head, All-tail}
use Rattle.beeb_bits.specs.Order.{before}
use Rattle.beeb_bits.specs.declared.Side.{Side}
use Rattle.beeb_bits.specs.declared.Side.TheVariants.{Host, Para}
use Rattle.tube_chip.specs.declared.Answer.{Answer}
use Rattle.tube_chip.specs.declared.Answer.TheVariants.{Byte, Seen}
use Rattle.tube_chip.specs.State.{State, power_on}
use Rattle.tube_chip.specs.Act.{Query, access, look, act}
use Rattle.tube_chip.specs.Events.{Event, Rises, RisesAfter, IsAnsweredFrom, of_side, is_side}
use Rattle.tube_chip.proofs.Merged.{rises_tail}
use Rattle.tube_trace.specs.declared.Entry.{Entry}
use Rattle.tube_trace.specs.Entries.{IsEntry, entry_of, accesses, events_of}
use Rattle.tube_party.specs.Transitions.{Transitions, IsLawful, MayAsk}
use Rattle.tube_party.specs.Reference.{World, reference, ReferenceIsTrace}
use Rattle.tube_party.proofs.Runs.{event, Steps, Over, Silent, Asking, steps_of}
use Rattle.tube_party.proofs.Followed.{followed, all_earlier}
use Rattle.tube_party.proofs.Replayed.{placed, all_below, all_after}

-- the side of the event may ask for it
abbrev May : Event → Type 0
May e = MayAsk e.side (Some e.query)

module _ {S : Type 0} (m : Transitions S) (side : Side) (n : ℕ) (may : (s : S) → MayAsk side (m.asks s)) where
  all_may : {last s : S} {events : List Event} → Steps m side n last s events → All May events
  all_may Over = All-nil May
  all_may (Silent low none on) = all_may on
  all_may (Asking {s = s} {others = others} q a low is on) =
      let here : MayAsk side (Some q) = subst (MayAsk side) is (may s) in All-cons May (event (m.due s) side q a) others here (all_may on)

-- what holds of each side's events holds of all
both_by : (P : Event → Type 0) (e : Event) (l : List Event) (side : Side)
    → (All P (of_side Host l) → All P (of_side Para l) → All P l)
    → All P (if is_side Host side then e ∷ of_side Host l else of_side Host l) → All P (if is_side Para side then e ∷ of_side Para l else of_side Para l) → All P (e ∷ l)
both_by P e l Host on h p = All-cons P e l (All-head P e (of_side Host l) h) (on (All-tail P e (of_side Host l) h) p)
both_by P e l Para on h p = All-cons P e l (All-head P e (of_side Para l) p) (on h (All-tail P e (of_side Para l) p))

both_sides : (P : Event → Type 0) (l : List Event) → All P (of_side Host l) → All P (of_side Para l) → All P l
both_sides P [] h p = h
both_sides P (e ∷ l) h p = both_by P e l e.side (both_sides P l) h p

may_entry : (t : ℕ) (side : Side) (q : Query) (a : Answer) (xs : List Entry) → MayAsk side (Some q) → All IsEntry xs → All IsEntry (entry_of t side q a ++ xs)
may_entry t side (access op) (Byte b) xs h on = All-cons IsEntry _ xs h on
may_entry t side (access op) (Seen l) xs h on = on
may_entry t side look a xs h on = on

all_entries : (l : List Event) → All May l → All IsEntry (accesses l)
all_entries [] h = All-nil IsEntry
all_entries (e ∷ l) h = may_entry e.tick e.side e.query e.answer (accesses l) (All-head May e l h) (all_entries l (All-tail May e l h))

in_front : (e : Event) (xs : List Entry) → All (λ (x : Entry). IsTrue (before e.tick e.side (x.tick).0 x.side)) xs → Rises (events_of xs) → RisesAfter e (events_of xs)
in_front e [] h rises = tt
in_front e (x ∷ xs) h rises = (All-head (λ y. IsTrue (before e.tick e.side (y.tick).0 y.side)) x xs h, rises)

rises_by : (t : ℕ) (side : Side) (q : Query) (a : Answer) (xs : List Entry) → All (λ (x : Entry). IsTrue (before t side (x.tick).0 x.side)) xs → Rises (events_of xs)
    → Rises (events_of (entry_of t side q a ++ xs))
rises_by t side (access op) (Byte b) xs h on = in_front (event t side (access op) (Byte b)) xs h on
rises_by t side (access op) (Seen l) xs h on = on
rises_by t side look a xs h on = on

all_rise : (l : List Event) → Rises l → Rises (events_of (accesses l))
all_rise [] h = tt
all_rise (e ∷ l) h =
    rises_by e.tick e.side e.query e.answer (accesses l) (placed (λ t side. IsTrue (before e.tick e.side t side)) l (all_after e l h)) (all_rise l (rises_tail e l h))

answered_by : (c : State) (t : ℕ) (side : Side) (q : Query) (a : Answer) (xs : List Entry) → (act c side q).1 ≡ a → IsAnsweredFrom (act c side q).0 (events_of xs)
    → IsAnsweredFrom c (events_of (entry_of t side q a ++ xs))
answered_by c t side (access op) (Byte b) xs is on = (is, on)
answered_by c t side (access op) (Seen l) xs is on = cc
answered_by c t side look a xs is on = on

all_answered : (c : State) (l : List Event) → IsAnsweredFrom c l → IsAnsweredFrom c (events_of (accesses l))
all_answered c [] h = tt
all_answered c (e ∷ l) h = answered_by c e.tick e.side e.query e.answer (accesses l) h.0 (all_answered (act c e.side e.query).0 l h.1)

pub reference_trace : {S T : Type 0} (h : Transitions S) (p : Transitions T) → IsLawful h → IsLawful p → ((s : S) → MayAsk Host (h.asks s))
    → ((t : T) → MayAsk Para (p.asks t)) → ReferenceIsTrace h p
reference_trace {S} {T} h p lh lp may_h may_p s t n =
    let w : World S T = reference h p s t n in
    let f = followed h p lh lp s t n in
    record {
      entries = all_entries w.list
          (both_sides May w.list (all_may h Host n may_h (steps_of h Host n f.host.steps f.host.runs))
          (all_may p Para n may_p (steps_of p Para n f.para.steps f.para.runs)));
      rises = all_rise w.list f.legal.rises;
      answered = all_answered power_on w.list f.legal.answered;
      below = all_below n w.list (all_earlier h p lh lp s t n);
    }
