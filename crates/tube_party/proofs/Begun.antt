-- The list of the reference run grows at its end, by events of the ticks that are done.
use Rattle.std.proofs.Common.{ℕ, zero, suc, ◌≡◌, ◌+◌, ◌-◌, ◌<◌, ◌≤◌, nat_eq, nat_lt, refl, sym, ◌∙◌, ap, arith, Bool, true, false, List, [], ◌∷◌, ◌++◌, append_assoc, Option, None, Some}
use Rattle.std.specs.Prelude.{All}
use Rattle.std.proofs.lemmas.List.{append-nil}
use Rattle.std.proofs.lemmas.Bool.{eqb-true, le-ltb}
use Rattle.std.proofs.lemmas.List.Elements.{All-nil, All-cons, All-head, All-tail, All-weaker, All-append, filter-append}
use Rattle.beeb_bits.specs.declared.Side.{Side}
use Rattle.beeb_bits.specs.declared.Side.TheVariants.{Host, Para}
use Rattle.tube_chip.specs.Act.{Query, act}
use Rattle.tube_chip.specs.Events.{Event}
use Rattle.tube_trace.specs.declared.Entry.{Entry}
use Rattle.tube_trace.specs.Entries.{accesses}
use Rattle.tube_party.specs.Transitions.{Transitions, IsLawful}
use Rattle.tube_party.specs.Reference.{Seat, World, step_if_due, tick, ticks, start, reference}
use Rattle.tube_party.specs.GoingOn.{entries_below, ShorterRunIsBeginning}
use Rattle.tube_party.proofs.Runs.{event}
use Rattle.tube_party.proofs.Ticks.{seat}
use Rattle.tube_party.proofs.ReplayLemmas.{low_true}
use Rattle.tube_party.specs.Logs.{accesses-append}
use Rattle.tube_party.proofs.Followed.{all_earlier}
use Rattle.tube_party.proofs.Replayed.{placed, all_below}
use Rattle.tube_party.proofs.Resumed.{ticks_from}

-- events that joined the end, none of them before tick k
record Grown (k : ℕ) (l grown : List Event) : Type 0 where
  more : List Event
  is : grown ≡ l ++ more
  late : All (λ (e : Event). k ≤ e.tick) more

grown_not : (k : ℕ) (l : List Event) → Grown k l l
grown_not k l = record { more = []; is = sym (append-nil l); late = All-nil (λ e. k ≤ e.tick) }

grown_on : (k : ℕ) (l m grown : List Event) → Grown k l m → Grown k m grown → Grown k l grown
grown_on k l m grown a b =
    record {
      more = a.more ++ b.more;
      is = b.is ∙ ap (λ x. x ++ b.more) a.is ∙ append_assoc l a.more b.more;
      late = All-append (λ e. k ≤ e.tick) a.more b.more a.late b.late;
    }

grown_later : (k j : ℕ) (l grown : List Event) → k ≤ j → Grown j l grown → Grown k l grown
grown_later k j l grown le a =
    record { more = a.more; is = a.is; late = All-weaker (λ e. j ≤ e.tick) (λ e. k ≤ e.tick) (λ e h. omega arith) a.more a.late }

step_grown_by : {S : Type 0} (m : Transitions S) (side : Side) (k : ℕ) (x : Seat S) (due : Bool) (o : Option Query) → nat_eq (m.due x.state) k ≡ due → m.asks x.state ≡ o
    → Grown k x.list (step_if_due m side k x).list
step_grown_by m side k x false o d q = rw d (grown_not k x.list)
step_grown_by m side k x true None d q = rw (d, q) (grown_not k x.list)
step_grown_by m side k x true (Some y) d q =
    let at : m.due x.state ≡ k = eqb-true (m.due x.state) k d in
    let e : Event = event (m.due x.state) side y (act x.chip side y).1 in
    let low : k ≤ m.due x.state = omega (arith, at) in
    rw (d, q) (record { more = e ∷ []; is = refl; late = All-cons (λ z. k ≤ z.tick) e [] low (All-nil (λ z. k ≤ z.tick)) })

step_grown : {S : Type 0} (m : Transitions S) (side : Side) (k : ℕ) (x : Seat S) → Grown k x.list (step_if_due m side k x).list
step_grown m side k x = step_grown_by m side k x (nat_eq (m.due x.state) k) (m.asks x.state) refl refl

module _ {S T : Type 0} (h : Transitions S) (p : Transitions T) where
  tick_grown : (k : ℕ) (w : World S T) → Grown k w.list (tick h p k w).list
  tick_grown k w =
      let a : Seat S = step_if_due h Host k (seat w.host w.chip w.list) in
      grown_on k w.list a.list (tick h p k w).list (step_grown h Host k (seat w.host w.chip w.list)) (step_grown p Para k (seat w.para a.chip a.list))

  ticks_grown : (j k : ℕ) (w : World S T) → Grown k w.list (ticks h p j k w).list
  ticks_grown zero k w = grown_not k w.list
  ticks_grown (suc j) k w =
      grown_on k w.list (tick h p k w).list (ticks h p j (k + 1) (tick h p k w)).list (tick_grown k w)
      (grown_later k (k + 1) (tick h p k w).list (ticks h p j (k + 1) (tick h p k w)).list (omega arith) (ticks_grown j (k + 1) (tick h p k w)))

pub below_all : (at : ℕ) (xs : List Entry) → All (λ (e : Entry). (e.tick).0 < at) xs → entries_below at xs ≡ xs
below_all at [] low = refl
below_all at (x ∷ xs) low =
    rw (low_true (x.tick).0 at (All-head (λ e. (e.tick).0 < at) x xs low)) (ap (λ l. x ∷ l) (below_all at xs (All-tail (λ e. (e.tick).0 < at) x xs low)))

pub below_none : (at : ℕ) (xs : List Entry) → All (λ (e : Entry). at ≤ (e.tick).0) xs → entries_below at xs ≡ []
below_none at [] high = refl
below_none at (x ∷ xs) high =
    rw (le-ltb (x.tick).0 at (All-head (λ e. at ≤ (e.tick).0) x xs high)) (below_none at xs (All-tail (λ e. at ≤ (e.tick).0) x xs high))

pub shorter_run : {S T : Type 0} (h : Transitions S) (p : Transitions T) → IsLawful h → IsLawful p → ShorterRunIsBeginning h p
shorter_run {S} {T} h p lh lp s t at n le =
    let w : World S T = ticks h p at 0 (start s t) in
    let g = ticks_grown h p (n - at) at w in
    let list : accesses (reference h p s t n).list ≡ accesses w.list ++ accesses g.more =
    ap (λ v. accesses v.list) (ticks_from h p at n le (start s t)) ∙ ap accesses g.is ∙ accesses-append w.list g.more in
    let low = all_below at w.list (all_earlier h p lh lp s t at) in
    let high : All (λ e. at ≤ (e.tick).0) (accesses g.more) = placed (λ k side. at ≤ k) g.more g.late in
    sym (
    ap (entries_below at) list
    ∙ filter-append (λ e. nat_lt (e.tick).0 at) (accesses w.list) (accesses g.more)
    ∙ ap (λ x. x ++ entries_below at (accesses g.more)) (below_all at (accesses w.list) low)
    ∙ ap (λ x. accesses w.list ++ x) (below_none at (accesses g.more) high)
    ∙ append-nil (accesses w.list))
