-- Two parties that were brought back are the reference run at that tick, and continue as it does.
use Rattle.std.proofs.Common.{ℕ, zero, suc, ◌≡◌, ◌+◌, ◌-◌, ◌≤◌, nat_eq, refl, sym, ◌∙◌, ap, subst, arith, Bool, true, false, List, [], ◌∷◌, ◌++◌, Option, None, Some}
use Rattle.std.proofs.lemmas.List.Elements.{All-weaker}
use Rattle.beeb_bits.specs.declared.Side.{Side}
use Rattle.beeb_bits.specs.declared.Side.TheVariants.{Host, Para}
use Rattle.tube_chip.specs.declared.Answer.{Answer}
use Rattle.tube_chip.specs.State.{State, power_on}
use Rattle.tube_chip.specs.Act.{Query, access, look, act}
use Rattle.tube_chip.specs.Events.{Event, merge, after}
use Rattle.tube_trace.specs.declared.Entry.{Entry}
use Rattle.tube_trace.specs.Entries.{accesses, events_of}
use Rattle.tube_trace.proofs.MergeLemmas.{accesses_back}
use Rattle.tube_party.specs.Transitions.{Transitions, IsLawful, close_leaves}
use Rattle.tube_party.specs.ReplayLaws.{IsAnsweredBy, FollowsTrace}
use Rattle.tube_party.specs.Reference.{Seat, World, step_if_due, tick, ticks, start, close_both_leaves, reference, IsTraceBelow}
use Rattle.tube_party.specs.GoingOn.{reference_from, after_entries, IsLike, IsBroughtBack, BroughtBackIsReference}
use Rattle.tube_party.proofs.Runs.{event, steps_of}
use Rattle.tube_party.proofs.Ticks.{seat, world, rest}
use Rattle.tube_party.proofs.Meet.{meets}
use Rattle.tube_party.proofs.FollowingLemmas.{replay_following}
use Rattle.tube_party.proofs.Followed.{so_far}
use Rattle.tube_party.proofs.Replayed.{own, own_all, own_of_accesses, On, IsAnsweredOn}
use Rattle.tube_party.proofs.Early.{SameAccesses, same_after, alike, like_on}
use Rattle.tube_party.proofs.Joined.{IsPart, IsJoined, joined, line_of_runs}

-- ---- States that continue alike

-- the next step is the same, and so is what closing leaves at n, if n is not past that step
pub record IsSame {S : Type 0} (m : Transitions S) (n : ℕ) (s u : S) : Type 0 where
  pub due : m.due s ≡ m.due u
  pub asks : m.asks s ≡ m.asks u
  pub next : (a : Option Answer) → m.next s a ≡ m.next u a
  pub ends : n ≤ m.due s → close_leaves m s n ≡ close_leaves m u n

same_self : {S : Type 0} (m : Transitions S) (n : ℕ) (s u : S) → s ≡ u → IsSame m n s u
same_self m n s u e = grind arith

-- a state that was closed below its next step continues as before
same_shut : {S : Type 0} (m : Transitions S) → IsLawful m → (at n : ℕ) (s : S) → at ≤ n → at ≤ m.due s → IsSame m n s (close_leaves m s at)
same_shut m lawful at n s le low = grind arith

-- one party at the chip, which continues alike
record IsSeatAlike {S : Type 0} (m : Transitions S) (n : ℕ) (x y : Seat S) : Type 0 where
  state : IsSame m n x.state y.state
  chip : x.chip ≡ y.chip
  listed : SameAccesses x.list y.list

step_alike_by : {S : Type 0} (m : Transitions S) (n : ℕ) (side : Side) (k : ℕ) (s u : S) (c : State) (l l2 : List Event) (due : Bool) (o : Option Query) → nat_eq (m.due s) k ≡ due → m.asks s ≡ o →
    IsSame m n s u → SameAccesses l l2 → IsSeatAlike m n (step_if_due m side k (seat s c l)) (step_if_due m side k (seat u c l2))
step_alike_by m n side k s u c l l2 false o d q same lists =
    let d2 : nat_eq (m.due u) k ≡ false = ap (λ t. nat_eq t k) (sym same.due) ∙ d in
    rw (d, d2) (record { state = same; chip = refl; listed = lists })
step_alike_by m n side k s u c l l2 true None d q same lists =
    let d2 : nat_eq (m.due u) k ≡ true = ap (λ t. nat_eq t k) (sym same.due) ∙ d in
    let q2 : m.asks u ≡ None = sym same.asks ∙ q in
    rw (d, d2, q, q2) (record { state = same_self m n (m.next s None) (m.next u None) (same.next None); chip = refl; listed = lists })
step_alike_by m n side k s u c l l2 true (Some x) d q same lists =
    let d2 : nat_eq (m.due u) k ≡ true = ap (λ t. nat_eq t k) (sym same.due) ∙ d in
    let q2 : m.asks u ≡ Some x = sym same.asks ∙ q in
    let a : Answer = (act c side x).1 in
    let more : SameAccesses (l ++ event (m.due s) side x a ∷ []) (l2 ++ event (m.due u) side x a ∷ []) =
    subst (λ t. SameAccesses (l ++ event (m.due s) side x a ∷ []) (l2 ++ event t side x a ∷ [])) same.due (same_after l l2 (event (m.due s) side x a ∷ []) lists) in
    rw (d, d2, q, q2) (record { state = same_self m n (m.next s (Some a)) (m.next u (Some a)) (same.next (Some a)); chip = refl; listed = more })

step_alike : {S : Type 0} (m : Transitions S) (n : ℕ) (side : Side) (k : ℕ) (x y : Seat S) → IsSeatAlike m n x y → IsSeatAlike m n (step_if_due m side k x) (step_if_due m side k y)
step_alike m n side k x y same =
    subst (λ c. IsSeatAlike m n (step_if_due m side k x) (step_if_due m side k (seat y.state c y.list))) same.chip
    (step_alike_by m n side k x.state y.state x.chip x.list y.list (nat_eq (m.due x.state) k) (m.asks x.state) refl refl same.state same.listed)

module _ {S T : Type 0} (h : Transitions S) (p : Transitions T) where
  record IsAlike (n : ℕ) (w v : World S T) : Type 0 where
    pub host : IsSame h n w.host v.host
    pub para : IsSame p n w.para v.para
    pub chip : w.chip ≡ v.chip
    pub listed : SameAccesses w.list v.list

  tick_alike : (n k : ℕ) (w v : World S T) → IsAlike n w v → IsAlike n (tick h p k w) (tick h p k v)
  tick_alike n k w v same =
      let x =
      step_alike h n Host k (seat w.host w.chip w.list) (seat v.host v.chip v.list) (record { state = same.host; chip = same.chip; listed = same.listed }) in
      let a : Seat S = step_if_due h Host k (seat w.host w.chip w.list) in
      let b : Seat S = step_if_due h Host k (seat v.host v.chip v.list) in
      let y =
      step_alike p n Para k (seat w.para a.chip a.list) (seat v.para b.chip b.list) (record { state = same.para; chip = x.chip; listed = x.listed }) in
      record { host = x.state; para = y.state; chip = y.chip; listed = y.listed }

  ticks_alike : (n j k : ℕ) (w v : World S T) → IsAlike n w v → IsAlike n (ticks h p j k w) (ticks h p j k v)
  ticks_alike n zero k w v same = same
  ticks_alike n (suc j) k w v same = ticks_alike n j (k + 1) (tick h p k w) (tick h p k v) (tick_alike n k w v same)

  -- some ticks, and then further ones
  ticks_then : (i j k : ℕ) (w : World S T) → ticks h p (i + j) k w ≡ ticks h p j (k + i) (ticks h p i k w)
  ticks_then zero j k w =
      let none : 0 + j ≡ j = omega arith in
      let here : k ≡ k + 0 = omega arith in
      ap (λ x. ticks h p x k w) none ∙ ap (λ x. ticks h p j x w) here
  ticks_then (suc i) j k w =
      let more : suc i + j ≡ suc (i + j) = omega arith in
      let at : (k + 1) + i ≡ k + suc i = omega arith in
      ap (λ x. ticks h p x k w) more ∙ ticks_then i j (k + 1) (tick h p k w)
      ∙ ap (λ x. ticks h p j x (ticks h p i (k + 1) (tick h p k w))) at

  -- those below a tick, and then the others
  pub ticks_from : (at n : ℕ) → at ≤ n → (w : World S T) → ticks h p n 0 w ≡ ticks h p (n - at) at (ticks h p at 0 w)
  ticks_from at n le w =
      let sum : n ≡ at + (n - at) = omega arith in
      let here : 0 + at ≡ at = omega arith in
      ap (λ x. ticks h p x 0 w) sum ∙ ticks_then at (n - at) 0 w ∙ ap (λ x. ticks h p (n - at) x (ticks h p at 0 w)) here

-- ---- Both parties brought back

from_power_on : (trace : List Entry) (t : ℕ) (side : Side) (q : Query) (a : Answer) → IsAnsweredBy trace t side q a → IsAnsweredOn power_on trace t side q a
from_power_on trace t side (access op) a h = h
from_power_on trace t side look a h = h

-- what a party that follows the trace did is its side's part
part_of : {S : Type 0} (m : Transitions S) → IsLawful m → (side : Side) (trace : List Entry) (at : ℕ) (s u : S) → IsTraceBelow at trace → (f : FollowsTrace m side trace at s u)
    → IsPart side power_on trace f.events
part_of m lawful side trace at s u legal f =
    let line = line_of_runs m lawful side at (steps_of m side at f.follows.steps f.follows.runs) in
    record {
      rises = line.rises;
      each = line.each;
      own_is = f.own ∙ own_all side at trace legal.below;
      told = All-weaker (λ e. IsAnsweredBy trace e.tick e.side e.query e.answer) (On power_on trace) (λ e h. from_power_on trace e.tick e.side e.query e.answer h) f.events f.answered;
    }

same_by_accesses : (l : List Event) (trace : List Entry) → accesses l ≡ trace → SameAccesses l (events_of trace)
same_by_accesses l trace same side =
    own_of_accesses side l ∙ ap (own side) (same ∙ sym (accesses_back trace)) ∙ sym (own_of_accesses side (events_of trace))

module _ {S T : Type 0} (h : Transitions S) (p : Transitions T) (lh : IsLawful h) (lp : IsLawful p) (s u : S) (t v : T) (entries : List Entry) (at : ℕ) (is : IsBroughtBack h p entries at s u t v) where
  host_follows : FollowsTrace h Host entries at s u
  host_follows = (replay_following h lh Host entries at s u).0 is.host

  para_follows : FollowsTrace p Para entries at t v
  para_follows = (replay_following p lp Para entries at t v).0 is.para

  abbrev all : List Event
  all = merge host_follows.events para_follows.events

  all_joined : IsJoined power_on entries all
  all_joined =
      joined power_on entries host_follows.events para_follows.events
      (part_of h lh Host entries at s u is.legal host_follows) (part_of p lp Para entries at t v is.legal para_follows)
      (record { rises = is.legal.rises; answered = is.legal.answered })

  -- where the reference run is at that tick
  abbrev stopped : World S T
  stopped = world host_follows.follows.last para_follows.follows.last (after all) all

  reached : ticks h p at 0 (start s t) ≡ stopped
  reached =
      let a = host_follows.follows in
      let b = para_follows.follows in
      meets h p lh lp at a.last b.last a.over b.over (steps_of h Host at a.steps a.runs) _ _ power_on [] (steps_of p Para at b.steps b.runs) all_joined.answered

  listed : SameAccesses all (events_of entries)
  listed = same_by_accesses all entries all_joined.same

  pub brought_back : IsLike (reference h p s t at) (after_entries u v entries)
  brought_back =
      like_on (alike (ap (λ w. close_both_leaves h p at w) reached))
      (record { host = sym host_follows.follows.ends; para = sym para_follows.follows.ends; chip = all_joined.chip; listed = listed })

  -- it continues as from there
  alike_there : (n : ℕ) → at ≤ n → IsAlike h p n stopped (after_entries u v entries)
  alike_there n le =
      record {
        host = subst (IsSame h n host_follows.follows.last) (sym host_follows.follows.ends) (same_shut h lh at n host_follows.follows.last le host_follows.follows.over);
        para = subst (IsSame p n para_follows.follows.last) (sym para_follows.follows.ends) (same_shut p lp at n para_follows.follows.last le para_follows.follows.over);
        chip = all_joined.chip;
        listed = listed;
      }

  -- ticks from the start are ticks from there
  from_there : (n : ℕ) → at ≤ n → ticks h p n 0 (start s t) ≡ ticks h p n 0 stopped
  from_there n le =
      let still : ticks h p at 0 stopped ≡ stopped =
      rest h p lh lp at 0 host_follows.follows.last para_follows.follows.last (after all) all (omega (arith, host_follows.follows.over)) (omega (arith, para_follows.follows.over)) in
      ticks_from h p at n le (start s t) ∙ ap (ticks h p (n - at) at) (reached ∙ sym still) ∙ sym (ticks_from h p at n le stopped)

  pub goes_on : (n : ℕ) → at ≤ n → IsLike (reference h p s t n) (reference_from h p (after_entries u v entries) n)
  goes_on n le =
      let w : World S T = ticks h p n 0 (start s t) in
      let same : IsAlike h p n w (ticks h p n 0 (after_entries u v entries)) =
      subst (λ x. IsAlike h p n x (ticks h p n 0 (after_entries u v entries))) (sym (from_there n le))
      (ticks_alike h p n n 0 stopped (after_entries u v entries) (alike_there n le)) in
      let far = so_far h p lh lp s t n in
      record { host = same.host.ends far.host_due; para = same.para.ends far.para_due; chip = same.chip; listed = same.listed }

pub brought_back_is_reference : {S T : Type 0} (h : Transitions S) (p : Transitions T) → IsLawful h → IsLawful p → BroughtBackIsReference h p
brought_back_is_reference h p lh lp s u t v entries at n le is =
    (brought_back h p lh lp s u t v entries at is, goes_on h p lh lp s u t v entries at is n le)
