-- The reference run's parties follow their sides of its list.
use Rattle.std.proofs.Common.{ℕ, zero, suc, ◌≡◌, ◌+◌, ◌<◌, ◌≤◌, inl, inr, refl, sym, ◌∙◌, ap, subst, arith, true, false, if◌then◌else◌, List, [], ◌∷◌, ◌++◌, Option, None, Some}
use Rattle.std.specs.Prelude.{All, IsTrue}
use Rattle.std.proofs.lemmas.List.{append-nil}
use Rattle.std.proofs.lemmas.List.Elements.{All-nil}
use Rattle.std.proofs.lemmas.Bool.Decides.{nat_tests}
use Rattle.beeb_bits.specs.Order.{before}
use Rattle.beeb_bits.specs.declared.Side.{Side}
use Rattle.beeb_bits.specs.declared.Side.TheVariants.{Host, Para}
use Rattle.tube_chip.specs.Act.{Query, act}
use Rattle.tube_chip.specs.declared.Answer.{Answer}
use Rattle.tube_chip.specs.Events.{Event, of_side, is_side}
use Rattle.tube_party.specs.Transitions.{Transitions, IsLawful}
use Rattle.tube_party.specs.Reference.{Seat, World, step_leaves, step_if_due, tick, ticks, start, reference, IsFollowed, ReferenceIsFollowed}
use Rattle.tube_party.proofs.Runs.{event, Steps, Over, Silent, Asking, runs_of, steps_append}
use Rattle.tube_party.proofs.Kept.{of_side-append}
use Rattle.tube_party.proofs.Ticks.{seat, same_or_above, still, now}
use Rattle.tube_party.proofs.Listed.{IsEarlier, Listed, listed_on, listed_more}

pub side_self : (side : Side) → is_side side side ≡ true
side_self Host = refl
side_self Para = refl

-- the event joins its own side's events
own_event : (side : Side) (l : List Event) (e : Event) → e.side ≡ side → of_side side (l ++ e ∷ []) ≡ of_side side l ++ e ∷ []
own_event side l e is =
    of_side-append side l (e ∷ [])
    ∙ ap (λ b. of_side side l ++ (if b then e ∷ [] else [])) (ap (is_side side) is ∙ side_self side)

-- and leaves the other's
other_event : (side : Side) (l : List Event) (e : Event) → is_side side e.side ≡ false → of_side side (l ++ e ∷ []) ≡ of_side side l
other_event side l e is =
    of_side-append side l (e ∷ [])
    ∙ ap (λ b. of_side side l ++ (if b then e ∷ [] else [])) is
    ∙ append-nil (of_side side l)

-- a side's part of a tick
module _ {S : Type 0} (m : Transitions S) (lm : IsLawful m) (side : Side) (n : ℕ) (s : S) (k : ℕ) (low : k < n) (i : ℕ) (to : Side) (on : IsTrue (before k side i to)) where
  -- what it leaves
  record Parted (x y : Seat S) : Type 0 where
    pub runs : Steps m side n y.state s (of_side side y.list)
    pub due : k < m.due y.state
    pub listed : Listed i to y.chip y.list
    pub other : (o : Side) → is_side o side ≡ false → of_side o y.list ≡ of_side o x.list

  stepped_parts : (x : Seat S) (o : Option Query) → m.due x.state ≡ k → m.asks x.state ≡ o → Steps m side n x.state s (of_side side x.list) → Listed k side x.chip x.list
      → Parted x (step_leaves m side x o)
  stepped_parts x None here is runs listed =
      let rise = lm.rises x.state None in
      record {
        runs = rw append-nil at (steps_append m side n n (omega arith) runs (Silent (omega arith) is Over));
        due = omega arith;
        listed = listed_on k i side to x.chip x.list on listed;
        other = λ o ne. refl;
      }
  stepped_parts x (Some q) here is runs listed =
      let a : Answer = (act x.chip side q).1 in
      let rise = lm.rises x.state (Some a) in
      let e : Event = event (m.due x.state) side q a in
      record {
        runs = rw (own_event side x.list e refl) (steps_append m side n n (omega arith) runs (Asking q a (omega arith) is Over));
        due = omega arith;
        listed = rw here (listed_more k i side to x.chip x.list q on listed);
        other = λ o ne. other_event o x.list e ne;
      }

  part : (x : Seat S) → Steps m side n x.state s (of_side side x.list) → k ≤ m.due x.state → Listed k side x.chip x.list → Parted x (step_if_due m side k x)
  part x runs due listed = elim (same_or_above (m.due x.state) k due) [
    | inl here ↦ subst (Parted x) (sym (now m side k x here)) (stepped_parts x (m.asks x.state) here refl runs listed)
    | inr up ↦
        subst (Parted x) (sym (still m side k x up)) (record { runs = runs; due = up; listed = listed_on k i side to x.chip x.list on listed; other = λ o no. refl })
  ]

module _ {S T : Type 0} (h : Transitions S) (p : Transitions T) (lh : IsLawful h) (lp : IsLawful p) (s : S) (t : T) (n : ℕ) where
  -- the reference run before tick k
  pub record SoFar (k : ℕ) (w : World S T) : Type 0 where
    pub host_runs : Steps h Host n w.host s (of_side Host w.list)
    pub para_runs : Steps p Para n w.para t (of_side Para w.list)
    pub host_due : k ≤ h.due w.host
    pub para_due : k ≤ p.due w.para
    pub listed : Listed k Host w.chip w.list

  one_tick : (k : ℕ) (w : World S T) → k < n → SoFar k w → SoFar (k + 1) (tick h p k w)
  one_tick k w low x =
      let host_first : IsTrue (before k Host k Para) = grind (arith, nat_tests) in
      let next : IsTrue (before k Para (k + 1) Host) = grind (arith, nat_tests) in
      let a : Seat S = step_if_due h Host k (seat w.host w.chip w.list) in
      let one = part h lh Host n s k low k Para host_first (seat w.host w.chip w.list) x.host_runs x.host_due x.listed in
      let para_runs : Steps p Para n w.para t (of_side Para a.list) = rw (one.other Para refl) x.para_runs in
      let b : Seat T = step_if_due p Para k (seat w.para a.chip a.list) in
      let two = part p lp Para n t k low (k + 1) Host next (seat w.para a.chip a.list) para_runs x.para_due one.listed in
      record {
        host_runs = rw (two.other Host refl) one.runs;
        para_runs = two.runs;
        host_due = omega (arith, one.due);
        para_due = omega (arith, two.due);
        listed = two.listed;
      }

  all_ticks : (j k : ℕ) (w : World S T) → k + j ≤ n → SoFar k w → SoFar (k + j) (ticks h p j k w)
  all_ticks zero k w le x = subst (λ i. SoFar i w) (omega arith) x
  all_ticks (suc j) k w le x =
      subst (λ i. SoFar i (ticks h p j (k + 1) (tick h p k w))) (omega arith)
      (all_ticks j (k + 1) (tick h p k w) (omega arith) (one_tick k w (omega arith) x))

  pub so_far : SoFar n (ticks h p n 0 (start s t))
  so_far =
      subst (λ i. SoFar i (ticks h p n 0 (start s t))) (omega arith)
      (all_ticks n 0 (start s t) (omega arith)
      (record {
        host_runs = Over;
        para_runs = Over;
        host_due = omega arith;
        para_due = omega arith;
        listed = record { rises = tt; answered = tt; chip = refl; earlier = All-nil (IsEarlier 0 Host) };
      }))

  pub followed : IsFollowed h p s t n (reference h p s t n)
  followed =
      let host = runs_of h Host n so_far.host_runs in
      let para = runs_of p Para n so_far.para_runs in
      record {
        host = record { steps = host.0; last = (ticks h p n 0 (start s t)).host; runs = host.1; over = so_far.host_due; ends = refl };
        para = record { steps = para.0; last = (ticks h p n 0 (start s t)).para; runs = para.1; over = so_far.para_due; ends = refl };
        legal = record { rises = so_far.listed.rises; answered = so_far.listed.answered };
        chip = so_far.listed.chip;
      }

pub all_earlier : {S T : Type 0} (h : Transitions S) (p : Transitions T) → IsLawful h → IsLawful p → (s : S) (t : T) (n : ℕ) → All (IsEarlier n Host) (reference h p s t n).list
all_earlier h p lh lp s t n = (so_far h p lh lp s t n).listed.earlier

pub reference_followed : {S T : Type 0} (h : Transitions S) (p : Transitions T) → IsLawful h → IsLawful p → ReferenceIsFollowed h p
reference_followed h p lh lp s t n = followed h p lh lp s t n
