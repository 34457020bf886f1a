-- Two parties whose steps use up a merge that the chip answers leave what the reference leaves.
use Rattle.std.proofs.Common.{ℕ, ◌≡◌, ◌<◌, ◌≤◌, ◌⊎◌, inl, inr, refl, sym, ◌∙◌, ap, arith, List, [], ◌∷◌, ◌++◌, Some}
use Rattle.std.proofs.lemmas.Bool.{lt-ltb, le-ltb}
use Rattle.std.proofs.lemmas.List.{append-nil}
use Rattle.std.proofs.Math.Seq.{append_snoc}
use Rattle.tube_chip.specs.State.{State, power_on}
use Rattle.tube_chip.specs.Act.{Query, act}
use Rattle.tube_chip.specs.Events.{Event, merge, after, after_from, IsAnsweredFrom}
use Rattle.tube_chip.specs.declared.Answer.{Answer}
use Rattle.beeb_bits.specs.declared.Side.TheVariants.{Host, Para}
use Rattle.tube_party.specs.Transitions.{Transitions, IsLawful, close_leaves}
use Rattle.tube_party.specs.Reference.{step_leaves, with_host, ticks, close_both_leaves, LegalMergeIsReference}
use Rattle.tube_party.proofs.Runs.{event, Steps, Over, Silent, Asking, steps_of}
use Rattle.tube_party.proofs.Ticks.{seat, world, host_done, rest, host_next, host_silent, para_next, para_silent}

pub merge_first : (a b : Event) (host para : List Event) → a.tick ≤ b.tick → merge (a ∷ host) (b ∷ para) ≡ a ∷ merge host (b ∷ para)
merge_first a b host para le = rw (le-ltb b.tick a.tick le) refl

pub merge_second : (a b : Event) (host para : List Event) → b.tick < a.tick → merge (a ∷ host) (b ∷ para) ≡ b ∷ merge (a ∷ host) para
merge_second a b host para lt = rw (lt-ltb b.tick a.tick lt) refl

module _ {S T : Type 0} (h : Transitions S) (p : Transitions T) (lh : IsLawful h) (lp : IsLawful p) (n : ℕ) (m : S) (v : T) (over_m : n ≤ h.due m) (over_v : n ≤ p.due v) where
  -- from here the reference does exactly the events
  abbrev Goes : S → T → State → List Event → List Event → Type 0
  Goes s t c l events = ticks h p n 0 (world s t c l) ≡ world m v (after_from c events) (l ++ events)

  -- the host's event comes first
  host_event : (s : S) (t : T) (c : State) (l : List Event) (q : Query) (a : Answer) (others : List Event)
      → h.due s < n → h.due s ≤ p.due t → h.asks s ≡ Some q
      → IsAnsweredFrom c (event (h.due s) Host q a ∷ others)
      → (IsAnsweredFrom (act c Host q).0 others → Goes (h.next s (Some a)) t (act c Host q).0 (l ++ event (h.due s) Host q a ∷ []) others)
      → Goes s t c l (event (h.due s) Host q a ∷ others)
  host_event s t c l q a others lt first is answered on =
      host_next h p lh lp n 0 s t c l (omega arith) (omega arith) first
      ∙ ap (λ o. ticks h p n 0 (host_done (step_leaves h Host (seat s c l) o) t)) is
      ∙ ap (λ x. ticks h p n 0 (world (h.next s (Some x)) t (act c Host q).0 (l ++ event (h.due s) Host q x ∷ []))) answered.0
      ∙ on answered.1
      ∙ ap (world m v (after_from (act c Host q).0 others)) (append_snoc l (event (h.due s) Host q a) others)

  para_event : (s : S) (t : T) (c : State) (l : List Event) (q : Query) (a : Answer) (others : List Event)
      → p.due t < n → p.due t < h.due s → p.asks t ≡ Some q
      → IsAnsweredFrom c (event (p.due t) Para q a ∷ others)
      → (IsAnsweredFrom (act c Para q).0 others → Goes s (p.next t (Some a)) (act c Para q).0 (l ++ event (p.due t) Para q a ∷ []) others)
      → Goes s t c l (event (p.due t) Para q a ∷ others)
  para_event s t c l q a others lt first is answered on =
      para_next h p lh lp n 0 s t c l (omega arith) (omega arith) first
      ∙ ap (λ o. ticks h p n 0 (with_host s (step_leaves p Para (seat t c l) o))) is
      ∙ ap (λ x. ticks h p n 0 (world s (p.next t (Some x)) (act c Para q).0 (l ++ event (p.due t) Para q x ∷ []))) answered.0
      ∙ on answered.1
      ∙ ap (world m v (after_from (act c Para q).0 others)) (append_snoc l (event (p.due t) Para q a) others)

  by_tick : (x y : ℕ) → (x ≤ y) ⊎ (y < x)
  by_tick x y = grind arith

  -- from s and with its events the parasite's steps meet
  abbrev Meets : S → List Event → Type 0
  Meets s a = (t : T) (b : List Event) (c : State) (l : List Event) → Steps p Para n v t b → IsAnsweredFrom c (merge a b) → Goes s t c l (merge a b)

  -- the host is done
  host_over : Meets m []
  host_over t b c l Over ok = rest h p lh lp n 0 m v c l (omega arith) (omega arith) ∙ ap (world m v c) (sym (append-nil l))
  host_over t b c l (Silent low none on) ok = para_silent h p lh lp n 0 m t c l (omega arith) (omega arith) none ∙ host_over _ _ c l on ok
  host_over t b c l (Asking {others = others} q a low is on) ok =
      para_event m t c l q a others low (omega arith) is ok (host_over _ _ (act c Para q).0 (l ++ event (p.due t) Para q a ∷ []) on)

  -- the host's step asks
  module _ (s : S) (q : Query) (a : Answer) (others : List Event) (low : h.due s < n) (is : h.asks s ≡ Some q) (after : Meets (h.next s (Some a)) others) where
    host_asks : Meets s (event (h.due s) Host q a ∷ others)
    host_asks t b c l Over =
        λ ok. host_event s v c l q a (merge others []) low (omega arith) is ok (after _ _ (act c Host q).0 (l ++ event (h.due s) Host q a ∷ []) Over)
    host_asks t b c l (Silent lt none on) = λ ok. para_silent h p lh lp n 0 s t c l (omega arith) (omega arith) none ∙ host_asks _ _ c l on ok
    host_asks t b c l (Asking {others = more} r x lt asks on) =
        let e : Event = event (h.due s) Host q a in
        let y : Event = event (p.due t) Para r x in
        elim (by_tick (h.due s) (p.due t)) [
          | inl le ↦
              rw (merge_first e y others more le)
              (λ ok. host_event s t c l q a (merge others (y ∷ more)) low le is ok (after _ _ (act c Host q).0 (l ++ e ∷ []) (Asking r x lt asks on)))
          | inr gt ↦
              rw (merge_second e y others more gt)
              (λ ok. para_event s t c l r x (merge (e ∷ others) more) lt gt asks ok (host_asks _ _ (act c Para r).0 (l ++ y ∷ []) on))
        ]

  pub meets : {s : S} {a : List Event} → Steps h Host n m s a → Meets s a
  meets Over = host_over
  meets (Silent {s = s} low none on) = λ t b c l para ok. host_silent h p lh lp n 0 s t c l (omega arith) (omega arith) none ∙ meets on t b c l para ok
  meets (Asking {s = s} {others = others} q a low is on) = host_asks s q a others low is (meets on)

pub legal_merge : {S T : Type 0} (h : Transitions S) (p : Transitions T) → IsLawful h → IsLawful p → LegalMergeIsReference h p
legal_merge h p lh lp s u t v a b n fa fb legal =
    ap (close_both_leaves h p n)
    (meets h p lh lp n fa.last fb.last fa.over fb.over (steps_of h Host n fa.steps fa.runs) _ _ power_on [] (steps_of p Para n fb.steps fb.runs) legal.answered)
    ∙ ap (λ x. record { host = x; para = close_leaves p fb.last n; chip = after (merge a b); list = merge a b }) (sym fa.ends)
    ∙ ap (λ y. record { host = u; para = y; chip = after (merge a b); list = merge a b }) (sym fb.ends)
