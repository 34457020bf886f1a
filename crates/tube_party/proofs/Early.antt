-- A step of the host may come early, before steps of the parasite to which the chip shows the same
-- before and after it. The reference then continues alike, but for the order of the host's and the
-- parasite's events in its list. So may a look of a host that sees its own request alone, while
-- none is enabled.
use Rattle.std.proofs.Common.{ℕ, zero, suc, ◌≡◌, ◌+◌, ◌<◌, ◌≤◌, nat_eq, inl, inr, refl, sym, ◌∙◌, ap, arith, Bool, true, false, List, [], ◌∷◌, ◌++◌, append_assoc, Option, None, Some}
use Rattle.std.specs.Prelude.{All, ◌&&◌, not}
use Rattle.std.proofs.lemmas.List.{append-nil}
use Rattle.std.proofs.lemmas.List.Elements.{All-head, All-tail}
use Rattle.std.proofs.lemmas.Bool.{cases_lt}
use Rattle.tube_chip.specs.State.{State, is_empty, lines_of}
use Rattle.tube_chip.specs.declared.Answer.TheVariants.{Seen}
use Rattle.tube_chip.specs.Act.{Query, look, act}
use Rattle.tube_chip.specs.Events.{Event, of_side}
use Rattle.tube_chip.specs.declared.Answer.{Answer}
use Rattle.beeb_bits.specs.declared.Side.{Side}
use Rattle.beeb_bits.specs.declared.Side.TheVariants.{Host, Para}
use Rattle.tube_trace.specs.Entries.{accesses}
use Rattle.tube_party.specs.Transitions.{Transitions, IsLawful, SeesHirqAlone}
use Rattle.tube_party.specs.GoingOn.{IsLike}
use Rattle.tube_party.specs.Reference.{World, step_leaves, step_if_due, with_host, para_part, tick, ticks}
use Rattle.tube_party.proofs.Ticks.{seat, world, host_done, still, same_or_above, host_here, host_next, para_next, para_silent}
use Rattle.tube_party.proofs.Runs.{event, Steps, Over, Silent, Asking}
use Rattle.tube_party.proofs.Kept.{grows}
use Rattle.tube_party.proofs.Ways.{IsIdle, IsBelow, glance_leaves}

pub alike : {S T : Type 0} {w v : World S T} → w ≡ v → IsLike w v
alike e = grind arith

pub like_on : {S T : Type 0} {w v u : World S T} → IsLike w v → IsLike v u → IsLike w u
like_on a b = grind arith

-- the accesses of both sides
abbrev pub SameAccesses : List Event → List Event → Type 0
SameAccesses l m = (side : Side) → accesses (of_side side l) ≡ accesses (of_side side m)

pub same_after : (l m more : List Event) → SameAccesses l m → SameAccesses (l ++ more) (m ++ more)
same_after l m more same side = grows side l more ∙ ap (λ x. x ++ accesses (of_side side more)) (same side) ∙ sym (grows side m more)

-- an event of each side, in either order
swapped : (l : List Event) (t u : ℕ) (q r : Query) (a b : Answer) →
    SameAccesses ((l ++ event t Para q a ∷ []) ++ event u Host r b ∷ []) ((l ++ event u Host r b ∷ []) ++ event t Para q a ∷ [])
swapped l t u q r a b Host =
    let p : List Event = event t Para q a ∷ [] in
    let h : List Event = event u Host r b ∷ [] in
    grows Host (l ++ p) h
    ∙ ap (λ x. x ++ accesses (of_side Host h)) (grows Host l p ∙ append-nil (accesses (of_side Host l)))
    ∙ sym (grows Host (l ++ h) p ∙ append-nil (accesses (of_side Host (l ++ h))) ∙ grows Host l h)
swapped l t u q r a b Para =
    let p : List Event = event t Para q a ∷ [] in
    let h : List Event = event u Host r b ∷ [] in
    grows Para (l ++ p) h ∙ append-nil (accesses (of_side Para (l ++ p))) ∙ grows Para l p
    ∙ sym (grows Para (l ++ h) p ∙ ap (λ x. x ++ accesses (of_side Para p)) (grows Para l h ∙ append-nil (accesses (of_side Para l))))

-- a look is no access
pub no_access : (l : List Event) (t : ℕ) (a : Answer) → SameAccesses (l ++ event t Host look a ∷ []) l
no_access l t a Host = grows Host l (event t Host look a ∷ []) ∙ append-nil (accesses (of_side Host l))
no_access l t a Para = grows Para l (event t Host look a ∷ []) ∙ append-nil (accesses (of_side Para l))

-- so it may come before others
look_moved : (l more : List Event) (t : ℕ) (a b : Answer) → SameAccesses ((l ++ more) ++ event t Host look a ∷ []) ((l ++ event t Host look b ∷ []) ++ more)
look_moved l more t a b side =
    no_access (l ++ more) t a side ∙ grows side l more
    ∙ sym (grows side (l ++ event t Host look b ∷ []) more ∙ ap (λ x. x ++ accesses (of_side side more)) (no_access l t b side))

-- a chip that enables no request of the host makes none, and nothing that the parasite does enables
-- one
none_asked : (c : State) → c.flags.q ≡ false → (lines_of c).hirq ≡ false
none_asked c off = ap (λ b. b && not (is_empty c.to_host.r4)) off

-- what a step of a side does, for any list before it
record Form {S : Type 0} (m : Transitions S) (side : Side) (k : ℕ) (s : S) (c : State) : Type 0 where
  state : S
  chip : State
  more : List Event
  is : (l : List Event) → step_if_due m side k (seat s c l) ≡ seat state chip (l ++ more)

abbrev form_of_step : {S : Type 0} (m : Transitions S) (side : Side) (k : ℕ) (s : S) (c : State) (due : Bool) (o : Option Query) → nat_eq (m.due s) k ≡ due → m.asks s ≡ o
    → Form m side k s c
form_of_step m side k s c false o d q = record { state = s; chip = c; more = []; is = λ l. rw d (ap (seat s c) (sym (append-nil l))) }
form_of_step m side k s c true None d q = record
    { state = m.next s None; chip = c; more = []; is = λ l. rw (d, q) (ap (seat (m.next s None) c) (sym (append-nil l))) }
form_of_step m side k s c true (Some x) d q = record {
  state = m.next s (Some (act c side x).1);
  chip = (act c side x).0;
  more = event (m.due s) side x (act c side x).1 ∷ [];
  is = λ l. rw (d, q) refl;
}

module _ {S T : Type 0} (h : Transitions S) (p : Transitions T) (lh : IsLawful h) (lp : IsLawful p) where
  -- a tick, for any list before it
  record TickForm (k : ℕ) (s : S) (t : T) (c : State) : Type 0 where
    host : S
    para : T
    chip : State
    more : List Event
    is : (l : List Event) → tick h p k (world s t c l) ≡ world host para chip (l ++ more)

  tick_form : (k : ℕ) (s : S) (t : T) (c : State) → TickForm k s t c
  tick_form k s t c =
      let x = form_of_step h Host k s c (nat_eq (h.due s) k) (h.asks s) refl refl in
      let y = form_of_step p Para k t x.chip (nat_eq (p.due t) k) (p.asks t) refl refl in
      record {
        host = x.state;
        para = y.state;
        chip = y.chip;
        more = x.more ++ y.more;
        is = λ l.
            ap (λ z. para_part p k z t) (x.is l)
            ∙ ap (λ z. with_host x.state z) (y.is (l ++ x.more))
            ∙ ap (λ z. world x.state y.state y.chip z) (append_assoc l x.more y.more);
      }

  pub like_ticks : (j k : ℕ) (s : S) (t : T) (c : State) (l m : List Event) → SameAccesses l m
      → IsLike (ticks h p j k (world s t c l)) (ticks h p j k (world s t c m))
  like_ticks zero k s t c l m same = record { host = refl; para = refl; chip = refl; listed = same }
  like_ticks (suc j) k s t c l m same =
      let x = tick_form k s t c in
      let on = like_ticks j (k + 1) x.host x.para x.chip (l ++ x.more) (m ++ x.more) (same_after l m x.more same) in
      like_on (alike (ap (λ w. ticks h p j (k + 1) w) (x.is l)))
      (like_on on (alike (sym (ap (λ w. ticks h p j (k + 1) w) (x.is m)))))

  -- what the parasite's part of a tick leaves enables no request either
  still_off : (k : ℕ) (t : T) (c : State) (due : Bool) (o : Option Query) (d : nat_eq (p.due t) k ≡ due) (q : p.asks t ≡ o) → c.flags.q ≡ false
      → (form_of_step p Para k t c due o d q).chip.flags.q ≡ false
  still_off k t c due o d q off = grind arith

  look_at : (j k : ℕ) (s : S) (t : T) (c : State) (l : List Event) → SeesHirqAlone h → c.flags.q ≡ false → k ≤ h.due s → h.due s < k + j → h.asks s ≡ Some look
      → IsLike (ticks h p j k (world s t c l))
      (ticks h p j k (world (h.next s (Some (Seen (lines_of c)))) t c (l ++ event (h.due s) Host look (Seen (lines_of c)) ∷ [])))
  look_at zero k s t c l sees off lo hi asks = absurd (omega arith)
  look_at (suc j) k s t c l sees off lo hi asks =
      elim (same_or_above (h.due s) k lo) [
        | inl e ↦
            alike (host_here h p lh lp j k s t c l e
            ∙ ap (λ o. ticks h p (suc j) k (host_done (step_leaves h Host (seat s c l) o) t)) asks)
        | inr up ↦
            let a : Answer = Seen (lines_of c) in
            let onto : S = h.next s (Some a) in
            let rise = lh.rises s (Some a) in
            let f = form_of_step p Para k t c (nat_eq (p.due t) k) (p.asks t) refl refl in
            let b : Answer = Seen (lines_of f.chip) in
            let off_on : f.chip.flags.q ≡ false = still_off k t c (nat_eq (p.due t) k) (p.asks t) refl refl off in
            let on : (z : S) (m : List Event) → k < h.due z
            → ticks h p (suc j) k (world z t c m) ≡ ticks h p j (k + 1) (world z f.state f.chip (m ++ f.more)) = λ z m ne.
            ap (λ x. ticks h p j (k + 1) (para_part p k x t)) (still h Host k (seat z c m) ne)
            ∙ ap (λ y. ticks h p j (k + 1) (with_host z y)) (f.is m) in
            let same : h.next s (Some b) ≡ onto = sees s (lines_of f.chip) (lines_of c) (none_asked f.chip off_on ∙ sym (none_asked c off)) in
            like_on (alike (on s l up))
            (like_on (look_at j (k + 1) s f.state f.chip (l ++ f.more) sees off_on (omega arith) (omega arith) asks)
            (like_on
            (alike (ap (λ z. ticks h p j (k + 1) (world z f.state f.chip ((l ++ f.more) ++ event (h.due s) Host look b ∷ []))) same))
            (like_on (like_ticks j (k + 1) onto f.state f.chip ((l ++ f.more) ++ event (h.due s) Host look b ∷ [])
            ((l ++ event (h.due s) Host look a ∷ []) ++ f.more) (look_moved l f.more (h.due s) b a))
            (alike (sym (on onto (l ++ event (h.due s) Host look a ∷ []) (omega arith)))))))
      ]

  module _ (n : ℕ) where
    -- where the reference arrives from there
    abbrev pub onward : S → T → State → List Event → World S T
    onward s t c l = ticks h p n 0 (world s t c l)

    -- the parasite's step, which leaves the chip
    para_idle : (s : S) (t : T) (c : State) (l : List Event) (q : Query) (a : Answer) → p.due t < n → p.due t < h.due s → p.asks t ≡ Some q
        → IsIdle c (event (p.due t) Para q a)
        → onward s t c l ≡ onward s (p.next t (Some a)) c (l ++ event (p.due t) Para q a ∷ [])
    para_idle s t c l q a low first asks idle =
        para_next h p lh lp n 0 s t c l (omega arith) (omega arith) first
        ∙ ap (λ o. ticks h p n 0 (with_host s (step_leaves p Para (seat t c l) o))) asks
        ∙ ap (λ x. onward s (p.next t (Some (act c Para q).1)) x (l ++ event (p.due t) Para q (act c Para q).1 ∷ [])) (glance_leaves c q idle.0)
        ∙ ap (λ x. onward s (p.next t (Some x)) c (l ++ event (p.due t) Para q x ∷ [])) idle.1

    -- The parasite's steps before the host's next step are the reference's.
    pub para_does : (s : S) {last t : T} (c : State) (l : List Event) {events : List Event} → Steps p Para n last t events → All (IsIdle c) events
        → All (IsBelow (h.due s)) events → onward s t c l ≡ onward s last c (l ++ events)
    para_does s {last} c l Over idle early = ap (onward s last c) (sym (append-nil l))
    para_does s c l (Silent {s = t} low none on) idle early =
        para_silent h p lh lp n 0 s t c l (omega arith) (omega arith) none ∙ para_does s c l on idle early
    para_does s {last} c l (Asking {s = t} {others = others} q a low asks on) idle early =
        let e : Event = event (p.due t) Para q a in
        para_idle s t c l q a low (All-head (IsBelow (h.due s)) e others early) asks (All-head (IsIdle c) e others idle)
        ∙ para_does s c (l ++ e ∷ []) on (All-tail (IsIdle c) e others idle) (All-tail (IsBelow (h.due s)) e others early)
        ∙ ap (onward s last c) (append_assoc l (e ∷ []) others)

    -- The host's step, done at once.
    abbrev pub IsEarly : S → T → State → Query → List Event → Type 0
    IsEarly s t c q l =
        IsLike (onward s t c l) (onward (h.next s (Some (act c Host q).1)) t (act c Host q).0 (l ++ event (h.due s) Host q (act c Host q).1 ∷ []))

    host_first : (s : S) (t : T) (c : State) (q : Query) (l : List Event) → h.due s < n → h.due s ≤ p.due t → h.asks s ≡ Some q → IsEarly s t c q l
    host_first s t c q l low first asks =
        alike (host_next h p lh lp n 0 s t c l (omega arith) (omega arith) first
        ∙ ap (λ o. ticks h p n 0 (host_done (step_leaves h Host (seat s c l) o) t)) asks)

    -- if the chip shows all of the parasite's steps before it the same before and after it
    pub early_host : (s : S) {last t : T} (c : State) (q : Query) (l : List Event) {events : List Event} → h.due s < n → h.due s ≤ p.due last → h.asks s ≡ Some q
        → Steps p Para n last t events → All (IsIdle c) events → All (IsIdle (act c Host q).0) events → IsEarly s t c q l
    early_host s {last} c q l low first asks Over idle still = host_first s last c q l low first asks
    early_host s c q l low first asks (Silent {s = t} lt none on) idle still =
        let done : List Event = l ++ event (h.due s) Host q (act c Host q).1 ∷ [] in
        like_on (alike (para_silent h p lh lp n 0 s t c l (omega arith) (omega arith) none))
        (like_on (early_host s c q l low first asks on idle still)
        (alike (sym (para_silent h p lh lp n 0 (h.next s (Some (act c Host q).1)) t (act c Host q).0 done (omega arith) (omega arith) none))))
    early_host s c q l low first asks (Asking {s = t} {others = others} r a lt is on) idle still =
        let d : State = (act c Host q).0 in
        let b : Answer = (act c Host q).1 in
        let e : Event = event (p.due t) Para r a in
        let f : Event = event (h.due s) Host q b in
        let onto : S = h.next s (Some b) in
        let rise = lh.rises s (Some b) in
        elim (cases_lt (p.due t) (h.due s)) [
          | inr late ↦ host_first s t c q l low late asks
          | inl before ↦
              like_on (alike (para_idle s t c l r a lt before is (All-head (IsIdle c) e others idle)))
              (like_on (early_host s c q (l ++ e ∷ []) low first asks on (All-tail (IsIdle c) e others idle) (All-tail (IsIdle d) e others still))
              (like_on (like_ticks n 0 onto (p.next t (Some a)) d ((l ++ e ∷ []) ++ f ∷ []) ((l ++ f ∷ []) ++ e ∷ []) (swapped l (p.due t) (h.due s) r q a b))
              (alike (sym (para_idle onto t d (l ++ f ∷ []) r a lt (omega arith) is (All-head (IsIdle d) e others still))))))
        ]

    -- the look of a host that sees its own request alone, while none is enabled
    pub free_look : (s : S) (t : T) (c : State) (l : List Event) → SeesHirqAlone h → c.flags.q ≡ false → h.due s < n → h.asks s ≡ Some look
        → IsEarly s t c look l
    free_look s t c l sees off low asks = look_at n 0 s t c l sees off (omega arith) (omega arith) asks
