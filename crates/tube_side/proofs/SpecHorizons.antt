-- The parasite speculates further, and learns what the host left of it.
use Rattle.std.proofs.Common.{Bool, IsTrue, IsFalse, ℕ, ◌≡◌, ◌⊎◌, ◌+◌, ◌<◌, ◌≤◌, max, nat_lt, cond, true, false, refl, sym, ◌∙◌, ap, subst, inl, inr, arith, List, [], ◌∷◌, ◌++◌}
use Rattle.std.proofs.Common.{length, drop, append_assoc}
use Rattle.std.proofs.lemmas.List.{append-nil}
use Rattle.std.proofs.lemmas.Bool.{cases_lt}
use Rattle.beeb_bits.specs.declared.Side.{Side}
use Rattle.beeb_bits.specs.declared.Side.TheVariants.{Para}
use Rattle.tube_chip.specs.State.{State}
use Rattle.tube_chip.specs.Events.{Event}
use Rattle.tube_cell.specs.Views.{word_of_other, own_bound, past_last, below, horizon, readings_of}
use Rattle.tube_cell.specs.Rules.{SpecHorizons}
use Rattle.tube_cell.specs.Passes.{PassState, own_horizon, after_publish, after_speculate, Learns}
use Rattle.tube_cell.specs.Steps.{Watches}
use Rattle.tube_side.specs.CodeSteps.{all_events}
use Rattle.tube_side.specs.CodeSpeculation.{Speculation, IsSpeculation}
use Rattle.tube_side.specs.CodeSpecHorizon.{from_on, IsSpeculating, HasSpeculated, HasPassed}
use Rattle.tube_cell.proofs.Law.{by_lt, nat_lt-true, nat_lt-false}
use Rattle.tube_cell.proofs.Grows.{spec_horizons_fall, past_append}

-- ---- parts of a list

-- the part up to t, and the rest from t on
below_and_rest : (t : ℕ) (es : List Event) → below t es ++ drop (length (below t es)) es ≡ es
below_and_rest t [] = refl
below_and_rest t (e ∷ es) = elim (nat_lt e.tick t) as (λ b. cond b (e ∷ below t es) [] ++ drop (length (cond b (e ∷ below t es) [])) (e ∷ es) ≡ e ∷ es) [
  | true ↦ ap (λ l. e ∷ l) (below_and_rest t es)
  | false ↦ refl
]

-- the parts up to f and from there to t are the part up to t
join_parts : (f t : ℕ) (es : List Event) → f ≤ t → below f es ++ below t (from_on f es) ≡ below t es
join_parts f t [] le = refl
join_parts f t (e ∷ es) le =
    by_lt e.tick f (λ b. cond b (e ∷ below f es) [] ++ below t (drop (length (cond b (e ∷ below f es) [])) (e ∷ es)) ≡ below t (e ∷ es))
    (λ lt. rw (nat_lt-true e.tick t (omega arith)) (ap (λ l. e ∷ l) (join_parts f t es le)))
    (λ le. refl)

-- the part from f to a, and the rest from a on, are the part from f on
join_rest : (f a : ℕ) (es : List Event) → f ≤ a → from_on f (below a es) ++ from_on a es ≡ from_on f es
join_rest f a [] le = refl
join_rest f a (e ∷ es) le =
    by_lt e.tick a (λ b. from_on f (cond b (e ∷ below a es) []) ++ drop (length (cond b (e ∷ below a es) [])) (e ∷ es) ≡ from_on f (e ∷ es))
    (λ lt. elim (nat_lt e.tick f) as (λ b. drop (length (cond b (e ∷ below f (below a es)) [])) (e ∷ below a es) ++ from_on a es
    ≡ drop (length (cond b (e ∷ below f es) [])) (e ∷ es)) [
      | true ↦ join_rest f a es le
      | false ↦ ap (λ l. e ∷ l) (below_and_rest a es)
    ])
    (λ late. sym (rw (nat_lt-false e.tick f (omega arith)) refl))

-- nothing is left from the end of a part on
none_left : (t : ℕ) (es : List Event) → from_on t (below t es) ≡ []
none_left t [] = refl
none_left t (e ∷ es) =
    (elim (nat_lt e.tick t) as (λ b. nat_lt e.tick t ≡ b → from_on t (cond b (e ∷ below t es) []) ≡ []) [
      | true ↦ λ h. rw h (none_left t es)
      | false ↦ λ h. refl
    ]) refl

watch_from : (side : Side) (from more : ℕ) (c : State) (es : List Event) (end : ℕ) → Watches side from c es end → more ≤ from → Watches side more c es end
watch_from side from more c [] end h le = tt
watch_from side from more c (e ∷ es) end h le = (h.0, h.1, (omega arith), h.3, h.4, h.5)

watch_rest : (side : Side) (t from : ℕ) (c : State) (es : List Event) (end : ℕ) → Watches side from c es end → Watches side (max t from) c (from_on t es) end
watch_rest side t from c [] end h = tt
watch_rest side t from c (e ∷ es) end h =
    by_lt e.tick t (λ b. Watches side (max t from) c (drop (length (cond b (e ∷ below t es) [])) (e ∷ es)) end)
    (λ lt. watch_from _ _ (max t from) c _ _ (watch_rest side t (e.tick + 1) c es end h.5) (omega arith))
    (λ le. (h.0, h.1, (omega arith), h.3, h.4, h.5))

-- all are left from the beginning on
all_left : (es : List Event) → from_on 0 es ≡ es
all_left [] = refl
all_left (e ∷ es) = rw (nat_lt-false e.tick 0 (omega arith)) refl

module _ {w : Speculation} (law : IsSpeculation w) (base : List Event) where
  abbrev made : ℕ → List Event
  made t = w.until t

  part : (t limit : ℕ) → t ≤ limit → below t (made limit) ≡ made t
  part t limit le = law.part t limit le

  -- what may join the list speculatively next
  pub may_speculate : (p : PassState) (t : ℕ) → own_horizon p ≤ max p.known.spec_horizon w.tick → w.readings ≡ readings_of p.known.chip
      → Watches Para (own_horizon p) p.known.chip (from_on p.known.spec_horizon (made t)) t
  may_speculate p t low same =
      watch_from _ _ (own_horizon p) _ _ t (watch_rest _ p.known.spec_horizon _ _ _ t (law.watches p.known.chip t same)) low

  pub speculating_more : {p q : PassState} (t : ℕ) → IsSpeculating w base p → p.known.spec_horizon ≤ t
      → q ≡ after_speculate p (from_on p.known.spec_horizon (made t)) t → IsSpeculating w base q
  speculating_more {p} t is le q_is =
      subst (λ x. IsSpeculating w base x) (sym q_is) (record {
        confirmed = is.confirmed;
        events = is.events;
        speculative =
            ap (λ l. l ++ from_on p.known.spec_horizon (made t)) (is.speculative ∙ ap (from_on is.confirmed) (sym (part p.known.spec_horizon t le)))
            ∙ join_rest is.confirmed p.known.spec_horizon (made t) is.order;
        passed = is.passed;
        order = omega arith;
      })

  -- what a learn leaves: nothing new is known; or the host has reached the present speculative
  -- horizon, and what lies below it is confirmed
  abbrev Learnt : PassState → PassState → Type 0
  Learnt p q = ((q.known.host < q.known.spec_horizon) × (q.known.spec_horizon ≡ p.known.spec_horizon))
      ⊎ ((q.known.spec_horizon ≤ q.known.host) × (q.speculative ≡ []) × (q.events ≡ base ++ made q.known.spec_horizon))

  pub speculating_learned : {p q : PassState} → p.side ≡ Para → IsSpeculating w base p → Learns p q → IsSpeculating w base q × Learnt p q
  speculating_learned {p} {q} side is learns = go (rw side at learns.spec_horizon) (cases_lt q.known.host q.known.spec_horizon)
    where
      host_up : p.known.host ≤ q.known.host
      host_up = rw side at learns.other_word

      settled : (t : ℕ) → t ≡ q.known.spec_horizon → t ≤ q.known.host → q.speculative ≡ [] → q.events ≡ base ++ made t → IsSpeculating w base q × Learnt p q
      settled t t_is le none events =
          let same : q.events ≡ base ++ made q.known.spec_horizon = events ∙ ap (λ x. base ++ made x) t_is in (
            record {
              confirmed = q.known.spec_horizon;
              events = same;
              speculative =
                  none ∙ sym (ap (from_on q.known.spec_horizon) (sym (part q.known.spec_horizon q.known.spec_horizon (omega arith))) ∙ none_left q.known.spec_horizon (made q.known.spec_horizon));
              passed = omega arith;
              order = omega arith;
            },
            inr (omega arith, none, same),
          )

      go : SpecHorizons Para p.known q.known → (q.known.host < q.known.spec_horizon) ⊎ (q.known.spec_horizon ≤ q.known.host) → IsSpeculating w base q × Learnt p q
      go (inl same) (inl lt) =
          let k = learns.stays lt in
          let h = is.passed in
          let up = host_up in (
            record {
              confirmed = is.confirmed;
              events = k.0 ∙ is.events;
              speculative = k.1 ∙ is.speculative ∙ ap (λ t. from_on is.confirmed (made t)) (sym same);
              passed = omega arith;
              order = omega arith;
            },
            inl (lt, same),
          )
      go (inl same) (inr le) =
          let k = learns.settled same le in
          let all : made is.confirmed ++ from_on is.confirmed (made p.known.spec_horizon) ≡ made p.known.spec_horizon =
          ap (λ l. l ++ from_on is.confirmed (made p.known.spec_horizon)) (sym (part is.confirmed p.known.spec_horizon is.order)) ∙ below_and_rest is.confirmed (made p.known.spec_horizon) in
          settled p.known.spec_horizon (sym same) (omega arith) k.1
          (k.0 ∙ (λ i. is.events i ++ is.speculative i) ∙ append_assoc base (made is.confirmed) (from_on is.confirmed (made p.known.spec_horizon)) ∙ ap (λ l. base ++ l) all)
      go (inr taken) side_of =
          let k = learns.taken taken.1 in
          let t = q.known.spec_horizon in
          let all : made is.confirmed ++ below t (from_on is.confirmed (made p.known.spec_horizon)) ≡ made t =
          ap (λ l. l ++ below t (from_on is.confirmed (made p.known.spec_horizon))) (sym (part is.confirmed p.known.spec_horizon is.order))
          ∙ join_parts is.confirmed t (made p.known.spec_horizon) (omega arith)
          ∙ part t p.known.spec_horizon (omega arith) in
          settled t refl (omega arith) k.1
          (k.0 ∙ (λ i. is.events i ++ below t (is.speculative i)) ∙ append_assoc base (made is.confirmed) (below t (from_on is.confirmed (made p.known.spec_horizon))) ∙ ap (λ l. base ++ l) all)

-- ---- the state of the parasite

own_of : (p : PassState) → p.side ≡ Para → own_horizon p ≡ max (max p.known.para p.known.spec_horizon) (past_last (p.events ++ p.ahead))
own_of p side = ap (λ x. horizon (own_bound x p.known) (p.events ++ p.ahead)) side

module _ {w : Speculation} (law : IsSpeculation w) (t : ℕ) (p : PassState) where
  -- the first stride was published
  pub told_first : {q : PassState} {h : ℕ} → p.side ≡ Para → p.speculative ≡ [] → h ≡ w.tick → own_horizon p ≤ h → h ≤ t
      → q ≡ after_speculate (after_publish p h) (w.until t) t → HasSpeculated w t p q
  told_first {q} {h} side none h_is low far is =
      let own_is = own_of p side in
      let spec_horizon : q.known.spec_horizon ≡ t = ap (λ x. x.known.spec_horizon) is in
      let para : q.known.para ≡ h = ap (λ x. x.known.para) is ∙ para_of p side in
      record {
        cell = ap (λ x. x.cell) is;
        side = ap (λ x. x.side) is;
        ahead = ap (λ x. x.ahead) is;
        far = omega arith;
        spec_horizon = omega arith;
        para = omega arith;
        base = omega arith;
        speculating = record {
          confirmed = 0;
          events = ap (λ x. x.events) is ∙ sym (append-nil (all_events p)) ∙ ap (λ l. all_events p ++ l) (sym law.none);
          speculative = ap (λ x. x.speculative) is ∙ ap (λ l. l ++ w.until t) none ∙ sym (all_left (w.until t)) ∙ ap (λ x. from_on 0 (w.until x)) (sym spec_horizon);
          passed = omega arith;
          order = omega arith;
        };
      }
    where
      para_of : (x : PassState) → x.side ≡ Para → (after_publish x h).known.para ≡ h
      para_of x at = rw at refl

  -- its horizon
  pub told_low : {q : PassState} → q.side ≡ Para → HasSpeculated w t p q → own_horizon q ≤ max q.known.spec_horizon (w.tick)
  told_low {q} side told =
      let is = told.speculating in
      let own_is = own_of q side in
      let events : q.events ++ q.ahead ≡ all_events p ++ w.until is.confirmed = (λ i. is.events i ++ told.ahead i) ∙ append-nil (all_events p ++ w.until is.confirmed) in
      let same : past_last (q.events ++ q.ahead) ≡ past_last (all_events p ++ w.until is.confirmed) = ap past_last events in
      let most = past_append is.confirmed (all_events p) (w.until is.confirmed) (law.low is.confirmed) in
      omega arith

  -- the strides since then were published too
  pub told_more : {q r : PassState} → HasSpeculated w t p q → r ≡ after_speculate q (from_on q.known.spec_horizon (w.until t)) t → HasSpeculated w t p r
  told_more {q} {r} told is =
      let spec_horizon : r.known.spec_horizon ≡ t = ap (λ x. x.known.spec_horizon) is in
      let para : r.known.para ≡ q.known.para = ap (λ x. x.known.para) is in
      record {
        cell = ap (λ x. x.cell) is ∙ told.cell;
        side = ap (λ x. x.side) is ∙ told.side;
        ahead = ap (λ x. x.ahead) is ∙ told.ahead;
        far = told.far;
        spec_horizon = omega arith;
        para = omega arith;
        base = told.base;
        speculating = speculating_more law _ t told.speculating told.spec_horizon is;
      }

  -- words were found
  pub told_learned : {q r : PassState} → q.side ≡ Para → HasSpeculated w t p q → Learns q r → HasSpeculated w t p r
  told_learned {q} {r} side told learns =
      let fell = spec_horizons_fall q.known r.known (rw side at learns.spec_horizon) in
      let para : r.known.para ≡ q.known.para = rw side at learns.own_word in
      record {
        cell = ap (λ x. x.cell) learns.rest ∙ told.cell;
        side = ap (λ x. x.side) learns.rest ∙ told.side;
        ahead = ap (λ x. x.ahead) learns.rest ∙ told.ahead;
        far = told.far;
        spec_horizon = omega arith;
        para = omega arith;
        base = told.base;
        speculating = (speculating_learned law _ side told.speculating learns).0;
      }

  -- the host has reached the speculative horizon
  pub passed_learned : {q r : PassState} → q.side ≡ Para → HasSpeculated w t p q → Learns q r → r.known.spec_horizon ≤ r.known.host → HasPassed w t p r
  passed_learned {q} {r} side told learns le =
      let more = told_learned side told learns in
      let ends = go (speculating_learned law (all_events p) side told.speculating learns).1 in
      record { told = more; speculative = ends.0; events = ends.1; later = told_low (ap (λ x. x.side) learns.rest ∙ side) more }
    where
      go : Learnt law (all_events p) q r → (r.speculative ≡ []) × (r.events ≡ all_events p ++ w.until r.known.spec_horizon)
      go (inl x) = absurd (omega arith)
      go (inr x) = (x.1, x.2)

pub passed_of : {q r : PassState} {a b : ℕ} → q.side ≡ Para → Learns q r → a ≡ r.known.spec_horizon → b ≡ word_of_other r.side r.known → a ≤ b
    → r.known.spec_horizon ≤ r.known.host
passed_of {r} {b} side learns a_is b_is le =
    let at : r.side ≡ Para = ap (λ x. x.side) learns.rest ∙ side in
    let host : b ≡ r.known.host = b_is ∙ ap (λ x. word_of_other x r.known) at in
    omega arith

-- it holds in both cases
pub tried_told : {w : Speculation} (law : IsSpeculation w) {t : ℕ} {p q : PassState} (r : PassState) (done : Bool) → q.side ≡ Para → HasSpeculated w t p q
    → (IsTrue done → r ≡ after_speculate q (from_on q.known.spec_horizon (w.until t)) t) → (IsFalse done → Learns q r) → HasSpeculated w t p r
tried_told law {t} {p} r true side told f g = told_more law t p told (f refl)
tried_told law {t} {p} r false side told f g = told_learned law t p side told (g refl)

pub tried_seat : (q r : PassState) (done : Bool) (t : ℕ) (looks : List Event) → (IsTrue done → r ≡ after_speculate q looks t)
    → (IsFalse done → Learns q r) → (r.cell ≡ q.cell) × (r.side ≡ q.side)
tried_seat q r done t looks f g = grind arith
