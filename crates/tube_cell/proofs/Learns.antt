-- What a load, or an exchange that failed, leaves of a pass.
use Rattle.std.proofs.Common.{◌≡◌, ◌≢◌, ℕ, ◌+◌, ◌<◌, ◌≤◌, min, Bool, true, false, cond, List, [], ◌∷◌, ◌++◌, refl, sym, ap, ◌∙◌, subst, inl, inr, arith, nat_le, append-nil}
use Rattle.std.proofs.lemmas.Bool.Decides.{nat_tests}
use Rattle.atomic_table.specs.Seated.{TableId}
use Rattle.beeb_bits.specs.declared.Side.{Side}
use Rattle.beeb_bits.specs.declared.Side.TheVariants.{Host, Para}
use Rattle.tube_chip.specs.State.{State}
use Rattle.tube_chip.specs.Events.{Event}
use Rattle.tube_chip.specs.Packing.{IsChip}
use Rattle.tube_cell.specs.Views.{AllBelow, CellSnapshot, words_of, one_side, View, word_of_other, own_bound, other_bound, bound_at, Admits, horizon, past_last}
use Rattle.tube_cell.specs.Views.{below, chip_after_event, same_readings, spec_horizon_after}
use Rattle.tube_cell.specs.Rules.{SpecHorizons, GoesOn, rise, confirmed, unconfirmed_events, Found}
use Rattle.tube_cell.specs.Passes.{PassState, pass_state_of, Learns, own_horizon, here}
use Rattle.tube_cell.specs.Steps.{Runs, IsPassOf, CutIs, Local, LocalAfter}
use Rattle.tube_cell.proofs.Law.{All-below}
use Rattle.tube_cell.proofs.Grows.{spec_horizons_fall, past_append, below_same}
use Rattle.tube_cell.proofs.Keeps.{confirmed_low}
use Rattle.tube_cell.proofs.Law.{low_nil, lower}

-- ---- a pass with nothing unpublished

pub bare_horizon : (s : Side) (v : View) → v.ahead ≡ [] → horizon (own_bound s v.known) (v.mine ++ v.ahead) ≡ horizon (own_bound s v.known) v.mine
bare_horizon s v none = ap (λ l. horizon (own_bound s v.known) l) (ap (λ a. v.mine ++ a) none ∙ append-nil v.mine)

-- the events of a pass run on from its known chip to this one
abbrev pub RunsOn : Side → CellSnapshot → List Event → List Event → State → Type 0
RunsOn s k mine es here = Runs s (word_of_other s k) k.spec_horizon (horizon (own_bound s k) mine) k.chip es here (horizon (own_bound s k) (mine ++ es))

pub bare_local : {s : Side} {words : List ℕ} {here : State} {v : View} → IsPassOf s words here v → v.ahead ≡ [] → here ≡ v.known.chip
bare_local {s} {here} {v} is none = (subst (λ es. Runs s (word_of_other s v.known) v.known.spec_horizon
    (horizon (own_bound s v.known) v.mine) v.known.chip es here (horizon (own_bound s v.known) (v.mine ++ v.ahead))) none is.runs).0

pub pass_fresh : (s : Side) {words : List ℕ} {here : State} (v : View) → v.role ≡ one_side s → IsChip v.known.chip → words ≡ words_of v.known
    → AllBelow v.known.spec_horizon v.speculative → v.ahead ≡ [] → here ≡ v.known.chip → IsPassOf s words here v
pass_fresh s {here} v role well words_are speculative none same = record {
  role = role;
  well = well;
  words_are = words_are;
  speculative = speculative;
  not_both = λ some. absurd (some none);
  runs = subst (λ es. Runs s (word_of_other s v.known) v.known.spec_horizon (horizon (own_bound s v.known) v.mine) v.known.chip es here
      (horizon (own_bound s v.known) (v.mine ++ v.ahead))) (sym none)
      (same, let e = bare_horizon s v none in omega arith);
}

pub none_low : (t : ℕ) {xs : List Event} → xs ≡ [] → AllBelow t xs
none_low t none = subst (AllBelow t) (sym none) low_nil

pub bare_of : {id : TableId} {s : Side} (v : View) {p : PassState} → pass_state_of id s v ≡ p → p.ahead ≡ [] → v.ahead ≡ []
bare_of v view none = ap (λ q. q.ahead) view ∙ none

pub none_of : {id : TableId} {s : Side} (v : View) {p : PassState} → pass_state_of id s v ≡ p → p.speculative ≡ [] → v.speculative ≡ []
none_of v view none = ap (λ q. q.speculative) view ∙ none

pub later_of : {id : TableId} {s : Side} (v : View) {p : PassState} (t : ℕ) → pass_state_of id s v ≡ p → p.ahead ≡ [] → own_horizon p ≤ t → horizon (own_bound s v.known) v.mine ≤ t
later_of {id} {s} v {p} t view none later =
    let e = bare_horizon s v (bare_of v view none) in
    let h : own_horizon (pass_state_of id s v) ≡ own_horizon p = ap own_horizon view in
    omega arith

-- ---- what becomes of a pass that finds the words

past_more : (b : Bool) (a c t : ℕ) → a ≤ c → cond b a (min a t) ≤ cond b c (min c t)
past_more true a c t le = le
past_more false a c t le = omega arith

module _ (t u : ℕ) (last : State) (end : ℕ) where
  host_more : (es : List Event) (a b from : ℕ) (c : State) → Runs Host t a from c es last end → t ≤ u → a ≤ b → Runs Host u b from c es last end
  host_more [] a b from c h le more = h
  host_more (e ∷ es) a b from c h le more =
      (h.0, h.1, omega arith, h.3, host_more es _ _ _ _ h.4 le (past_more (same_readings c (chip_after_event c e)) a b e.tick more))

  para_more : (es : List Event) (a b from : ℕ) (c : State) → Runs Para t a from c es last end → t ≤ u → Runs Para u b from c es last end
  para_more [] a b from c h le = h
  para_more (e ∷ es) a b from c h le = (h.0, h.1, omega arith, h.3, para_more es a b _ _ h.4 le)

runs_on : (s : Side) (v k : CellSnapshot) (from : ℕ) (c : State) (es : List Event) (last : State) (end : ℕ) → GoesOn (one_side s) v k
    → Runs s (word_of_other s v) v.spec_horizon from c es last end → Runs s (word_of_other s k) k.spec_horizon from c es last end
runs_on Host v k from c es last end on h = host_more _ k.para _ _ es _ k.spec_horizon _ c h on.1 on.2
runs_on Para v k from c es last end on h = para_more _ k.host _ _ es _ k.spec_horizon _ c h on.1

-- if there are unpublished events, the known bound admits the own
runs_admit : (s : Side) (m t a : ℕ) (mine : List Event) (c : State) (es : List Event) (last : State) (end : ℕ)
    → Runs s t a (horizon m mine) c es last end → es ≢ [] → Admits s (bound_at s t a) m
runs_admit s m t a mine c [] last end h some = absurd (some refl)
runs_admit s m t a mine c (e ∷ es) last end h some = omega arith

-- and it stays as it is
bound_stays : (s : Side) (v k : CellSnapshot) (t : ℕ) → GoesOn (one_side s) v k → own_bound s v ≤ t → Admits s (other_bound s v) t → own_bound s k ≡ own_bound s v
bound_stays Host v k t on le a = on.0
bound_stays Para v k t on le a = let o = on.0 in let spec_horizon = on.2 in omega arith

pub bound_falls : (s : Side) (v k : CellSnapshot) → GoesOn (one_side s) v k → own_bound s k ≤ own_bound s v
bound_falls Host v k on = let o = on.0 in omega arith
bound_falls Para v k on = let t = spec_horizons_fall v k on.2 in omega arith

-- what stays speculative lies below it
pending_low : (s : Side) (v k : CellSnapshot) (speculative : List Event) → SpecHorizons s v k → AllBelow v.spec_horizon speculative → AllBelow k.spec_horizon (unconfirmed_events k speculative)
pending_low s v k [] t low = low_nil
pending_low s v k (x ∷ xs) t low =
    (elim (nat_le k.spec_horizon k.host) as (λ b. nat_le k.spec_horizon k.host ≡ b → AllBelow k.spec_horizon (cond b [] (x ∷ xs))) [
      | true ↦ λ h. low_nil
      | false ↦ λ h. let up = rises s v k t (past k.spec_horizon k.host h) in lower (x ∷ xs) low (omega arith)
    ]) refl
  where
    past : (m n : ℕ) → nat_le m n ≡ false → n < m
    past m n e = grind (arith, nat_tests)

    rises : (s : Side) (v k : CellSnapshot) → SpecHorizons s v k → k.host < k.spec_horizon → v.spec_horizon ≤ k.spec_horizon
    rises Host v k t lt = t
    rises Para v k t lt = omega arith

-- those that are confirmed lie below the bound that was known
confirmed_bound : (s : Side) (v k : CellSnapshot) (speculative : List Event) → GoesOn (one_side s) v k → AllBelow v.spec_horizon speculative → AllBelow (own_bound s v) (confirmed k speculative)
confirmed_bound Host v k speculative on low = lower (confirmed k speculative) (confirmed_low k speculative) (omega arith)
confirmed_bound Para v k speculative on low = lower (confirmed k speculative) (go speculative low) (omega arith)
  where
    go : (xs : List Event) → AllBelow v.spec_horizon xs → AllBelow v.spec_horizon (confirmed k xs)
    go [] all = low_nil
    go (x ∷ xs) all = elim (nat_le k.spec_horizon k.host) as (λ b. AllBelow v.spec_horizon (cond b (below k.spec_horizon (x ∷ xs)) [])) [
      | true ↦ All-below (λ e. e.tick < v.spec_horizon) k.spec_horizon (x ∷ xs) all
      | false ↦ low_nil
    ]

pub bare_confirmed : (k : CellSnapshot) (mine : List Event) {speculative : List Event} → speculative ≡ [] → mine ++ confirmed k speculative ≡ mine
bare_confirmed k mine none = ap (λ l. mine ++ confirmed k l) none ∙ append-nil mine

horizon_falls : (s : Side) (v k : CellSnapshot) (mine speculative es : List Event) → GoesOn (one_side s) v k → AllBelow v.spec_horizon speculative → (es ≢ [] → speculative ≡ [])
    → horizon (own_bound s k) ((mine ++ confirmed k speculative) ++ es) ≤ horizon (own_bound s v) (mine ++ es)
horizon_falls s v k mine speculative [] on low bare =
    let a = ap past_last (append-nil (mine ++ confirmed k speculative)) in
    let b = ap past_last (append-nil mine) in
    let c = past_append (own_bound s v) mine (confirmed k speculative) (confirmed_bound s v k speculative on low) in
    let d = bound_falls s v k on in
    omega arith
horizon_falls s v k mine speculative (e ∷ es) on low bare =
    let a = ap (λ l. past_last (l ++ e ∷ es)) (bare_confirmed k mine (bare (λ same. absurd (cc)))) in
    let d = bound_falls s v k on in
    omega arith

-- the local chip, if it was the known one, and if the chip found is
pub local_is : {known old found new : State} → old ≡ known → Local known old found new → new ≡ found
local_is was (inl t) = t.1 ∙ was ∙ sym t.0
local_is was (inr t) = t.1

local_kept : {known old found new : State} → found ≡ known → Local known old found new → new ≡ old
local_kept same (inl t) = t.1
local_kept same (inr t) = absurd (t.0 same)

found_runs : (s : Side) (v k : CellSnapshot) (mine speculative es : List Event) (old new : State) → GoesOn (one_side s) v k
    → Local v.chip old k.chip new → (es ≢ [] → speculative ≡ []) → RunsOn s v mine es old
    → RunsOn s k (mine ++ confirmed k speculative) es new
found_runs s v k mine speculative [] old new on local bare h =
    let e = ap past_last (append-nil (mine ++ confirmed k speculative)) in (
      local_is h.0 local,
      (omega arith),
    )
found_runs s v k mine speculative (e ∷ es) old new on local bare h =
    let mine_is = bare_confirmed k mine (bare (λ same. absurd (cc))) in
    let bound = bound_stays s v k e.tick on (omega arith) h.2 in
    let chip = on.3 (omega arith) in
    let kept = local_kept (sym chip) local in
    subst (λ (y : ℕ × List Event). Runs s (word_of_other s k) k.spec_horizon (horizon y.0 y.1) k.chip (e ∷ es) new (horizon y.0 (y.1 ++ e ∷ es))) (λ i. (sym bound i, sym mine_is i))
    (subst (λ (y : State × State). Runs s (word_of_other s k) k.spec_horizon (horizon (own_bound s v) mine) y.0 (e ∷ es) y.1 (horizon (own_bound s v) (mine ++ e ∷ es))) (λ i. (chip i, sym kept i))
    (runs_on s v k (horizon (own_bound s v) mine) v.chip (e ∷ es) old (horizon (own_bound s v) (mine ++ e ∷ es)) on h))

pub on_of : (s : Side) (v : View) (k : CellSnapshot) → v.role ≡ one_side s → GoesOn v.role v.known k → GoesOn (one_side s) v.known k
on_of s v k role on = rw role at on

pass_found : {s : Side} {words found : List ℕ} {old : State} (new : State) {v w : View} → IsPassOf s words old v → Found found v w
    → Local v.known.chip old w.known.chip new → IsPassOf s found new w
pass_found {s} new {v} {w} is f local =
    let k : CellSnapshot = w.known in
    let on = on_of s v k is.role f.goes_on in
    let w_is = f.view_is in
    record {
      role = ap (λ u. u.role) w_is ∙ is.role;
      well = f.well;
      words_are = f.words_are;
      speculative = subst (AllBelow k.spec_horizon) (sym (ap (λ u. u.speculative) w_is)) (pending_low s v.known k v.speculative on.2 is.speculative);
      not_both = λ some. ap (λ u. u.speculative) w_is ∙ ap (unconfirmed_events k) (is.not_both (rw (ap (λ u. u.ahead) w_is) at some));
      runs = subst (λ (y : List Event × List Event). RunsOn s k y.0 y.1 new) (λ i. ((sym w_is i).mine, (sym w_is i).ahead))
          (found_runs s _ k v.mine v.speculative _ _ new on local is.not_both is.runs);
    }

-- what happens to speculative events
confirmed_past : (k : CellSnapshot) (xs : List Event) → k.spec_horizon ≤ k.host → (confirmed k xs ≡ below k.spec_horizon xs) × (unconfirmed_events k xs ≡ [])
confirmed_past k [] le = (refl, refl)
confirmed_past k (x ∷ xs) le = let e = le-true k.spec_horizon k.host le in (ap (λ b. cond b (below k.spec_horizon (x ∷ xs)) []) e, ap (λ b. cond b [] (x ∷ xs)) e)
  where
    le-true : (m n : ℕ) → m ≤ n → nat_le m n ≡ true
    le-true m n le = grind (arith, nat_tests)

confirmed_ahead : (k : CellSnapshot) (xs : List Event) → k.host < k.spec_horizon → (confirmed k xs ≡ []) × (unconfirmed_events k xs ≡ xs)
confirmed_ahead k [] lt = (refl, refl)
confirmed_ahead k (x ∷ xs) lt = let e = le-false k.spec_horizon k.host lt in (ap (λ b. cond b (below k.spec_horizon (x ∷ xs)) []) e, ap (λ b. cond b [] (x ∷ xs)) e)
  where
    le-false : (m n : ℕ) → n < m → nat_le m n ≡ false
    le-false m n lt = grind (arith, nat_tests)

-- a pass with the words k found, and n rises
abbrev pub finding : PassState → CellSnapshot → ℕ → PassState
finding p k n = record p { events = p.events ++ confirmed k p.speculative; speculative = unconfirmed_events k p.speculative; known = k; higher = n }

-- what is found, from there on, is learnt
pub learns_of : {p q : PassState} → q ≡ finding p q.known (p.higher + rise (one_side p.side) p.known q.known)
    → AllBelow p.known.spec_horizon p.speculative → GoesOn (one_side p.side) p.known q.known
    → own_horizon q ≤ own_horizon p → (p.ahead ≢ [] → q.known.chip ≡ p.known.chip) → Learns p q
learns_of {p} {q} rest low on falls chip = record {
  rest = rest;
  taken = λ lt. let f = confirmed_past k p.speculative (passed p.side on.2 lt) in (events_are ∙ ap (λ l. p.events ++ l) f.0, speculative_are ∙ f.1);
  settled = λ same le.
      let f = confirmed_past k p.speculative le in
      let all = below_same k.spec_horizon p.speculative (rw same low) in
      (events_are ∙ ap (λ l. p.events ++ l) (f.0 ∙ all), speculative_are ∙ f.1);
  stays = λ lt. let f = confirmed_ahead k p.speculative lt in (events_are ∙ ap (λ l. p.events ++ l) f.0 ∙ append-nil p.events, speculative_are ∙ f.1);
  plain = λ none. rest ∙ (λ i. record p {
    events = bare_confirmed k p.events none i;
    speculative = (ap (unconfirmed_events k) none ∙ sym none) i;
    known = k;
    higher = p.higher + rise (one_side p.side) p.known k;
  });
  own_word = on.0;
  other_word = on.1;
  spec_horizon = on.2;
  horizon = falls;
  same_chip = chip;
}
  where
    k : CellSnapshot
    k = q.known

    events_are : q.events ≡ p.events ++ confirmed q.known p.speculative
    events_are = ap (λ x. x.events) rest

    speculative_are : q.speculative ≡ unconfirmed_events q.known p.speculative
    speculative_are = ap (λ x. x.speculative) rest

    passed : (s : Side) → SpecHorizons s p.known q.known → q.known.spec_horizon < p.known.spec_horizon → q.known.spec_horizon ≤ q.known.host
    passed Host t lt = absurd (omega arith)
    passed Para t lt = omega arith

pub learned : {id id' : TableId} {s : Side} {words found : List ℕ} {old : State} {p : PassState} {v w : View} → pass_state_of id s v ≡ p
    → IsPassOf s words old v → id' ≡ id → Found found v w → Learns p (pass_state_of id' s w)
learned {id} {id'} {s} {v} {w} view is cell f =
    let k : CellSnapshot = w.known in
    let on = on_of s v k is.role f.goes_on in
    let w_is = f.view_is in
    let falls = horizon_falls s _ k v.mine v.speculative v.ahead on is.speculative is.not_both in
    let now : horizon (own_bound s k) (w.mine ++ w.ahead) ≡ horizon (own_bound s k) ((v.mine ++ confirmed k v.speculative) ++ v.ahead) =
    λ i. horizon (own_bound s k) ((w_is i).mine ++ (w_is i).ahead) in
    let rest = (λ i. pass_state_of (cell i) s (w_is i)) ∙ ap (λ r. finding (pass_state_of id s v) k (v.higher + rise r v.known k)) is.role in
    subst (λ q. Learns q (pass_state_of id' s w)) view (learns_of rest is.speculative on (omega arith)
    (λ some. sym (on.3 (runs_admit s (own_bound s v.known) _ _ v.mine _ v.ahead _ _ is.runs some))))

-- ---- the tick at which the speculative horizon is cut

pub cut_kept : (s : Side) (cut : ℕ) (v w : View) → CutIs s cut v → v.ahead ≡ [] → w.ahead ≡ [] → CutIs s cut w
cut_kept s cut v w is h none' a lt = grind (arith, nat_tests)

pub cut_fresh : (s : Side) (v : View) → v.ahead ≡ [] → CutIs s 18446744073709551615 v
cut_fresh s v none a lt = ap (λ l. spec_horizon_after s v.known.chip a l) none ∙ (omega arith)

-- if events are unpublished, the words found have the same chip
cut_found : {s : Side} {words found : List ℕ} {old : State} (cut : ℕ) {v w : View} → IsPassOf s words old v → CutIs s cut v → Found found v w → CutIs s cut w
cut_found {s} {old} cut {v} {w} is cuts f a lt =
    ap (λ l. spec_horizon_after s w.known.chip a l) (ap (λ u. u.ahead) f.view_is) ∙ go v.ahead is.runs (cuts a lt)
  where
    on : GoesOn (one_side s) v.known w.known
    on = on_of s v _ is.role f.goes_on

    go : (es : List Event) → Runs s (word_of_other s v.known) v.known.spec_horizon (horizon (own_bound s v.known) v.mine) v.known.chip es old (horizon (own_bound s v.known) (v.mine ++ v.ahead))
        → spec_horizon_after s v.known.chip a es ≡ min a cut → spec_horizon_after s w.known.chip a es ≡ min a cut
    go [] runs e = e
    go (x ∷ xs) runs e =
        let admits = runs_admit s (own_bound s v.known) _ _ v.mine _ (x ∷ xs) _ _ runs (λ no. absurd (cc)) in
        ap (λ c. spec_horizon_after s c a (x ∷ xs)) (sym (on.3 admits)) ∙ e

-- a pass once the words found are settled
pub pass_settled : {s : Side} {words found next : List ℕ} {old new : State} (cut : ℕ) {v w : View} → IsPassOf s words old v → CutIs s cut v → Found found v w
    → LocalAfter words old found new → next ≡ found → IsPassOf s next new w × CutIs s cut w
pass_settled {s} {new = new} cut {v = v} {w = w} is cuts f local next_is = (
  rw next_is (pass_found new is f (local v.known w.known is.well f.well is.words_are f.words_are)),
  cut_found cut is cuts f,
)
