-- What a load and an exchange leave of a pass while its machine waits.
use Rattle.std.proofs.Common.{ℕ, Bool, IsTrue, IsFalse, ◌≡◌, ◌+◌, ◌<◌, ◌≤◌, ◌⊎◌, inl, inr, true, false, refl, sym, ◌∙◌, ap, subst, arith, List, [], ◌++◌, append-nil}
use Rattle.std.proofs.lemmas.Bool.{cases_lt}
use Rattle.std.proofs.lemmas.Bool.Decides.{nat_tests}
use Rattle.beeb_bits.specs.declared.Side.{Side}
use Rattle.beeb_bits.specs.declared.Side.TheVariants.{Para}
use Rattle.tube_chip.specs.Events.{Event, after_from}
use Rattle.tube_cell.specs.declared.local.Readings.{Readings}
use Rattle.tube_cell.specs.Views.{CellSnapshot, one_side, other_bound, Admits}
use Rattle.tube_cell.specs.Views.{readings_of}
use Rattle.tube_cell.specs.Rules.{rise, SpecHorizons}
use Rattle.tube_cell.specs.Passes.{PassState, own_horizon, here, bound_here, after_publish, after_speculate, Learns}
use Rattle.tube_side.specs.CodeSteps.{all_events, HasWaited, IsPaid, IsPaidSpeculatively, HasOnlyLearnt}
use Rattle.tube_cell.proofs.Acts.{bound_bare}
use Rattle.tube_cell.proofs.Publishes.{horizon_published}

pub waits : (p : PassState) → p.speculative ≡ [] → HasWaited p p
waits p none = record { same = record { cell = refl; side = refl; speculative = none }; events = refl }

pub waited_on : {p q r : PassState} → HasWaited p q → HasWaited q r → HasWaited p r
waited_on a b = grind (arith, nat_tests)

pub learned : {p q : PassState} → p.speculative ≡ [] → Learns p q → HasWaited p q
learned h l = grind (arith, nat_tests)

pub told : (p : PassState) {q : PassState} (h : ℕ) → p.speculative ≡ [] → q ≡ after_publish p h → HasWaited p q
told p h none e = record {
  same = record { cell = ap (λ x. x.cell) e; side = ap (λ x. x.side) e; speculative = ap (λ x. x.speculative) e ∙ none };
  events = ap all_events e ∙ append-nil (p.events ++ p.ahead);
}

-- ---- publications and rises of the bound

pub learned_paid : {p q : PassState} → Learns p q → (q.commits ≡ p.commits) × (p.higher ≤ q.higher)
learned_paid {p} {q} l =
    let e : q.higher ≡ p.higher + rise (one_side p.side) p.known q.known = ap (λ x. x.higher) l.rest in
    (ap (λ x. x.commits) l.rest, omega arith)

rise_one : (s : Side) (k j : CellSnapshot) (t : ℕ) → ¬ Admits s (other_bound s k) t → Admits s (other_bound s j) t → rise (one_side s) k j ≡ 1
rise_one s k j t not_yet now_is = grind (arith, nat_tests)

-- a step that was not admitted, and now is, is admitted by a risen bound
pub rose : {p q : PassState} (t : ℕ) → p.ahead ≡ [] → p.speculative ≡ [] → Learns p q → ¬ Admits p.side (bound_here p) t → Admits q.side (bound_here q) t → q.higher ≡ p.higher + 1
rose {p} {q} t bare none l not_yet now_is =
    let e = l.plain none in
    let side : q.side ≡ p.side = ap (λ x. x.side) e in
    let empty : q.ahead ≡ [] = ap (λ x. x.ahead) e ∙ bare in
    let b = bound_bare p bare in
    let c = bound_bare q empty in
    let yes2 : Admits p.side (other_bound p.side q.known) t = rw side at (subst (λ x. Admits q.side x t) c now_is) in
    let not2 : ¬ Admits p.side (other_bound p.side p.known) t = rw b at not_yet in
    ap (λ x. x.higher) l.rest ∙ ap (λ x. p.higher + x) (rise_one p.side p.known q.known t not2 yes2)

-- ---- the horizon

pub told_at : (p : PassState) {q : PassState} (h : ℕ) → own_horizon p ≤ h → q ≡ after_publish p h → own_horizon q ≡ h
told_at p h low e = ap own_horizon e ∙ horizon_published p h low

pub told_low : (p : PassState) {q : PassState} (h : ℕ) → own_horizon p ≤ h → q ≡ after_publish p h → own_horizon q ≤ h
told_low p h low e = let x = told_at p h low e in omega arith

pub here_bare : (p : PassState) {r : Readings} → p.ahead ≡ [] → r ≡ readings_of (here p) → r ≡ readings_of p.known.chip
here_bare p bare is = is ∙ ap (λ events. readings_of (after_from p.known.chip events)) bare

-- ---- publications and rises, with speculation

pub learned_speculatively : (p : PassState) {q r : PassState} → q.side ≡ Para → Learns q r → IsPaidSpeculatively p q → IsPaidSpeculatively p r
learned_speculatively p {q} {r} side l paid = go paid (cases_lt q.known.host r.known.host) (rw side at l.spec_horizon)
  where
    go : IsPaidSpeculatively p q → (q.known.host < r.known.host) ⊎ (r.known.host ≤ q.known.host) → SpecHorizons Para q.known r.known → IsPaidSpeculatively p r
    go h side_of t = grind (arith, nat_tests)

-- an exchange that speculates, or the words that it found
pub tried_speculatively : (p : PassState) {q r : PassState} (t : ℕ) (looks : List Event) (done : Bool) → q.side ≡ Para → q.known.spec_horizon ≤ t
    → (IsTrue done → r ≡ after_speculate q looks t)
    → (IsFalse done → Learns q r) → IsPaidSpeculatively p q → IsPaidSpeculatively p r
tried_speculatively p {q} t looks true side le f g paid = subst (IsPaidSpeculatively p) (sym (f refl)) (go paid)
  where
    go : IsPaidSpeculatively p q → IsPaidSpeculatively p (after_speculate q looks t)
    go (inl x) = inl x
    go (inr x) = inr (x.0, omega arith)
tried_speculatively p t looks false side le f g paid = learned_speculatively p side (g refl) paid

-- the host has reached the speculative horizon
pub passed_paid : (p q : PassState) → q.known.spec_horizon ≤ q.known.host → IsPaidSpeculatively p q → IsPaid p q
passed_paid p q le (inl x) = x
passed_paid p q le (inr x) = absurd (omega arith)

-- words were found
pub still_learnt : (p : PassState) {q r : PassState} (t : ℕ) → q.side ≡ Para → HasOnlyLearnt t p q → Learns q r → HasOnlyLearnt t p r
still_learnt p {q} {r} t side learnt l = ((learned_paid l).0 ∙ learnt.0, go learnt.1 (cases_lt q.known.host r.known.host))
  where
    go : (p.higher < q.higher) ⊎ ((p.higher ≤ q.higher) × (q.known.host < t)) → (q.known.host < r.known.host) ⊎ (r.known.host ≤ q.known.host)
        → (p.higher < r.higher) ⊎ ((p.higher ≤ r.higher) × (r.known.host < t))
    go h side_of = grind (arith, nat_tests)
