-- How the two lists and the words may grow.
use Rattle.std.proofs.Common.{◌≡◌, ◌⊎◌, ℕ, ◌+◌, ◌<◌, ◌≤◌, min, max, nat_lt, true, false, true≢false, cond, List, [], ◌∷◌, ◌++◌, All, refl, sym, ap}
use Rattle.std.proofs.Common.{◌∙◌, subst, inl, arith, append_assoc, append-nil}
use Rattle.std.specs.Prelude.{slice_index_or}
use Rattle.std.proofs.lemmas.List.Elements.{All-weaker, All-push}
use Rattle.beeb_bits.specs.declared.Side.{Side}
use Rattle.beeb_bits.specs.declared.Side.TheVariants.{Host, Para}
use Rattle.tube_chip.specs.State.{State}
use Rattle.tube_chip.specs.Act.{Query}
use Rattle.tube_chip.specs.Events.{Event, merge, after, IsLegal}
use Rattle.tube_cell.specs.Views.{AllBelow, CellSnapshot, own_bound, past_last, below, is_access, is_observation, chip_after_event, Answers, same_readings, spec_horizon_past, spec_horizon_after}
use Rattle.tube_cell.specs.Rules.{Climbs, HostListOk, ParaListOk, Consistent, SpecHorizons, Knows}
use Rattle.tube_cell.specs.Steps.{Runs, Watches}
use Rattle.tube_cell.proofs.Observed.{observed_stays, ShowsSame, readings_from}
use Rattle.tube_cell.proofs.Law.{gap, Precedes, Early, joins_para, legal_end, legal_placed, legal_cut, after-on, past_last-on, precedes_below}
use Rattle.tube_cell.proofs.Law.{by_lt, nat_lt-true, nat_lt-false, All-below, below_lies, below_append}
use Rattle.tube_cell.proofs.Law.{low_cons, low_head, low_nil, low_tail, lower}

-- ---- lists that climb

climbs_end : (n : ℕ) (x : Event) (xs : List Event) → Climbs n (x ∷ xs) → x.tick + 1 ≤ past_last (x ∷ xs)
climbs_end n x [] h = omega arith
climbs_end n x (y ∷ ys) h = let l = climbs_end (x.tick + 1) y ys h.1 in omega arith

pub climbs_last : (n : ℕ) (xs : List Event) → Climbs n xs → AllBelow (past_last xs) xs
climbs_last n [] h = low_nil
climbs_last n (x ∷ []) h = low_cons x [] (omega arith) low_nil
climbs_last n (x ∷ y ∷ ys) h =
    let l = climbs_end n x (y ∷ ys) h in
    low_cons x (y ∷ ys) (omega arith) (climbs_last (x.tick + 1) (y ∷ ys) h.1)

pub low_of : (t : ℕ) (xs : List Event) → Climbs 0 xs → past_last xs ≤ t → AllBelow t xs
low_of t xs h le = lower xs (climbs_last 0 xs h) (omega arith)

climbs_on : (n : ℕ) (xs : List Event) (e : Event) → Climbs n xs → n ≤ e.tick → past_last xs ≤ e.tick → Climbs n (xs ++ e ∷ [])
climbs_on n [] e h le late = (le, tt)
climbs_on n (x ∷ []) e h le late = (h.0, (omega arith, tt))
climbs_on n (x ∷ y ∷ ys) e h le late =
    let l = climbs_end n x (y ∷ ys) h in
    (h.0, climbs_on (x.tick + 1) (y ∷ ys) e h.1 (omega arith) late)

climbs_below : (n t : ℕ) (xs : List Event) → Climbs n xs → Climbs n (below t xs)
climbs_below n t [] h = tt
climbs_below n t (x ∷ xs) h = elim (nat_lt x.tick t) as (λ b. Climbs n (cond b (x ∷ below t xs) [])) [
  | true ↦ (h.0, climbs_below (x.tick + 1) t xs h.1)
  | false ↦ tt
]

-- ---- the host's event

after_end : {c : State} (k : CellSnapshot) (host para : List Event) {list : List Event} (e : Event) → k.chip ≡ after (merge host para) → list ≡ merge host para ++ e ∷ []
    → c ≡ chip_after_event k.chip e → c ≡ after list
after_end k host para e chip is now = now ∙ ap (λ d. chip_after_event d e) chip ∙ sym (after-on _ (merge host para) e) ∙ sym (ap after is)

host_fine : {k : CellSnapshot} (n : CellSnapshot) {host : List Event} (e : Event) → HostListOk k host → e.side ≡ Host → past_last host ≤ e.tick → k.host ≤ n.host
    → (is_access e.query ≡ true → e.tick < n.host) → e.tick ≤ own_bound Para n
    → ((t : ℕ) → t ≤ e.tick → t ≤ own_bound Para k → t ≤ own_bound Para n) → HostListOk n (host ++ e ∷ [])
host_fine n {host} e fine is late up low admitted keep =
    let before = low_of e.tick host fine.climbs late in
    record {
      sided = All-push (λ x. x.side ≡ Host) host e fine.sided is;
      below_own = All-push (λ x. is_access x.query ≡ true → x.tick < n.host) host e (λ i d lt a. let h = fine.below_own i d lt a in omega arith) low;
      admitted = All-push (λ x. x.tick ≤ own_bound Para n) host e (λ i d lt. let b = before i d lt in keep _ (omega arith) (fine.admitted i d lt)) admitted;
      climbs = climbs_on 0 host e fine.climbs (omega arith) late;
    }

para_kept : {k : CellSnapshot} (n : CellSnapshot) {para : List Event} → ParaListOk k para → k.para ≤ n.para → k.host ≤ n.host → k.spec_horizon ≤ n.spec_horizon → ParaListOk n para
para_kept n fine up host_up spec_horizon_up = grind arith

-- cut at the tick to which the speculative horizon falls
para_cut : {k : CellSnapshot} (n : CellSnapshot) (t : ℕ) {para : List Event} → ParaListOk k para → k.para ≤ n.para → k.host ≤ n.host → t < n.host
    → n.spec_horizon ≡ min k.spec_horizon t → ParaListOk n (below t para)
para_cut {k} n t {para} fine up host_up lt spec_horizon =
    let own = All-below (λ x. is_access x.query ≡ true → x.tick < own_bound Para k) t para fine.below_own in
    let changes = All-below (λ x. is_observation x.query ≡ false → (x.tick < k.para) × (x.tick < k.host)) t para fine.changes in
    let low = below_lies t para in
    record {
      sided = All-below (λ x. x.side ≡ Para) t para fine.sided;
      below_own = λ i d lt' a. let h = own i d lt' a in let l = low i d lt' in omega arith;
      admitted = λ i d lt' a. let l = low i d lt' in omega arith;
      changes = λ i d lt' a. let h = changes i d lt' a in omega arith;
      climbs = climbs_below 0 t para fine.climbs;
    }

early_of : {k : CellSnapshot} (t : ℕ) {para : List Event} → ParaListOk k para → k.host ≤ t → All (Early t) para
early_of t fine le i d lt a = let h = (fine.changes i d lt a).1 in omega arith

-- these words after the host did an event, with this own word and speculative horizon
abbrev pub host_next : CellSnapshot → Event → ℕ → ℕ → CellSnapshot
host_next k e m spec_horizon = record { chip = chip_after_event k.chip e; host = m; para = k.para; spec_horizon = spec_horizon }

-- an event of the host
module _ {k : CellSnapshot} {host para : List Event} (e : Event) (good : Consistent k host para) (is : e.side ≡ Host) (from : k.host ≤ e.tick) (late : past_last host ≤ e.tick)
    (admitted : e.tick ≤ own_bound Para k) (answers : Answers k.chip e) where
  -- one that shows the parasite the same as before
  pub good_calm : (m : ℕ) → k.host ≤ m → (is_access e.query ≡ true → e.tick < m) → ShowsSame k.chip (chip_after_event k.chip e)
      → Consistent (host_next k e m k.spec_horizon) (host ++ e ∷ []) para
  good_calm m up low same =
      let r = legal_placed host para e is (low_of e.tick host good.host_fine.climbs late) good.para_fine.sided (early_of e.tick good.para_fine from) good.legal
      (rw good.chip_is at answers) (rw good.chip_is at same) in
      record {
        chip_is = ap (λ d. chip_after_event d e) good.chip_is ∙ sym r.1;
        legal = r.0;
        host_fine = host_fine (host_next k e m k.spec_horizon) e good.host_fine is late up low admitted (λ t le h. h);
        para_fine = para_kept (host_next k e m k.spec_horizon) good.para_fine (omega arith) up (omega arith);
      }

  -- one that may not: speculative events from its tick on are dropped
  good_cut : (m : ℕ) → e.tick < m → Consistent (host_next k e m (min k.spec_horizon e.tick)) (host ++ e ∷ []) (below e.tick para)
  good_cut m low =
      let n = host_next k e m (min k.spec_horizon e.tick) in
      let r = legal_cut host para e (low_of e.tick host good.host_fine.climbs late) (early_of e.tick good.para_fine from) good.legal (rw good.chip_is at answers) in
      record {
        chip_is = ap (λ d. chip_after_event d e) good.chip_is ∙ sym r.1;
        legal = r.0;
        host_fine = host_fine n e good.host_fine is late (omega arith) (λ a. low) (omega arith) (λ t le h. omega arith);
        para_fine = para_cut n e.tick good.para_fine (omega arith) (omega arith) low refl;
      }

-- ---- the parasite's event

gap_host_para : gap Host Para ≡ 0
unfolding gap
gap_host_para = refl

host_before : {k : CellSnapshot} {host : List Event} (e : Event) → HostListOk k host → e.side ≡ Para → own_bound Para k ≤ e.tick → All (Precedes e) host
host_before {host} e fine is from i d lt =
    let x = slice_index_or host i d in
    let g : gap x.side e.side ≡ 0 = ap (λ s. gap s e.side) (fine.sided i d lt) ∙ ap (gap Host) is ∙ gap_host_para in
    let a = fine.admitted i d lt in
    omega (arith, g)

para_before : (para : List Event) (e : Event) → Climbs 0 para → past_last para ≤ e.tick → All (Precedes e) para
para_before para e climbs late = All-weaker (λ x. x.tick < e.tick) (Precedes e) (precedes_below e) para (low_of e.tick para climbs late)

-- these words after the parasite did an event, with this own word and speculative horizon
abbrev pub para_next : CellSnapshot → Event → ℕ → ℕ → CellSnapshot
para_next k e m spec_horizon = record { chip = chip_after_event k.chip e; host = k.host; para = m; spec_horizon = spec_horizon }

pub good_para : {k : CellSnapshot} {host para : List Event} (e : Event) (m a : ℕ) → Consistent k host para → e.side ≡ Para → own_bound Para k ≤ e.tick
    → past_last para ≤ e.tick → Answers k.chip e → k.para ≤ m → k.spec_horizon ≤ a
    → (is_access e.query ≡ true → e.tick < max m a) → (is_access e.query ≡ true → e.tick < max k.host a) → (is_observation e.query ≡ false → (e.tick < m) × (e.tick < k.host))
    → Consistent (para_next k e m a) host (para ++ e ∷ [])
good_para {k} {host} {para} e m a good is from late answers up spec_horizon_up low admitted changes =
    let first = host_before e good.host_fine is from in
    let second = para_before para e good.para_fine.climbs late in
    let joined = joins_para host para e first in
    let fine = para_kept (para_next k e m a) good.para_fine up (omega arith) spec_horizon_up in
    record {
      chip_is = after_end k host para e good.chip_is joined refl;
      legal = subst IsLegal (sym joined) (legal_end host para e first second good.legal (rw good.chip_is at answers));
      host_fine = record {
        sided = good.host_fine.sided;
        below_own = good.host_fine.below_own;
        admitted = λ i d lt. let h = good.host_fine.admitted i d lt in omega arith;
        climbs = good.host_fine.climbs;
      };
      para_fine = record {
        sided = All-push (λ x. x.side ≡ Para) para e fine.sided is;
        below_own = All-push (λ x. is_access x.query ≡ true → x.tick < max m a) para e fine.below_own low;
        admitted = All-push (λ x. is_access x.query ≡ true → x.tick < max k.host a) para e fine.admitted admitted;
        changes = All-push (λ x. is_observation x.query ≡ false → (x.tick < m) × (x.tick < k.host)) para e fine.changes changes;
        climbs = climbs_on 0 para e fine.climbs (omega arith) late;
      };
    }

-- ---- words that rise

pub good_raised : {k : CellSnapshot} (n : CellSnapshot) {host para : List Event} → Consistent k host para → n.chip ≡ k.chip → k.host ≤ n.host
    → k.para ≤ n.para → k.spec_horizon ≤ n.spec_horizon → Consistent n host para
good_raised n good chip host_up para_up spec_horizon_up = grind arith

-- ---- the host's events, one after another

below_below : (t a : ℕ) (xs : List Event) → below t (below a xs) ≡ below (min a t) xs
below_below t a [] = refl
below_below t a (x ∷ xs) =
    by_lt x.tick a (λ b. below t (cond b (x ∷ below a xs) []) ≡ below (min a t) (x ∷ xs))
    (λ lt. by_lt x.tick t (λ b. cond b (x ∷ below t (below a xs)) [] ≡ below (min a t) (x ∷ xs))
    (λ lt'. rw (nat_lt-true x.tick (min a t) (omega arith)) (ap (λ l. x ∷ l) (below_below t a xs)))
    (λ le. rw (nat_lt-false x.tick (min a t) (omega arith)) refl))
    (λ le. rw (nat_lt-false x.tick (min a t) (omega arith)) refl)

-- What steps of the host do besides its own list: to the parasite's list, and to the words.
pub record HostStep (k n : CellSnapshot) (host para list : List Event) : Type 0 where
  pub rest : List Event
  pub good : Consistent n list rest
  pub para_word : n.para ≡ k.para
  pub host_up : k.host ≤ n.host
  pub spec_horizon : (n.spec_horizon ≡ k.spec_horizon) ⊎ ((k.host ≤ n.spec_horizon) × (n.spec_horizon < k.spec_horizon) × (n.spec_horizon < n.host))
  pub keeps : (mine speculative : List Event) → AllBelow k.host mine → para ≡ mine ++ below k.spec_horizon speculative → rest ≡ mine ++ below n.spec_horizon speculative

taken_back : (h a t m : ℕ) → h ≤ t → t < m → (min a t ≡ a) ⊎ ((h ≤ min a t) × (min a t < a) × (min a t < m))
taken_back h a t m le lt = grind arith

host_event : {k : CellSnapshot} {host para : List Event} (e : Event) → Consistent k host para → e.side ≡ Host → k.host ≤ e.tick
    → past_last host ≤ e.tick → e.tick ≤ own_bound Para k → Answers k.chip e
    → HostStep k (host_next k e (e.tick + 1) (spec_horizon_past Host k.chip e k.spec_horizon)) host para (host ++ e ∷ [])
host_event {k} {host} {para} e good is from late admitted answers =
    (elim (same_readings k.chip (chip_after_event k.chip e)) as (λ b. same_readings k.chip (chip_after_event k.chip e) ≡ b
    → HostStep k (host_next k e (e.tick + 1) (cond b k.spec_horizon (min k.spec_horizon e.tick))) host para (host ++ e ∷ [])) [
      | true ↦ λ h. record {
        rest = para;
        good = good_calm e good is from late admitted answers (e.tick + 1) (omega arith) (λ a. omega arith) (readings_from k.chip (chip_after_event k.chip e) h);
        para_word = refl;
        host_up = omega arith;
        spec_horizon = inl refl;
        keeps = λ mine speculative low eq. eq;
      }
      | false ↦ λ h. record {
        rest = below e.tick para;
        good = good_cut e good is from late admitted answers (e.tick + 1) (omega arith);
        para_word = refl;
        host_up = omega arith;
        spec_horizon = taken_back k.host k.spec_horizon e.tick (e.tick + 1) from (omega arith);
        keeps = λ mine speculative low eq.
            ap (below e.tick) eq
            ∙ below_append e.tick mine (below k.spec_horizon speculative) (lower mine low (omega arith))
            ∙ ap (λ l. mine ++ l) (below_below e.tick k.spec_horizon speculative);
      }
    ]) refl

host_then : {k m n : CellSnapshot} {host para list more : List Event} (a : HostStep k m host para list) → HostStep m n list a.rest more → HostStep k n host para more
host_then {k} {m} {n} a b = record {
  rest = b.rest;
  good = b.good;
  para_word = b.para_word ∙ a.para_word;
  host_up = let x = a.host_up in let y = b.host_up in omega arith;
  spec_horizon = go a.spec_horizon b.spec_horizon a.host_up b.host_up;
  keeps = λ mine speculative low eq.
      b.keeps mine speculative (All-weaker (λ x. x.tick < k.host) (λ x. x.tick < m.host) (λ x l. omega arith) mine low) (a.keeps mine speculative low eq);
}
  where
    go : (m.spec_horizon ≡ k.spec_horizon) ⊎ ((k.host ≤ m.spec_horizon) × (m.spec_horizon < k.spec_horizon) × (m.spec_horizon < m.host))
        → (n.spec_horizon ≡ m.spec_horizon) ⊎ ((m.host ≤ n.spec_horizon) × (n.spec_horizon < m.spec_horizon) × (n.spec_horizon < n.host)) → k.host ≤ m.host → m.host ≤ n.host
        → (n.spec_horizon ≡ k.spec_horizon) ⊎ ((k.host ≤ n.spec_horizon) × (n.spec_horizon < k.spec_horizon) × (n.spec_horizon < n.host))
    go x y p q = grind arith

-- these words after events of the host that run on to this chip and end
abbrev pub host_last : CellSnapshot → List Event → State → ℕ → CellSnapshot
host_last k es last end = record { chip = last; host = end; para = k.para; spec_horizon = spec_horizon_after Host k.chip k.spec_horizon es }

pub host_runs : (es : List Event) {k : CellSnapshot} {host para : List Event} (from : ℕ) (last : State) (end : ℕ) → Consistent k host para → k.host ≤ from
    → past_last host ≤ from → Runs Host k.para k.spec_horizon from k.chip es last end
    → HostStep k (host_last k es last end) host para (host ++ es)
host_runs [] {k} {host} {para} from last end good le late h =
    let f = h.1 in
    record {
      rest = para;
      good = subst (λ l. Consistent (host_last k [] last end) l para) (sym (append-nil host))
          (good_raised (host_last k [] last end) good h.0 (omega arith) (omega arith) (omega arith));
      para_word = refl;
      host_up = omega arith;
      spec_horizon = inl refl;
      keeps = λ mine speculative low eq. eq;
    }
host_runs (e ∷ es) {k} {host} {para} from last end good le late h =
    let m : CellSnapshot = host_next k e (e.tick + 1) (spec_horizon_past Host k.chip e k.spec_horizon) in
    let on = past_last-on host e in
    let a = host_event e good h.0 (omega arith) (omega arith) (omega arith) h.3 in
    let b = host_runs es _ last end a.good (omega arith) (omega arith) h.4 in
    subst (λ l. HostStep k (host_last k (e ∷ es) last end) host para l) (append_assoc host (e ∷ []) es)
    (host_then a b)

-- if the words do not admit the host, there is no event
pub host_idle : (o a from : ℕ) (c : State) (es : List Event) (last : State) (end : ℕ) → Runs Host o a from c es last end → max o a < from → last ≡ c
host_idle o a from c [] last end h lt = h.0
host_idle o a from c (e ∷ es) last end h lt = absurd (omega arith)

pub spec_horizons_fall : (x k : CellSnapshot) → SpecHorizons Para x k → k.spec_horizon ≤ x.spec_horizon
spec_horizons_fall x k t = omega arith

-- what the parasite's pass knows, once the host took its steps
pub para_knows : {k : CellSnapshot} (n : CellSnapshot) {x : CellSnapshot} → Knows Para k x → n.para ≡ k.para → k.host ≤ n.host
    → (n.spec_horizon ≡ k.spec_horizon) ⊎ ((k.host ≤ n.spec_horizon) × (n.spec_horizon < k.spec_horizon) × (n.spec_horizon < n.host)) → (own_bound Para k < k.host → n.chip ≡ k.chip)
    → Knows Para n x
para_knows {k} n {x} knows para up spec_horizon idle =
    let o = knows.other_word in
    let fall = spec_horizons_fall x k knows.spec_horizon in
    record {
      well = knows.well;
      own_word = knows.own_word ∙ sym para;
      other_word = omega arith;
      spec_horizon = go knows.spec_horizon spec_horizon;
      same_chip = λ a. knows.same_chip a ∙ sym (idle (omega arith));
    }
  where
    go : SpecHorizons Para x k → (n.spec_horizon ≡ k.spec_horizon) ⊎ ((k.host ≤ n.spec_horizon) × (n.spec_horizon < k.spec_horizon) × (n.spec_horizon < n.host)) → SpecHorizons Para x n
    go e f = let o = knows.other_word in grind arith

-- ---- the parasite's events, one after another

pub spec_horizon_after_para : (c : State) (a : ℕ) (es : List Event) → spec_horizon_after Para c a es ≡ a
spec_horizon_after_para c a [] = refl
spec_horizon_after_para c a (e ∷ es) = spec_horizon_after_para (chip_after_event c e) a es

abbrev pub para_last : CellSnapshot → State → ℕ → CellSnapshot
para_last k last end = record { chip = last; host = k.host; para = end; spec_horizon = k.spec_horizon }

pub para_runs : (es : List Event) {k : CellSnapshot} {host para : List Event} (from : ℕ) (last : State) (end : ℕ) → Consistent k host para
    → own_bound Para k ≤ from → past_last para ≤ from → Runs Para k.host k.spec_horizon from k.chip es last end
    → Consistent (para_last k last end) host (para ++ es)
para_runs [] {k} {host} {para} from last end good le late h =
    let f = h.1 in
    rw (append-nil para) (good_raised (para_last k last end) good h.0 (omega arith) (omega arith) (omega arith))
para_runs (e ∷ es) {k} {host} {para} from last end good le late h =
    let m : CellSnapshot = para_next k e (e.tick + 1) k.spec_horizon in
    let on = past_last-on para e in
    let a = good_para e (e.tick + 1) k.spec_horizon good h.0 (omega arith) (omega arith) h.3 (omega arith) (omega arith) (λ is. omega arith)
    (λ is. omega arith) (λ is. (omega arith)) in
    subst (λ l. Consistent (para_last k last end) host l) (append_assoc para (e ∷ []) es)
    (para_runs es _ last end a (omega arith) (omega arith) h.4)

pub para_idle : (o a from : ℕ) (c : State) (es : List Event) (last : State) (end : ℕ) → Runs Para o a from c es last end → o ≤ from → last ≡ c
para_idle o a from c [] last end h le = h.0
para_idle o a from c (e ∷ es) last end h le = absurd (omega arith)

module _ (last : State) (end : ℕ) where
  pub para_low : (o : ℕ) (es : List Event) (a from : ℕ) (c : State) → Runs Para o a from c es last end → AllBelow o es
  para_low o [] a from c h = low_nil
  para_low o (e ∷ es) a from c h = low_cons e es (omega arith) (para_low o es _ _ _ h.4)

  module _ (s : Side) (t : ℕ) where
    pub runs_end : (es : List Event) (a from : ℕ) (c : State) → Runs s t a from c es last end → from ≤ end
    runs_end [] a from c h = h.1
    runs_end (e ∷ es) a from c h = let r = runs_end es _ _ _ h.4 in omega arith

    pub runs_low : (es : List Event) (a from : ℕ) (c : State) → Runs s t a from c es last end → AllBelow end es
    runs_low [] a from c h = low_nil
    runs_low (e ∷ es) a from c h =
        let r = runs_end es _ _ _ h.4 in
        low_cons e es (omega arith) (runs_low es _ _ _ h.4)

-- what the host's pass knows, once the parasite took its steps
pub host_knows : {k : CellSnapshot} (n : CellSnapshot) {x : CellSnapshot} → Knows Host k x → n.host ≡ k.host → k.para ≤ n.para
    → k.spec_horizon ≤ n.spec_horizon → (k.host ≤ own_bound Para k → n.chip ≡ k.chip) → Knows Host n x
host_knows n knows host para spec_horizon idle = grind arith

-- ---- speculative observations

pub watches_low : (s : Side) (end : ℕ) (c : State) (es : List Event) (from : ℕ) → Watches s from c es end → AllBelow end es
watches_low s end c [] from h = low_nil
watches_low s end c (e ∷ es) from h = low_cons e es h.3 (watches_low s end c es _ h.5)

-- the words with this speculative horizon
abbrev pub speculating : CellSnapshot → ℕ → CellSnapshot
speculating k t = record k { spec_horizon = t }

no_change : (q : Query) → is_observation q ≡ true → is_observation q ≡ false → ⊥
no_change q is not = true≢false (sym is ∙ not)

pub watched : (es : List Event) {k : CellSnapshot} {host para : List Event} {from end : ℕ} → Consistent k host para → own_bound Para k ≤ from
    → past_last para ≤ from → from ≤ end → Watches Para from k.chip es end
    → Consistent (speculating k end) host (para ++ es)
watched [] {k} {host} {para} {end = end} good le late stop h =
    rw (append-nil para) (good_raised (speculating k end) good refl (omega arith) (omega arith) (omega arith))
watched (e ∷ es) {k} {host} {para} {end = end} good le late stop h =
    let l = h.3 in
    let t = e.tick + 1 in
    let on = past_last-on para e in
    let first = good_para e k.para t good h.0 (omega arith) (omega arith) h.4 (omega arith) (omega arith) (λ is. omega arith)
    (λ is. omega arith) (λ is. absurd (no_change e.query h.1 is)) in
    let stays = observed_stays k.chip e.side e.query h.1 in
    let good' : Consistent (speculating k t) host (para ++ e ∷ []) = rw stays at first in
    rw (append_assoc para (e ∷ []) es) at (watched es good' (omega arith) (omega arith) (omega arith) h.5)

past_low : (t : ℕ) (xs : List Event) → AllBelow t xs → past_last xs ≤ t
past_low t [] all = omega arith
past_low t (x ∷ []) all = let h = low_head x [] all in omega arith
past_low t (x ∷ y ∷ ys) all = past_low t (y ∷ ys) (low_tail x (y ∷ ys) all)

pub past_append : (t : ℕ) (xs ys : List Event) → AllBelow t ys → past_last (xs ++ ys) ≤ max t (past_last xs)
past_append t [] ys all = let h = past_low t ys all in omega arith
past_append t (x ∷ []) [] all = omega arith
past_append t (x ∷ []) (y ∷ ys) all = let h = past_low t (y ∷ ys) all in omega arith
past_append t (x ∷ z ∷ xs) ys all = past_append t (z ∷ xs) ys all

pub below_same : (t : ℕ) (xs : List Event) → AllBelow t xs → below t xs ≡ xs
below_same t [] all = refl
below_same t (x ∷ xs) all = rw (nat_lt-true x.tick t (low_head x xs all)) (ap (λ l. x ∷ l) (below_same t xs (low_tail x xs all)))
