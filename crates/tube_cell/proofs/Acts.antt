-- What act, see and see_all require and ensure: events that are not published yet.
use Rattle.std.proofs.Common.{◌≡◌, ℕ, ◌+◌, ◌<◌, ◌≤◌, ◌^◌, min, max, Bool, true, false, cond, List, [], ◌∷◌, ◌++◌, refl, sym, ap, ◌∙◌, subst, arith, append_assoc, append-nil}
use Rattle.atomic_table.specs.Seated.{TableId}
use Rattle.beeb_bits.specs.declared.Side.{Side}
use Rattle.beeb_bits.specs.declared.Side.TheVariants.{Host, Para}
use Rattle.tube_chip.specs.declared.Op.{Op}
use Rattle.tube_chip.specs.declared.Answer.TheVariants.{Byte, Seen}
use Rattle.tube_chip.specs.State.{State, lines_of}
use Rattle.tube_chip.specs.Act.{answer_of, chip_after}
use Rattle.tube_chip.specs.Events.{Event, after_from}
use Rattle.tube_cell.specs.Views.{AllBelow, CellSnapshot, View, word_of_other, own_bound, other_bound, bound_at, tie_offset, Admits, horizon, past_last, chip_after_event}
use Rattle.tube_cell.specs.Views.{Answers, same_readings, spec_horizon_next, spec_horizon_past, spec_horizon_after}
use Rattle.tube_cell.specs.Rules.{added_view}
use Rattle.tube_cell.specs.Passes.{PassState, pass_state_of, own_horizon, access_at, lines_at, here, spec_horizon_here, bound_here, after_add}
use Rattle.tube_cell.specs.Steps.{Runs, Watches, IsPassOf, CutIs}
use Rattle.tube_cell.proofs.Observed.{observed_stays, spec_horizon_stays}
use Rattle.tube_cell.proofs.Law.{past_last-on}
use Rattle.tube_cell.proofs.Grows.{past_append}
use Rattle.tube_cell.proofs.Learns.{RunsOn, none_of}

-- ---- events that run on

past_last-tail : (e : Event) (es : List Event) → past_last es ≤ past_last (e ∷ es)
past_last-tail e [] = omega arith
past_last-tail e (f ∷ es) = omega arith

module _ (s : Side) (t : ℕ) (last : State) (end : ℕ) where
  runs_from : (es : List Event) (a from : ℕ) (c : State) {more : ℕ} → Runs s t a from c es last end → more ≤ from → Runs s t a more c es last end
  runs_from [] a from c h le = (h.0, omega arith)
  runs_from (e ∷ es) a from c h le = (h.0, omega arith, h.2, h.3, h.4)

  pub runs_later : (es : List Event) (a from : ℕ) (c : State) {more : ℕ} → Runs s t a from c es last end → end ≤ more → Runs s t a from c es last more
  runs_later [] a from c h le = (h.0, omega arith)
  runs_later (e ∷ es) a from c h le = (h.0, h.1, h.2, h.3, runs_later es _ _ _ h.4 le)

  runs_append : (xs : List Event) (a from : ℕ) (c mid : State) (mid_end : ℕ) (ys : List Event) → Runs s t a from c xs mid mid_end
      → Runs s t (spec_horizon_after s c a xs) mid_end mid ys last end → Runs s t a from c (xs ++ ys) last end
  runs_append [] a from c mid mid_end ys h k = runs_from ys _ _ _ (rw h.0 at k) h.1
  runs_append (x ∷ xs) a from c mid mid_end ys h k = (h.0, h.1, h.2, h.3, runs_append xs _ _ _ _ _ ys h.4 k)

  runs_local : (es : List Event) (a from : ℕ) (c : State) → Runs s t a from c es last end → last ≡ after_from c es
  runs_local [] a from c h = h.0
  runs_local (e ∷ es) a from c h = runs_local es _ _ _ h.4

  runs_grow : (es : List Event) (a : ℕ) (c : State) (e : Event) → Runs s t a (e.tick + 1) c es last end → e.tick + 1 ≤ past_last (e ∷ es)
  runs_grow [] a c e h = omega arith
  runs_grow (f ∷ es) a c e h = let y = runs_grow es _ _ f h.4 in omega arith

  runs_tight : (es : List Event) (a from : ℕ) (c : State) {more : ℕ} → Runs s t a from c es last end → horizon from es ≤ more → Runs s t a from c es last more
  runs_tight [] a from c h le = (h.0, omega arith)
  runs_tight (e ∷ es) a from c h le =
      let y = runs_grow es _ _ e h.4 in
      let z = past_last-tail e es in
      (h.0, h.1, h.2, h.3, runs_tight es _ _ _ h.4 (omega arith))

past_last-more : (xs : List Event) (e : Event) (es : List Event) → past_last (xs ++ e ∷ es) ≡ past_last (e ∷ es)
past_last-more [] e es = refl
past_last-more (x ∷ []) e es = refl
past_last-more (x ∷ y ∷ ys) e es = past_last-more (y ∷ ys) e es

spec_horizon_after_append : (s : Side) (c : State) (a : ℕ) (xs ys : List Event) → spec_horizon_after s c a (xs ++ ys) ≡ spec_horizon_after s (after_from c xs) (spec_horizon_after s c a xs) ys
spec_horizon_after_append s c a [] ys = refl
spec_horizon_after_append s c a (x ∷ xs) ys = spec_horizon_after_append s (chip_after_event c x) (spec_horizon_past s c x a) xs ys

-- ---- act and see

-- events that run on from the local chip, after the unpublished ones
abbrev RunsPast : Side → CellSnapshot → List Event → List Event → State → List Event → State → ℕ → Type 0
RunsPast s k mine ahead here = Runs s (word_of_other s k) (spec_horizon_after s k.chip k.spec_horizon ahead) (horizon (own_bound s k) (mine ++ ahead)) here

-- they may join
added_runs : (s : Side) (k : CellSnapshot) (mine ahead : List Event) (here : State) (es : List Event) (last : State) (end : ℕ) → RunsOn s k mine ahead here
    → RunsPast s k mine ahead here es last end → RunsOn s k mine (ahead ++ es) last
added_runs s k mine ahead here es last end on h = runs_append _ _ _ _ ahead _ _ _ _ _ es on (go es h)
  where
    go : (es : List Event) → RunsPast s k mine ahead here es last end → RunsPast s k mine ahead here es last (horizon (own_bound s k) (mine ++ (ahead ++ es)))
    go [] h = let e = ap (λ l. past_last (mine ++ l)) (append-nil ahead) in (h.0, omega arith)
    go (e ∷ es) h =
        let a = runs_grow _ _ _ _ es _ _ e h.4 in
        let z = past_last-tail e es in
        let b : past_last (mine ++ (ahead ++ e ∷ es)) ≡ past_last (e ∷ es) = ap past_last (sym (append_assoc mine ahead (e ∷ es))) ∙ past_last-more (mine ++ ahead) e es in
        (h.0, h.1, h.2, h.3, runs_tight _ _ _ _ es _ _ _ h.4 (omega arith))

pub pass_added : {s : Side} {words : List ℕ} {here last : State} (es : List Event) (end : ℕ) {v w : View} → IsPassOf s words here v → v.speculative ≡ [] → w ≡ added_view v es
    → RunsPast s v.known v.mine v.ahead here es last end → IsPassOf s words last w
pass_added {s} {words} {last = last} es end {v = v} is none w_is runs =
    subst (λ u. IsPassOf s words last u) (sym w_is) (record {
      role = is.role;
      well = is.well;
      words_are = is.words_are;
      speculative = is.speculative;
      not_both = λ some. none;
      runs = added_runs s v.known v.mine v.ahead _ es _ end is.runs runs;
    })

-- the known speculative horizon, cut
spec_horizon_min : (s : Side) (old new : State) (t a cut : ℕ) → spec_horizon_next s old new t (min a cut) ≡ min a (spec_horizon_next s old new t cut)
spec_horizon_min Host old new t a cut = go (same_readings old new)
  where
    go : (b : Bool) → cond b (min a cut) (min (min a cut) t) ≡ min a (cond b cut (min cut t))
    go true = refl
    go false = omega arith
spec_horizon_min Para old new t a cut = refl

-- the event of an access, as the view has it, and as the contract does
abbrev pub act_of : ℕ → Side → Op → View → Event
act_of t s op v = access_at t s op (after_from v.known.chip v.ahead)

abbrev pub see_of : ℕ → Side → View → Event
see_of t s v = lines_at t s (lines_of (after_from v.known.chip v.ahead))

pub local_of : {s : Side} {words : List ℕ} {old : State} {v : View} → IsPassOf s words old v → old ≡ after_from v.known.chip v.ahead
local_of {s} is = runs_local _ _ _ _ _ _ _ _ is.runs

module _ (s : Side) (c : State) (end : ℕ) where
  watch_spec_horizon : (a : ℕ) (es : List Event) (from : ℕ) → Watches s from c es end → spec_horizon_after s c a es ≡ a
  watch_spec_horizon a [] from h = refl
  watch_spec_horizon a (e ∷ es) from h =
      let stays = observed_stays c e.side e.query h.1 in
      (λ i. spec_horizon_after s (stays i) (spec_horizon_stays s e.tick a stays i) es) ∙ watch_spec_horizon a es _ h.5

  watch_here : (es : List Event) (from : ℕ) → Watches s from c es end → after_from c es ≡ c
  watch_here [] from h = refl
  watch_here (e ∷ es) from h = ap (λ d. after_from d es) (observed_stays c e.side e.query h.1) ∙ watch_here es _ h.5

  -- they run on, and end no later than they
  watch_runs : (t a : ℕ) (es : List Event) (from : ℕ) → Watches s from c es end → end + tie_offset s ≤ bound_at s t a + 1 → Runs s t a from c es c (max from end)
  watch_runs t a [] from h le = (refl, omega arith)
  watch_runs t a (e ∷ es) from h le =
      let stays = observed_stays c e.side e.query h.1 in (
        h.0,
        h.2,
        omega arith,
        h.4,
        subst (λ (y : State × ℕ). Runs s t y.1 (e.tick + 1) y.0 es c (max from end)) (λ i. (sym stays i, sym (spec_horizon_stays s e.tick a stays) i))
            (runs_later s t c _ es a _ c (watch_runs t a es _ h.5 le) (omega arith)),
      )

module _ {id : TableId} {s : Side} {words : List ℕ} {old : State} {p : PassState} {v : View} (view : pass_state_of id s v ≡ p) (is : IsPassOf s words old v) where
  local : old ≡ after_from v.known.chip v.ahead
  local = local_of is

  pub here_of : old ≡ here p
  here_of = local ∙ ap here view

  -- one event at the local chip
  one_runs : (e : Event) → e.side ≡ s → own_horizon p ≤ e.tick → Admits p.side (bound_here p) e.tick → Answers old e
      → RunsPast s v.known v.mine v.ahead old (e ∷ []) (chip_after_event old e) (e.tick + 1)
  one_runs e side later admitted answers = grind arith

  pub acted : {new : State} {w : View} (t : ℕ) (op : Op) → p.speculative ≡ [] → own_horizon p ≤ t → Admits p.side (bound_here p) t → new ≡ chip_after old s op
      → w ≡ added_view v (act_of t s op v ∷ []) → IsPassOf s words new w
  acted {w} t op speculative later admitted new_is w_is =
      let e : Event = act_of t s op v in
      let answers : Answers old e = ap (λ c. Byte (answer_of c s op)) local in
      subst (λ c. IsPassOf s words c w) (sym new_is)
      (pass_added _ _ is (none_of v view speculative) w_is (one_runs e refl later admitted answers))

  pub saw : {w : View} (t : ℕ) → p.speculative ≡ [] → own_horizon p ≤ t → Admits p.side (bound_here p) t → w ≡ added_view v (see_of t s v ∷ []) → IsPassOf s words old w
  saw t speculative later admitted w_is =
      let e : Event = see_of t s v in
      let answers : Answers old e = ap (λ c. Seen (lines_of c)) local in
      pass_added _ _ is (none_of v view speculative) w_is (one_runs e refl later admitted answers)

  watch_old : (es : List Event) (end : ℕ) → Watches p.side (own_horizon p) (here p) es end → Watches s (horizon (own_bound s v.known) (v.mine ++ v.ahead)) old es end
  watch_old es end h =
      subst (λ c. Watches s (horizon (own_bound s v.known) (v.mine ++ v.ahead)) c es end) (sym local)
      (subst (λ q. Watches q.side (own_horizon q) (here q) es end) (sym view) h)

  pub saw_all : {w : View} (es : List Event) (end : ℕ) → p.speculative ≡ [] → Watches p.side (own_horizon p) (here p) es end
      → end + tie_offset p.side ≤ bound_here p + 1 → w ≡ added_view v es
      → IsPassOf s words old w
  saw_all es end speculative watches admitted w_is =
      let admitted' : end + tie_offset s ≤ bound_here (pass_state_of id s v) + 1 = subst (λ q. end + tie_offset q.side ≤ bound_here q + 1) (sym view) admitted in
      pass_added _ _ is (none_of v view speculative) w_is (watch_runs s _ _ _ _ es _ (watch_old _ _ watches) admitted')

  pub saw_cut : {w : View} (es : List Event) (end cut : ℕ) → CutIs s cut v → Watches p.side (own_horizon p) (here p) es end → w ≡ added_view v es → CutIs s cut w
  saw_cut es end cut cuts watches w_is =
      subst (CutIs s cut) (sym w_is) (λ a lt.
      spec_horizon_after_append s v.known.chip a v.ahead es
      ∙ watch_spec_horizon s _ _ (spec_horizon_after s v.known.chip a v.ahead) es _
      (rw local at (watch_old _ _ watches))
      ∙ cuts a lt)

-- the other's bound, as the code has it
pub bound_is : {id : TableId} {s : Side} {p : PassState} (v : View) {bound known : ℕ} (cut : ℕ) {spec_horizon : ℕ} → pass_state_of id s v ≡ p → CutIs s cut v
    → known ≡ v.known.spec_horizon → known < 2 ^ 64 → spec_horizon ≡ min known cut → bound ≡ bound_at s (word_of_other s v.known) spec_horizon → bound ≡ bound_here p
bound_is {s} v cut view cuts known_is small spec_horizon_is is =
    is ∙ ap (λ t. bound_at s (word_of_other s v.known) t) (spec_horizon_is ∙ ap (λ n. min n cut) known_is ∙ sym (cuts v.known.spec_horizon (omega arith))) ∙ ap bound_here view

pub bound_bare : (p : PassState) → p.ahead ≡ [] → bound_here p ≡ other_bound p.side p.known
bound_bare p none = ap (λ l. bound_at p.side (word_of_other p.side p.known) (spec_horizon_after p.side p.known.chip p.known.spec_horizon l)) none

pub is_added : {id id' : TableId} {s : Side} {p : PassState} {v w : View} (es : List Event) → pass_state_of id s v ≡ p → id' ≡ id
    → w ≡ added_view v es → pass_state_of id' s w ≡ after_add p es
is_added {s} es view cell w_is = (λ i. pass_state_of (cell i) s (w_is i)) ∙ ap (λ q. after_add q es) view

pub is_acted : {id id' : TableId} {s : Side} {p : PassState} {v w : View} (t : ℕ) (op : Op) → pass_state_of id s v ≡ p → id' ≡ id
    → w ≡ added_view v (act_of t s op v ∷ []) → pass_state_of id' s w ≡ after_add p (access_at t p.side op (here p) ∷ [])
is_acted {s} t op view cell w_is = (λ i. pass_state_of (cell i) s (w_is i)) ∙ ap (λ q. after_add q (access_at t q.side op (here q) ∷ [])) view

pub is_seen : {id id' : TableId} {s : Side} {p : PassState} {v w : View} (t : ℕ) → pass_state_of id s v ≡ p → id' ≡ id
    → w ≡ added_view v (see_of t s v ∷ []) → pass_state_of id' s w ≡ after_add p (lines_at t p.side (lines_of (here p)) ∷ [])
is_seen {s} t view cell w_is = (λ i. pass_state_of (cell i) s (w_is i)) ∙ ap (λ q. after_add q (lines_at t q.side (lines_of (here q)) ∷ [])) view

pub acted_cut : {s : Side} {words : List ℕ} {before after : State} {v w : View} (t cut : ℕ) {next : ℕ} (op : Op) → IsPassOf s words before v → CutIs s cut v
    → after ≡ chip_after before s op → next ≡ spec_horizon_next s before after t cut → w ≡ added_view v (act_of t s op v ∷ []) → CutIs s next w
acted_cut {s} {v} t cut {next} op is cuts after_is next_is w_is =
    subst (CutIs s next) (sym w_is) (λ a lt.
    let local = local_of is in
    let c : State = after_from v.known.chip v.ahead in
    spec_horizon_after_append s v.known.chip a v.ahead (act_of t s op v ∷ [])
    ∙ ap (λ x. spec_horizon_next s c (chip_after c s op) t x) (cuts a lt)
    ∙ spec_horizon_min s c (chip_after c s op) t a cut
    ∙ ap (λ x. min a x) (sym (next_is ∙ (λ i. spec_horizon_next s (local i) ((after_is ∙ ap (λ d. chip_after d s op) local) i) t cut))))

pub saw_one_cut : (s : Side) (cut t : ℕ) (v : View) {w : View} → CutIs s cut v → w ≡ added_view v (see_of t s v ∷ []) → CutIs s cut w
saw_one_cut s cut t v cuts w_is =
    subst (CutIs s cut) (sym w_is) (λ a lt.
    spec_horizon_after_append s v.known.chip a v.ahead (see_of t s v ∷ [])
    ∙ spec_horizon_stays s t (spec_horizon_after s v.known.chip a v.ahead) refl
    ∙ cuts a lt)

after_append : (c : State) (xs ys : List Event) → after_from c (xs ++ ys) ≡ after_from (after_from c xs) ys
after_append c [] ys = refl
after_append c (x ∷ xs) ys = after_append (chip_after_event c x) xs ys

pub here_watched : (p : PassState) {q : PassState} (es : List Event) (end : ℕ) → Watches p.side (own_horizon p) (here p) es end → q ≡ after_add p es → here q ≡ here p
here_watched p es end watches is = ap here is ∙ after_append p.known.chip p.ahead es ∙ watch_here _ _ _ es _ watches

pub bound_watched : (p : PassState) {q : PassState} (es : List Event) (end : ℕ) → Watches p.side (own_horizon p) (here p) es end → q ≡ after_add p es → bound_here q ≡ bound_here p
bound_watched p es end watches is =
    ap bound_here is
    ∙ ap (λ t. bound_at p.side (word_of_other p.side p.known) t)
    (spec_horizon_after_append p.side p.known.chip p.known.spec_horizon p.ahead es ∙ watch_spec_horizon _ _ _ (spec_horizon_here p) es _ watches)

pub horizon_past : (p : PassState) {q : PassState} (es : List Event) → q ≡ after_add p es → (t : ℕ) → own_horizon p ≤ t → AllBelow t es → own_horizon q ≤ t
horizon_past p es is t le low =
    let e = ap own_horizon is in
    let a = past_append t (p.events ++ p.ahead) es low in
    let b = ap past_last (append_assoc p.events p.ahead es) in
    omega arith

pub horizon_added : (p : PassState) {q : PassState} (e : Event) → own_horizon p ≤ e.tick → q ≡ after_add p (e ∷ []) → own_horizon q ≡ e.tick + 1
horizon_added p e later is =
    let end : past_last (p.events ++ (p.ahead ++ e ∷ [])) ≡ e.tick + 1 = ap past_last (sym (append_assoc p.events p.ahead (e ∷ []))) ∙ past_last-on (p.events ++ p.ahead) e in
    ap own_horizon is ∙ (omega arith)
