-- What raise, commit, speculate and look require and ensure, over plain variables.
use Rattle.std.proofs.Common.{◌≡◌, ℕ, ◌+◌, ◌<◌, ◌≤◌, Bool, true, MatchBool, if◌then◌else◌, List, [], ◌∷◌, ◌++◌, refl, sym, ap, ◌∙◌, subst, arith, nat_eq, append-nil}
use lib.Pointwise.{pointwise}
use Rattle.std.proofs.lemmas.List.Elements.{All-append}
use Rattle.atomic_table.specs.Seated.{TableId}
use Rattle.crossbeam_utils.specs.Register.{Turns}
use Rattle.beeb_bits.specs.declared.Side.{Side}
use Rattle.beeb_bits.specs.declared.Side.TheVariants.{Host, Para}
use Rattle.tube_chip.specs.declared.Op.{Op}
use Rattle.tube_chip.specs.declared.Lines.{Lines}
use Rattle.tube_chip.specs.State.{State, lines_of}
use Rattle.tube_chip.specs.Act.{chip_after}
use Rattle.tube_chip.specs.Events.{Event}
use Rattle.tube_chip.specs.Packing.{IsChip, PackingIsOneToOne}
use Rattle.tube_cell.specs.Views.{AllBelow, CellSnapshot, words_of, one_side, View, word_of_other, own_bound, other_bound, known_with, Admits, admits, horizon, past_last, spec_horizon_next, spec_horizon_after}
use Rattle.tube_cell.specs.Rules.{CellInvariant, rise, unconfirmed_events, found_view, published_view, speculated_view, Publishes, Speculates, Looks, looked_view}
use Rattle.tube_cell.specs.Passes.{PassState, pass_state_of, Learns, own_horizon, after_raise, after_commit, after_look, after_speculate, access_at, lines_at}
use Rattle.tube_cell.specs.Steps.{Watches, MayPublish, MayLook, MaySpeculate, LookedAt, IsPassOf, CutIs, Local}
use Rattle.tube_cell.proofs.Law.{past_last-on}
use Rattle.tube_cell.proofs.Grows.{speculating, watches_low}
use Rattle.tube_cell.proofs.Keeps.{publishes, speculates, looks}
use Rattle.tube_cell.proofs.Learns.{local_is, cut_kept, bare_horizon, bare_local, pass_fresh, none_low, bare_of, none_of, later_of, bound_falls, bare_confirmed, on_of, finding, learns_of}
use Rattle.tube_cell.proofs.Law.{lower}

-- ---- steps

pub publishes_as : PackingIsOneToOne → {s : Side} (pass : ℕ) {v : View} {es : List Event} {last : State} {end spec_horizon : ℕ} {next : CellSnapshot} {old new : List ℕ}
    → MayPublish s es last end v → IsChip last → spec_horizon ≡ spec_horizon_after s v.known.chip v.known.spec_horizon es
    → next ≡ known_with s last end (word_of_other s v.known) spec_horizon → old ≡ words_of v.known → new ≡ words_of next
    → Turns CellInvariant pass v (λ x. if pointwise nat_eq x old then new else x) (Publishes es next)
publishes_as one {s} pass {v} {last = last} {end} may well spec_horizon_is next_is old_is new_is =
    rw (old_is, new_is) (publishes one s pass may well (next_is ∙ ap (λ t. known_with s last end (word_of_other s v.known) t) spec_horizon_is))

pub speculates_as : PackingIsOneToOne → (pass : ℕ) {v : View} {es : List Event} {spec_horizon : ℕ} {next : CellSnapshot} {old new : List ℕ}
    → MaySpeculate es spec_horizon v → next ≡ speculating v.known spec_horizon → old ≡ words_of v.known → new ≡ words_of next
    → Turns CellInvariant pass v (λ x. if pointwise nat_eq x old then new else x) (Speculates es next)
speculates_as one pass may next_is old_is new_is = rw (old_is, new_is) (speculates one pass may next_is)

pub looks_as : {s : Side} (pass : ℕ) {v : View} {t tick : ℕ} → MayLook s t v → t ≡ tick → Turns CellInvariant pass v (λ x. x) (Looks tick)
looks_as pass may is = rw is at (looks pass may)

-- ---- raise and commit

chip_with : (s : Side) (c : State) (m t a : ℕ) → (known_with s c m t a).chip ≡ c
chip_with Host c m t a = refl
chip_with Para c m t a = refl

-- the pass once its events are published
pub pass_published : (s : Side) {words : List ℕ} {here : State} (end spec_horizon : ℕ) (es : List Event) (v : View) {w : View} → v.role ≡ one_side s → v.speculative ≡ [] → IsChip here
    → w ≡ published_view v es (known_with s here end (word_of_other s v.known) spec_horizon)
    → words ≡ words_of (known_with s here end (word_of_other s v.known) spec_horizon) → IsPassOf s words here w
pass_published s {here} end spec_horizon es v {w} role speculative well w_is words_are =
    let k : w.known ≡ known_with s here end (word_of_other s v.known) spec_horizon = ap (λ u. u.known) w_is in
    let chip : w.known.chip ≡ here = ap (λ x. x.chip) k ∙ chip_with s here end (word_of_other s v.known) spec_horizon in
    pass_fresh s w (ap (λ u. u.role) w_is ∙ role) (subst IsChip (sym chip) well) (words_are ∙ ap words_of (sym k))
    (none_low w.known.spec_horizon (ap (λ u. u.speculative) w_is ∙ speculative)) (ap (λ u. u.ahead) w_is) (sym chip)

-- a pass with nothing unpublished
module _ {id : TableId} {s : Side} {words : List ℕ} {here : State} {p : PassState} {v : View} (view : pass_state_of id s v ≡ p) (is : IsPassOf s words here v) (none : p.ahead ≡ []) where
  bare : v.ahead ≡ []
  bare = bare_of v view none

  local : here ≡ v.known.chip
  local = bare_local is bare

  pub may_raise : (t : ℕ) → p.speculative ≡ [] → own_horizon p ≤ t → MayPublish s [] here t v
  may_raise t speculative later = grind arith

  pub may_look : (t : ℕ) → p.speculative ≡ [] → own_horizon p ≤ t → MayLook s t v
  may_look t speculative later = record { role = is.role; none_speculative = none_of v view speculative; later = later_of v t view none later }

  pub may_commit : {next : State} (t : ℕ) (op : Op) → p.speculative ≡ [] → own_horizon p ≤ t → Admits p.side (other_bound p.side p.known) t → next ≡ chip_after here s op
      → MayPublish s (access_at t s op v.known.chip ∷ []) next (t + 1) v
  may_commit t op speculative later admitted next_is = grind arith

  -- the speculative horizon of a commit, as the code has it of its local chip
  pub commit_spec_horizon : {next : State} (t : ℕ) {spec_horizon known : ℕ} (op : Op) → next ≡ chip_after here s op → known ≡ v.known.spec_horizon
      → spec_horizon ≡ spec_horizon_next s here next t known
      → spec_horizon ≡ spec_horizon_next s v.known.chip (chip_after v.known.chip s op) t v.known.spec_horizon
  commit_spec_horizon t op next_is known_is spec_horizon_is = grind arith

  -- and if it had none unpublished
  pub pass_raised : {next : List ℕ} {new : State} {w : View} (cut end spec_horizon : ℕ) (es : List Event) → CutIs s cut v → p.speculative ≡ [] → IsChip new
      → w ≡ published_view v es (known_with s new end (word_of_other s v.known) spec_horizon)
      → next ≡ words_of (known_with s new end (word_of_other s v.known) spec_horizon) → IsPassOf s next new w × CutIs s cut w
  pass_raised {w = w} cut end spec_horizon es cuts speculative well w_is next_is = (
    pass_published s end spec_horizon es v is.role (none_of v view speculative) well w_is next_is,
    cut_kept s cut v w cuts bare (ap (λ u. u.ahead) w_is),
  )

  pub is_raised : {id' : TableId} {w : View} (t : ℕ) {spec_horizon : ℕ} → id' ≡ id → spec_horizon ≡ v.known.spec_horizon
      → w ≡ published_view v [] (known_with s here t (word_of_other s v.known) spec_horizon)
      → pass_state_of id' s w ≡ after_raise p t
  is_raised t cell spec_horizon_is w_is =
      (λ i. pass_state_of (cell i) s (w_is i))
      ∙ (λ i. record (pass_state_of id s v) {
        events = append-nil v.mine i;
        ahead = sym bare i;
        known = known_with s (local i) t (word_of_other s v.known) (spec_horizon_is i);
        commits = no_more v.commits i;
      })
      ∙ ap (λ q. after_raise q t) view
    where
      no_more : (n : ℕ) → n + 0 ≡ n
      no_more n = omega arith

  pub is_committed : {id' : TableId} {next : State} {w : View} (t : ℕ) {spec_horizon : ℕ} (op : Op) → id' ≡ id → next ≡ chip_after here s op
      → spec_horizon ≡ spec_horizon_next s v.known.chip (chip_after v.known.chip s op) t v.known.spec_horizon
      → w ≡ published_view v (access_at t s op v.known.chip ∷ []) (known_with s next (t + 1) (word_of_other s v.known) spec_horizon) → pass_state_of id' s w ≡ after_commit p t op
  is_committed t op cell next_is spec_horizon_is w_is = grind arith

  pub may_speculate : (es : List Event) (t : ℕ) → p.side ≡ Para → own_horizon p ≤ t → Watches Para (own_horizon p) p.known.chip es t → MaySpeculate es t v
  may_speculate es t side later watches =
      let s_is : s ≡ Para = ap (λ q. q.side) view ∙ side in
      let from = bare_horizon s v bare in
      let h : Watches Para (horizon (own_bound s v.known) (v.mine ++ v.ahead)) v.known.chip es t = subst (λ q. Watches Para (own_horizon q) q.known.chip es t) (sym view) watches in
      record {
        role = is.role ∙ ap one_side s_is;
        speculative = is.speculative;
        later = rw s_is at (later_of v t view none later);
        watches = rw s_is at (subst (λ n. Watches Para n v.known.chip es t) from h);
      }

  pub is_looked : {id' : TableId} {found : List ℕ} {t : ℕ} {lines : Lines} {w : View} → p.speculative ≡ [] → own_horizon p ≤ t → id' ≡ id → LookedAt t s found v w
      → admits s (other_bound s w.known) t ≡ true → lines ≡ lines_of w.known.chip → Learns (after_look p t lines) (pass_state_of id' s w)
  is_looked {id'} {t} {lines} {w} speculative later cell f admitted lines_are =
      let k : CellSnapshot = w.known in
      let on = on_of s v k is.role f.goes_on in
      let no_spec_horizon = none_of v view speculative in
      let w_is : w ≡ looked_view v t s k = rw admitted at f.view_is in
      let looked : List Event = v.mine ++ lines_at t s lines ∷ [] in
      let same = ap (λ l. v.mine ++ lines_at t s l ∷ []) (sym lines_are) in
      let falls = bound_falls s _ k on in
      let now : past_last (w.mine ++ w.ahead) ≡ past_last (looked ++ v.ahead) = (λ i. past_last ((w_is i).mine ++ (w_is i).ahead)) ∙ ap (λ l. past_last (l ++ v.ahead)) same in
      let rest = (λ i. pass_state_of (cell i) s (w_is i)) ∙ (λ i. record (finding (after_look (pass_state_of id s v) t lines) k 0) {
        events = (same ∙ sym (bare_confirmed k looked no_spec_horizon)) i;
        higher = v.higher + rise (is.role i) v.known k;
      }) in
      subst (λ q. Learns (after_look q t lines) (pass_state_of id' s w)) view (learns_of rest is.speculative on (omega arith) (λ some. absurd (some bare)))

-- ---- speculate

pub pass_speculated : {s : Side} {words next : List ℕ} {here : State} {t : ℕ} {es : List Event} {v w : View} → IsPassOf s words here v → v.ahead ≡ [] → MaySpeculate es t v
    → w ≡ speculated_view v es (speculating v.known t) → next ≡ words_of (speculating v.known t) → IsPassOf s next here w
pass_speculated {s} {t} {es} {v} {w} is none may w_is words_are =
    let k : w.known ≡ speculating v.known t = ap (λ u. u.known) w_is in
    let low : AllBelow t (v.speculative ++ es) =
    All-append (λ e. e.tick < t) v.speculative es (lower v.speculative is.speculative (omega arith))
    (watches_low _ t _ es _ may.watches) in
    let chip : w.known.chip ≡ v.known.chip = ap (λ x. x.chip) k in
    pass_fresh s w (ap (λ u. u.role) w_is ∙ is.role) (subst IsChip (sym chip) is.well) (words_are ∙ ap words_of (sym k))
    (rw w_is low)
    (ap (λ u. u.ahead) w_is ∙ none) (bare_local is none ∙ sym chip)

pub is_speculated : {id id' : TableId} {s : Side} {p : PassState} {v w : View} (es : List Event) (t : ℕ) → pass_state_of id s v ≡ p → id' ≡ id
    → w ≡ speculated_view v es (speculating v.known t) → pass_state_of id' s w ≡ after_speculate p es t
is_speculated {s} es t view cell w_is = (λ i. pass_state_of (cell i) s (w_is i)) ∙ ap (λ q. after_speculate q es t) view

-- ---- look

-- what a look leaves of the view, but for the list
looked_as : (b : Bool) (t : ℕ) (s : Side) (v w : View) → MatchBool b (w ≡ looked_view v t s w.known) (w ≡ found_view v w.known)
    → (w.role ≡ v.role) × (w.ahead ≡ v.ahead) × (w.speculative ≡ unconfirmed_events w.known v.speculative)
looked_as b t s v w is = grind arith

pub looked_ahead : {s : Side} {t : ℕ} {words : List ℕ} {v w : View} → LookedAt t s words v w → w.ahead ≡ v.ahead
looked_ahead {s} {t} {v} {w} f = (looked_as (admits s (other_bound s w.known) t) t s v w f.view_is).1

pub looked_local : {s : Side} {words : List ℕ} {old : State} (new : State) {v : View} (w : View) → IsPassOf s words old v → v.ahead ≡ []
    → Local v.known.chip old w.known.chip new → new ≡ w.known.chip
looked_local new w is none local = local_is (bare_local is none) local

pub pass_looked : {s : Side} {words found : List ℕ} {old : State} (new : State) {t : ℕ} {v w : View} → IsPassOf s words old v → v.ahead ≡ [] → v.speculative ≡ []
    → LookedAt t s found v w → Local v.known.chip old w.known.chip new → IsPassOf s found new w
pass_looked {s} {found} new {t} {v} {w} is none speculative f local =
    let left = looked_as (admits s (other_bound s w.known) t) t s v w f.view_is in
    pass_fresh s w (left.0 ∙ is.role) f.well f.words_are (none_low w.known.spec_horizon (left.2 ∙ ap (unconfirmed_events w.known) speculative))
    (left.1 ∙ none) (looked_local new w is none local)

-- ---- own horizons

committed_bound : (s : Side) (k : CellSnapshot) (c : State) (t : ℕ) (old new : State) → own_bound s k ≤ t
    → own_bound s (known_with s c (t + 1) (word_of_other s k) (spec_horizon_next s old new t k.spec_horizon)) ≡ t + 1
committed_bound Host k c t old new le = refl
committed_bound Para k c t old new le = omega arith

pub horizon_raised : (p : PassState) {q : PassState} (t : ℕ) → own_horizon p ≤ t → q ≡ after_raise p t → own_horizon q ≡ t
horizon_raised p t later is = grind arith

-- with an event at t at the end of the list, and an own bound of t + 1 or below
ends_at : (bound : ℕ) (events : List Event) {ahead : List Event} (e : Event) → ahead ≡ [] → bound ≤ e.tick + 1 → horizon bound ((events ++ e ∷ []) ++ ahead) ≡ e.tick + 1
ends_at bound events {ahead} e none le =
    let last : past_last ((events ++ e ∷ []) ++ ahead) ≡ e.tick + 1 =
    ap past_last (ap (λ a. (events ++ e ∷ []) ++ a) none ∙ append-nil (events ++ e ∷ [])) ∙ past_last-on events e in
    omega arith

pub horizon_committed : (p : PassState) {q : PassState} (t : ℕ) (op : Op) → p.ahead ≡ [] → own_horizon p ≤ t → q ≡ after_commit p t op → own_horizon q ≡ t + 1
horizon_committed p t op none later is =
    let k = (after_commit p t op).known in
    let o : own_bound p.side k ≡ t + 1 = committed_bound p.side p.known (chip_after p.known.chip p.side op) t p.known.chip (chip_after p.known.chip p.side op) (omega arith) in
    ap own_horizon is ∙ ends_at (own_bound p.side k) p.events (access_at t p.side op p.known.chip) none (omega arith)

pub horizon_looked : (p : PassState) {q : PassState} (t : ℕ) (lines : Lines) → p.ahead ≡ [] → p.speculative ≡ [] → own_horizon p ≤ t
    → Learns (after_look p t lines) q → own_horizon q ≡ t + 1
horizon_looked p {q} t lines none speculative later learns =
    let is = learns.plain speculative in
    let was = ends_at (own_bound p.side p.known) p.events (lines_at t p.side lines) none (omega arith) in
    let last : past_last (q.events ++ q.ahead) ≡ t + 1 =
    (λ i. past_last ((is i).events ++ (is i).ahead))
    ∙ ap past_last (ap (λ a. (p.events ++ lines_at t p.side lines ∷ []) ++ a) none ∙ append-nil (p.events ++ lines_at t p.side lines ∷ []))
    ∙ past_last-on p.events (lines_at t p.side lines) in
    omega arith

pub horizon_speculated : (p : PassState) {q : PassState} (es : List Event) (t : ℕ) → p.side ≡ Para → own_horizon p ≤ t → q ≡ after_speculate p es t → own_horizon q ≡ t
horizon_speculated p es t side later is = grind arith
