-- The state of a machine that speculates, and its state after the speculation is settled.
use Rattle.std.proofs.Common.{ℕ, ◌≡◌, ◌+◌, ◌≤◌, min, inl, inr, refl, sym, ◌∙◌, ap, subst, arith, List, [], ◌++◌, append-nil, length, take}
use Rattle.std.proofs.Common.{Option, None, Some, MatchOption, IfSome, IfNone}
use Rattle.std.proofs.lemmas.List.{take_all}
use Rattle.beeb_bits.specs.declared.Side.TheVariants.{Para}
use Rattle.tube_chip.specs.Act.{Query, access}
use Rattle.tube_chip.specs.Events.{Event}
use Rattle.tube_trace.specs.declared.Entry.{Entry}
use Rattle.tube_trace.specs.Entries.{accesses}
use Rattle.tube_cell.specs.Views.{AllBelow}
use Rattle.tube_cell.specs.Passes.{PassState, own_horizon}
use Rattle.tube_party.specs.declared.log.Log.{Log}
use Rattle.tube_party.specs.declared.log.LogMark.{LogMark}
use Rattle.tube_party.specs.declared.party.Ask.{Ask}
use Rattle.tube_party.specs.declared.party.Ask.TheVariants.{Nothing, Access, Look}
use Rattle.tube_party.specs.Transitions.{Transitions, IsLawful, Runs, IsAsk, execution}
use Rattle.tube_party.specs.Logs.{HasNoted}
use Rattle.tube_party.specs.Turn.{note_all_leaves}
use Rattle.tube_side.specs.CodeSteps.{all_events}
use Rattle.tube_side.specs.CodeSpeculation.{Speculation, IsSpeculation}
use Rattle.session.specs.CodeSight.{Sight, byte_answer, readings_seen, IsSeen}
use Rattle.session.specs.CodeSideAndLog.{place, SideAndLog}
use Rattle.session.specs.CodeLookahead.{MovedOn}
use Rattle.session.specs.CodeObserved.{HasObserved, IsOver}
use Rattle.session.specs.CodeSpecRun.{speculation_of, SpecStart, spec_start, observed_past, IsReached, IsInSpeculation, IsSettled, IsNoEarlier, SpecRun, IsStillThere, IsInSpecRun, HasGoneFurther}
use Rattle.tube_side.specs.CodeSpecHorizon.{HasSpeculated, HasPassed}
use Rattle.tube_party.proofs.Runs.{Steps, Over, Silent, Asking, steps_of, runs_of}
use Rattle.session.proofs.Runs.{append, rises}
use Rattle.tube_party.proofs.Ways.{still_kept}
use Rattle.session.proofs.Kept.{noted_on, counted_on}
use Rattle.session.proofs.EventLemmas.{events_low, events_under}
use Rattle.session.proofs.Observing.{none_late, below_limit, cut, watches, made, readings_show, seen_on}
use Rattle.session.proofs.InProgress.{asks_there}

-- what is observed makes a speculation
pub is_speculation : {S : Type 0} {m : Transitions S} (lawful : IsLawful m) (n : ℕ) (from : SpecStart S) → IsSpeculation (speculation_of m n from)
is_speculation {m} lawful n from =
    let v = readings_seen from.at.mark.readings in record {
      low = λ t. below_limit lawful Para v t n from.state;
      part = λ t limit le. cut lawful Para v t limit n from.state le;
      none = none_late lawful Para v 0 n from.state (omega arith);
      watches = λ c t is. watches lawful Para v c t n from.state (m.due from.state) (readings_show c Para is) (omega arith);
    }

pub one_reached : (n : ℕ) (ask : Ask) (t u : ℕ) → IsReached n ask t → IsReached n ask u → t ≡ u
one_reached n Nothing t u a b = omega arith
one_reached n (Access v op) t u a b = omega arith
one_reached n (Look v) t u a b = omega arith

module _ {S : Type 0} {m : Transitions S} (lawful : IsLawful m) (n : ℕ) (from : SpecStart S) where
  abbrev sight : Sight
  sight = readings_seen from.at.mark.readings

  -- it continues: what it observes further is noted too
  goes_both : {ask ask2 : Ask} {far : ℕ} {x : SideAndLog S} (y : SideAndLog S) (w : IsInSpeculation m n from ask x) → x.at.state ≡ w.last
      → HasObserved m Para n from.at.mark.readings far x.at.state x.log ask2 y.at.state y.log → IsInSpeculation m n from ask2 y
  goes_both {x = x} y w stood h =
      let events = h.events in
      let all = append m Para n w.steps w.events w.runs (h.steps, rw stood at h.runs) in
      let len = from.at.log.len in
      let l0 = take len x.log.list.items in
      let keep = x.log.keep in
      let old = w.noted in
      let noted = h.noted in
      let grown = still_kept keep x.log.list.items (accesses events) in
      let longer : length x.log.list.items ≤ length y.log.list.items = let e = ap length noted.list_is in omega arith in
      let kept = old.kept in
      let same : take len y.log.list.items ≡ l0 = ap (take len) noted.list_is ∙ grown.1 len kept in
      record {
        events = w.events ++ events;
        steps = all.0;
        last = h.last;
        runs = all.1;
        seen = seen_on sight w.events events w.seen h.seen;
        asked = h.asked;
        noted = record {
          kept = omega arith;
          list_is =
              noted.list_is ∙ ap (λ l. note_all_leaves keep l (accesses events)) old.list_is
              ∙ noted_on keep w.events events l0
              ∙ (λ i. note_all_leaves (sym noted.keep_is i) (sym same i) (accesses (w.events ++ events)));
          count_is = noted.count_is ∙ ap (λ z. z + length (accesses events)) old.count_is ∙ counted_on w.events events from.at.log.count;
        };
        few = w.few;
      }

  -- what was stored before the mark is unchanged
  pub still_there : {x y : Log} {entries : List Entry} → from.at.log.len ≤ length x.list.items → HasNoted entries x y → IsStillThere from.at.log x y
  still_there {x} {entries} kept noted = record {
    kept = ap (take from.at.log.len) noted.list_is ∙ (still_kept x.keep x.list.items entries).1 from.at.log.len kept;
    keep_is = noted.keep_is;
  }

  -- what it observed from the start, with a log as long as the mark says
  pub sets_out : {ask : Ask} {far : ℕ} {log : Log} (y : SideAndLog S) → HasObserved m Para n from.at.mark.readings far from.state log ask y.at.state y.log
      → length log.list.items ≡ from.at.log.len → log.count ≡ from.at.log.count → from.at.log.count ≤ m.due from.state
      → (w : IsInSpeculation m n from ask y) × AllBelow far w.events
  sets_out {log} y h len count few_were =
      let entries = accesses h.events in
      let noted = h.noted in
      let grown = still_kept log.keep log.list.items entries in
      let same : take from.at.log.len y.log.list.items ≡ log.list.items =
      ap (take from.at.log.len) noted.list_is ∙ grown.1 from.at.log.len (omega arith) ∙ take_all from.at.log.len log.list.items (omega arith) in (
        record {
          events = h.events;
          steps = h.steps;
          last = h.last;
          runs = h.runs;
          seen = h.seen;
          asked = h.asked;
          noted = record {
            kept = let e = ap length noted.list_is in omega arith;
            list_is = noted.list_is ∙ (λ i. note_all_leaves (sym noted.keep_is i) (sym same i) entries);
            count_is = omega arith;
          };
          few = few_were;
        },
        h.low,
      )

  -- ---- how far it goes

  -- the tick of what is asked
  pub reached_at : (ask : Ask) (last s : S) (t : ℕ) → IsAsk m n last ask s → IsReached n ask t → t ≡ min n (m.due last)
  reached_at Nothing last s t a r = omega arith
  reached_at (Access v op) last s t a r = omega arith
  reached_at (Look v) last s t a r = omega arith

  -- from an ask it continues: what it observes further joins its speculation
  pub goes_on : {ask ask2 : Ask} {far : ℕ} {x : SideAndLog S} (y : SideAndLog S) {mark : S} → (ask ≡ Nothing → ⊥) → IsInSpeculation m n from ask x
      → HasObserved m Para n from.at.mark.readings far x.at.state x.log ask2 y.at.state y.log → mark ≡ from.state
      → HasGoneFurther m n ask (record { from = from; here = x }) ask2 (record { from = spec_start mark from.at; here = y })
  goes_on {ask} {ask2} {x} y some w h is =
      let stood = (asks_there m n w.last x.at.state ask some w.asked).1 in
      let speculation = goes_both y w stood h in
      let up = (events_low lawful _ n _ _ h.events h.last h.runs).0 in
      let due = ap m.due stood in
      record {
        speculation = rw is speculation;
        further = λ t u a b. let was = reached_at ask _ _ t w.asked a in let now = reached_at ask2 _ _ u h.asked b in omega arith;
        from_is = is;
        log = still_there w.noted.kept h.noted;
      }

  -- it did not continue
  pub stays_here : (ask : Ask) (x : SpecRun S) → IsInSpecRun m n ask x → HasGoneFurther m n ask x ask x
  stays_here ask x speculation =
      record { speculation = speculation; further = λ t u a b. let same = one_reached n ask t u a b in omega arith; from_is = refl; log = record { kept = refl; keep_is = refl } }

  -- ---- settled

  -- what lies below a tick is all that it did
  settled_by : {ask : Ask} {y : SideAndLog S} (a : ℕ) (w : IsInSpeculation m n from ask y) → a ≤ m.due w.last → AllBelow a w.events → a ≤ n → IsSettled m n from a ask y
  settled_by {y = y} a w late low le =
      let same : w.events ≡ observed_past m n from a =
      made lawful Para sight n a w.last (λ k. none_late lawful Para sight a k w.last late) w.steps n from.state w.events w.runs w.seen low (omega arith) in
      record {
        steps = w.steps;
        last = w.last;
        runs = rw same at w.runs;
        asked = w.asked;
        late = late;
        noted = rw same at w.noted;
      }

  pub stands : {t a : ℕ} {ask : Ask} {y : SideAndLog S} → a ≡ t → t ≤ n → IsReached n ask t → IsInSpeculation m n from ask y → IsSettled m n from a ask y
  stands {t} {ask = ask} {y = y} is le at w =
      let e = reached_at ask _ _ t w.asked at in
      let low = (events_low lawful Para n w.steps from.state w.events w.last w.runs).1 in
      let under = events_under lawful Para n w.steps from.state w.events w.last w.runs in
      rw is (settled_by t w (omega arith) (λ i d lt. let a = under i d lt in let b = low i d lt in omega arith) le)

  module _ (two : S) (q : Query) (asks : m.asks two ≡ Some q) (none : sight q ≡ None) where
    -- a run that ends at a query without an answer ends no earlier than another from the same state
    same_run : {one s : S} {es fs : List Event} → Steps m Para n one s es → IsSeen sight es → Steps m Para n two s fs → IsSeen sight fs → m.due one ≤ m.due two
    same_run Over sa b sb = let runs = runs_of m Para n b in rises lawful Para n runs.0 _ _ two runs.1
    same_run (Silent low is on) sa Over sb = cc
    same_run (Silent low is on) sa (Silent low2 is2 on2) sb = same_run on sa on2 sb
    same_run (Silent low is on) sa (Asking y b low2 is2 on2) sb = cc
    same_run (Asking x a low is on) sa Over sb = cc
    same_run (Asking x a low is on) sa (Silent low2 is2 on2) sb = cc
    same_run (Asking x a low is on) sa (Asking y b low2 is2 on2) sb = let same : b ≡ a = cc in same_run on sa.1 (rw same at on2) sb.1

  -- it ran again, as long as it only observes, below a tick that it reached before
  pub went_anew : (t : ℕ) {a : ℕ} {ask ask2 : Ask} {x : SideAndLog S} (y : SideAndLog S) {log : Log} → a ≤ t → t ≤ n → IsReached n ask t → IsInSpeculation m n from ask x
      → length log.list.items ≡ from.at.log.len → log.count ≡ from.at.log.count
      → HasObserved m Para n from.at.mark.readings a from.state log ask2 y.at.state y.log → IsOver from.at.mark.readings a ask2 → IsSettled m n from a ask2 y
  went_anew t {a} {ask} {ask2} {x} y order le at first len count seen over =
      let anew = sets_out y seen len count first.few in
      let w = anew.0 in
      settled_by a w (late w ask2 w.asked over) anew.1 (omega arith)
    where
      late : (w : IsInSpeculation m n from ask2 y) (k : Ask) → IsAsk m n w.last k y.at.state → IsOver from.at.mark.readings a k → a ≤ m.due w.last
      late w Nothing h over = let b = h.0 in omega arith
      late w (Access u op) h (inl after) = let b = h.0 in omega arith
      late w (Access u op) h (inr none) =
          let far = reached_at ask _ _ t first.asked at in
          let r = same_run w.last (access op) h.2 (ap byte_answer none)
          (steps_of m Para n first.steps first.runs) first.seen (steps_of m Para n w.steps w.runs) w.seen in
          omega arith
      late w (Look u) h over = omega arith

-- after a speculation that was settled the party has moved on
pub went : {S : Type 0} (m : Transitions S) (lawful : IsLawful m) {n t : ℕ} {from : SpecStart S} (x : SideAndLog S) {y : SideAndLog S} {ask2 : Ask} {q : PassState}
    → x.at.pass.side ≡ Para → from.state ≡ x.at.state → take from.at.log.len y.log.list.items ≡ x.log.list.items → y.log.keep ≡ x.log.keep → from.at.log.count ≡ x.log.count
    → HasPassed (speculation_of m n from) t x.at.pass q → t ≤ n → y.at.pass ≡ q → IsSettled m n from q.known.spec_horizon ask2 y → MovedOn m n x ask2 y × (y.at.pass.ahead ≡ [])
went {S} m lawful {n} {from} x {y} {q} side at list keep count passed under same back =
    let p = x.at.pass in
    let told = passed.told in
    let new = observed_past m n from q.known.spec_horizon in
    let all : all_events q ≡ all_events p ++ new = (λ i. passed.events i ++ told.ahead i) ∙ append-nil (all_events p ++ new) in
    let up = (events_low lawful _ n _ _ new back.last back.runs).0 in
    let runs : Runs m p.side n back.steps from.state (execution new back.last) = rw side back.runs in
    let horizon : own_horizon y.at.pass ≡ own_horizon q = ap own_horizon same in (
      record {
        added = new;
        steps = back.steps;
        last = back.last;
        runs = subst (λ z. Runs m p.side n back.steps z (execution new back.last)) at runs;
        asked = back.asked;
        noted = record {
          list_is = back.noted.list_is ∙ (λ i. note_all_leaves (keep i) (list i) (accesses new));
          count_is = back.noted.count_is ∙ ap (λ z. z + length (accesses new)) count;
          keep_is = keep;
        };
        same = record {
          cell = ap (λ z. z.cell) same ∙ told.cell;
          side = ap (λ z. z.side) same ∙ told.side;
          speculative = ap (λ z. z.speculative) same ∙ passed.speculative;
        };
        events = ap all_events same ∙ all;
        next = omega arith;
        open_ = omega arith;
      },
      ap (λ z. z.ahead) same ∙ told.ahead,
    )

-- what holds of a value that may be there
pub if_some : {A : Type 0} (o : Option A) (N : Type 0) (P Q : A → Type 0) → MatchOption o N P → ((a : A) → P a → Q a) → IfSome o Q
if_some None N P Q h f = tt
if_some (Some a) N P Q h f = f a h

-- what holds whether it is there or not
pub if_none : {A : Type 0} (o : Option A) (N : Type 0) → N → IfNone o N
if_none None N h = h
if_none (Some a) N h = tt

pub at_reached : (n : ℕ) (ask : Ask) → (t : ℕ) × IsReached n ask t
at_reached n Nothing = (n, refl)
at_reached n (Access t op) = (t.0, refl)
at_reached n (Look t) = (t.0, refl)

pub no_earlier_on : (n : ℕ) (first mid last : Ask) → IsNoEarlier n first mid → IsNoEarlier n mid last → IsNoEarlier n first last
no_earlier_on n first mid last f g t u at_t at_u =
    let at = at_reached n mid in
    let x = f t at.0 at_t at.1 in
    let y = g at.0 u at.1 at_u in
    omega arith

-- it does not matter what the pass knows
pub at_pass : {S : Type 0} {m : Transitions S} {n : ℕ} {from : SpecStart S} {ask : Ask} {x : SideAndLog S} (p : PassState)
    → IsInSpeculation m n from ask x → IsInSpeculation m n from ask (record x { at = place x.at.state p })
at_pass p w = record { events = w.events; steps = w.steps; last = w.last; runs = w.runs; seen = w.seen; asked = w.asked; noted = w.noted; few = w.few }

-- it went further, and further; what the pass knows then does not matter
pub further_on : {S : Type 0} {m : Transitions S} {n : ℕ} {first mid last : Ask} {x y z : SpecRun S} (p : PassState) → y.from.at ≡ x.from.at
    → HasGoneFurther m n first x mid y → HasGoneFurther m n mid y last z
    → HasGoneFurther m n first x last (record z { here = record z.here { at = place z.here.at.state p } })
further_on {n} {first} {mid} {last} {y} {z} p is f g =
    let log = rw is at g.log in
    record {
      speculation = at_pass p g.speculation;
      further = no_earlier_on n first mid last f.further g.further;
      from_is = g.from_is ∙ f.from_is;
      log = record { kept = log.kept ∙ f.log.kept; keep_is = log.keep_is ∙ f.log.keep_is };
    }

-- what was published of it stays true as it continues
pub told_on : {S : Type 0} {m : Transitions S} {n : ℕ} {first second : Ask} {x y : SpecRun S} {w : Speculation} {t u : ℕ} {p q r : PassState} → HasGoneFurther m n first x second y → r ≡ q
    → IsReached n first t → IsReached n second u → HasSpeculated w t p q → HasSpeculated w u p r
told_on {t = t} {u} gone same at_t at_u told =
    let le = gone.further t u at_t at_u in
    rw same (record { cell = told.cell; side = told.side; ahead = told.ahead; far = omega arith; spec_horizon = omega arith; para = told.para; base = told.base; speculating = told.speculating })

-- back at the mark nothing was noted
pub cut_back : {at : LogMark} {x y : Log} (z : Log) → at.len ≡ length x.list.items → at.count ≡ x.count → IsStillThere at x y
    → z.list.items ≡ take at.len y.list.items → z.count ≡ at.count → z.keep ≡ y.keep → HasNoted [] x z
cut_back {at} {x} z len count still list counted keep = record {
  list_is = list ∙ still.kept ∙ take_all at.len x.list.items (omega arith);
  count_is = omega arith;
  keep_is = keep ∙ still.keep_is;
}
