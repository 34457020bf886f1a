-- What a party read at the port of its status registers is what it observed.
use Rattle.std.proofs.Common.{ℕ, zero, suc, ◌≡◌, ◌<◌, ◌≤◌, ◌⊎◌, inl, inr, refl, sym, ◌∙◌, ap, subst, arith, List, [], ◌∷◌, ◌++◌, None, Some}
use Rattle.std.proofs.lemmas.List.Elements.{All-append}
use Rattle.beeb_bits.specs.declared.Side.{Side}
use Rattle.beeb_bits.specs.declared.Tick.{Tick}
use Rattle.tube_chip.specs.declared.Answer.TheVariants.{Byte}
use Rattle.tube_chip.specs.declared.Op.{Op}
use Rattle.tube_chip.specs.Act.{access}
use Rattle.tube_chip.specs.Events.{Event}
use Rattle.tube_trace.specs.Entries.{accesses}
use Rattle.tube_cell.specs.declared.local.Readings.{Readings}
use Rattle.tube_cell.specs.Views.{AllBelow}
use Rattle.tube_party.specs.declared.log.Log.{Log}
use Rattle.tube_party.specs.declared.party.Ask.{Ask}
use Rattle.tube_party.specs.declared.party.Ask.TheVariants.{Nothing, Access, Look}
use Rattle.tube_party.specs.Transitions.{Transitions, IsLawful, Looks, PortRun, PortRunToAsk, PortRunToAnyAsk, IsNotSafe, shown_lines}
use Rattle.tube_party.specs.Logs.{HasNoted, none_noted}
use Rattle.tube_side.specs.CodeSteps.{event_at}
use Rattle.session.specs.declared.port.StatusPort.{StatusPort}
use Rattle.session.specs.CodeSight.{byte_seen, byte_answer, readings_seen, IsSeen}
use Rattle.session.specs.CodePort.{Shown, IsRead}
use Rattle.session.specs.CodeObserved.{HasObserved, IsOver}
use Rattle.tube_party.proofs.Runs.{Over, Asking, SomeRuns, runs_of, glances_of}
use Rattle.session.proofs.Runs.{append}
use Rattle.session.proofs.Kept.{noted_both}
use Rattle.session.proofs.Observing.{looked, seen_on}
use Rattle.tube_cell.proofs.Law.{low_cons, low_nil}

-- The port is of this side, and has the status registers of these readings below that tick.
pub record IsAt (side : Side) (r : Readings) (t : ℕ) (d : Shown) : Type 0 where
  pub side_is : d.side ≡ side
  pub status_is : d.status ≡ r.status
  pub below_is : d.below ≡ t

-- A party of a side went from one state to another: each query below the tick saw these readings,
-- and accesses were noted.
pub record HasGone {S : Type 0} (m : Transitions S) (side : Side) (n : ℕ) (r : Readings) (t : ℕ) (old : S) (before : Log) (new : S) (after : Log) : Type 0 where
  pub events : List Event
  pub runs : SomeRuns m side n old events new
  pub seen : IsSeen (readings_seen r) events
  pub low : AllBelow t events
  pub noted : HasNoted (accesses events) before after

-- a read leaves such a port
pub read_leaves : {side : Side} {r : Readings} {t tick : ℕ} {op : Op} {byte : ℕ} {d e : Shown} → IsAt side r t d → IsRead d tick op byte e → IsAt side r t e
read_leaves at h = record { side_is = h.side_is ∙ at.side_is; status_is = h.status_is ∙ at.status_is; below_is = h.below_is ∙ at.below_is }

module _ {S : Type 0} {m : Transitions S} (lawful : IsLawful m) {side : Side} {n : ℕ} {r : Readings} {t : ℕ} where
  -- it stayed
  pub is_here : (s : S) (log : Log) → HasGone m side n r t s log s log
  is_here s log = record { events = []; runs = (zero, (refl, refl)); seen = tt; low = low_nil; noted = none_noted log }

  -- it went there, and on
  goes_on : {s u v : S} {a b c : Log} → HasGone m side n r t s a u b → HasGone m side n r t u b v c → HasGone m side n r t s a v c
  goes_on f g = record {
    events = f.events ++ g.events;
    runs = append m _ n _ f.events f.runs.1 g.runs;
    seen = seen_on _ _ _ f.seen g.seen;
    low = All-append (λ e. e.tick < t) f.events g.events f.low g.low;
    noted = noted_both f.events g.events f.noted g.noted;
  }

  -- among looks
  by_looks : (k : ℕ) (s u : S) (log : Log) → Looks m n (shown_lines r.lines t) k s u → HasGone m side n r t s log u log
  by_looks k s u log looks =
      let l = looked lawful side (readings_seen r) n r.lines refl (glances_of m n (shown_lines r.lines t) k looks) in
      record {
        events = l.events;
        runs = runs_of m side n l.runs;
        seen = l.seen;
        low = l.low;
        noted = rw l.silent (none_noted log);
      }

  -- by one read
  by_read : (s : S) {op : Op} {byte : ℕ} {d e : Shown} → m.due s < n → m.asks s ≡ Some (access op) → IsAt side r t d → IsRead d (m.due s) op byte e
      → HasGone m side n r t s d.log (m.next s (Some (Byte byte))) e.log
  by_read s {op} {byte} {d} {e} under asks at h =
      let event : Event = event_at (m.due s) side (access op) (Byte byte) in
      record {
        events = event ∷ [];
        runs = runs_of m side n (Asking (access op) (Byte byte) under asks Over);
        seen = (ap byte_answer (ap (λ z. byte_seen z op) (sym at.status_is) ∙ h.byte_is), tt);
        low = low_cons event [] (omega arith) low_nil;
        noted = rw at.side_is at h.noted;
      }

  -- among looks and reads, which leave such a port
  by_port_run : (j : ℕ) (s last : S) {d : Shown} (e : Shown) → IsAt side r t d → PortRun m IsRead n (shown_lines r.lines t) j s d last e
      → HasGone m side n r t s d.log last e.log × IsAt side r t e
  by_port_run zero s last {d} e at h = subst (λ x. HasGone m side n r t s d.log last x.log × IsAt side r t x) h.0 (by_looks _ s _ d.log h.1.1, at)
  by_port_run (suc j) s last {d} e at h =
      let read = by_read h.0 h.4.below h.4.asks at h.4.answered in
      let rest = by_port_run j h.1 last e (read_leaves at h.4.answered) h.5 in
      (goes_on (by_looks _ s _ d.log h.3.1) (goes_on (rw h.4.goes read) rest.0), rest.1)

  -- it went on, and this is asked next
  pub port_run_to_ask_on : {s u new : S} {a : Log} {d e : Shown} {ask : Ask} → IsAt side r t d → HasGone m side n r t s a u d.log
      → PortRunToAnyAsk m IsRead n (shown_lines r.lines t) u d ask new e
      → HasObserved m side n r t s a ask new e.log × IsAt side r t e
  port_run_to_ask_on {u} {e} at gone went =
      let talked = by_port_run _ u _ e at went.port_run in
      let all = goes_on gone talked.0 in
      (record { events = all.events; steps = all.runs.0; last = went.last; runs = all.runs.1; seen = all.seen; low = all.low; asked = went.asked; noted = all.noted }, talked.1)

  -- as above, if the port is asked, which stays such a port
  pub observes_on : {s u new : S} {a : Log} {d e : Shown} {ask asked : Ask} → ask ≡ asked → IsAt side r t d → HasGone m side n r t s a u d.log
      → PortRunToAsk m IsRead n (shown_lines r.lines d.below) u d ask new e → HasObserved m side n r t s a asked new e.log × IsNotSafe t asked × IsAt side r t e
  observes_on {u} {new} {d} {e} {asked = asked} is at gone port_run_to_ask =
      let h = subst (λ z. PortRunToAsk m IsRead n (shown_lines r.lines z) u d asked new e) at.below_is (rw is at port_run_to_ask) in
      let went = port_run_to_ask_on at gone (record { accesses = h.accesses; last = h.last; port_run = h.port_run; asked = h.asked }) in
      (went.0, h.not_safe, went.1)

  -- the port was left as it was
  pub still_observed : {s new : S} {a : Log} {d e : StatusPort} {ask : Ask} → e ≡ d → HasObserved m side n r t s a ask new d.log → HasObserved m side n r t s a ask new e.log
  still_observed {s} {new} {a} {ask} is h = rw is h

  -- the read was done that was asked
  pub reads_on : {s new v : S} {a : Log} (tick : Tick) {op : Op} {byte : ℕ} {d e : Shown} → IsAt side r t d
      → HasObserved m side n r t s a (Access tick op) new d.log → IsRead d tick.0 op byte e
      → v ≡ m.next new (Some (Byte byte)) → HasGone m side n r t s a v e.log
  reads_on {s} {a} tick {op} {byte} {d} {e} at h read is =
      let due = h.asked.0 in
      let so_far : HasGone m side n r t s a h.last d.log = record { events = h.events; runs = (h.steps, h.runs); seen = h.seen; low = h.low; noted = h.noted } in
      let one = by_read h.last (omega arith) h.asked.2 at (rw due at read) in
      subst (λ z. HasGone m side n r t s a z e.log) (ap (λ z. m.next z (Some (Byte byte))) (sym h.asked.3) ∙ sym is)
      (goes_on so_far one)

-- what a party read at the port is what it observed
pub heard : {S : Type 0} {m : Transitions S} (lawful : IsLawful m) {side : Side} {n : ℕ} (r : Readings) {t : ℕ} {s : S} {d : Shown} {ask : Ask} {new : S} {e : Shown}
    → d.side ≡ side → d.status ≡ r.status → d.below ≡ t → PortRunToAnyAsk m IsRead n (shown_lines r.lines t) s d ask new e → HasObserved m side n r t s d.log ask new e.log
heard lawful {side} {n} r {t} {s} {d} own shows at went =
    (port_run_to_ask_on lawful (record { side_is = own; status_is = shows; below_is = at }) (is_here lawful s d.log) went).0

-- a run that did not stop at an access is over
pub over_unasked : (r : Readings) (t : ℕ) (ask : Ask) → ((u : Tick) (op : Op) → ask ≡ Access u op → ⊥) → IsNotSafe t ask → IsOver r t ask
over_unasked r t Nothing not h = tt
over_unasked r t (Access u op) not h = absurd (not u op refl)
over_unasked r t (Look u) not h = h

-- and so is one that stopped at an access that the port does not answer
pub over_unanswered : {side : Side} {r : Readings} {t : ℕ} {d : Shown} (u : Tick) (op : Op) → IsAt side r t d
    → (d.below ≤ u.0) ⊎ (byte_seen d.status op ≡ None) → IsOver r t (Access u op)
over_unanswered u op at (inl late) = inl (omega arith)
over_unanswered u op at (inr none) = inr (ap (λ z. byte_seen z op) (sym at.status_is) ∙ none)
