-- The reference run of two parties: one clock, one chip, one list of events.
use Rattle.std.specs.Prelude.{ℕ, zero, suc, ◌≡◌, ◌<◌, ◌+◌, nat_eq, All, Option, None, Some, List, [], ◌∷◌, ◌++◌, if◌then◌else◌}
use Rattle.beeb_bits.specs.declared.Side.{Side}
use Rattle.beeb_bits.specs.declared.Side.TheVariants.{Host, Para}
use Rattle.tube_chip.specs.State.{State, power_on}
use Rattle.tube_chip.specs.Act.{Query, act}
use Rattle.tube_chip.specs.Events.{Event, merge, after, of_side, IsLegal, Rises, IsAnsweredFrom}
use Rattle.tube_trace.specs.declared.Entry.{Entry}
use Rattle.tube_trace.specs.Entries.{IsEntry, accesses, events_of}
use Rattle.tube_party.specs.Transitions.{Transitions, Follows, close_leaves}

-- One party at the chip, with the list of the events done there.
pub record Seat (S : Type 0) : Type 0 where
  pub state : S
  pub chip : State
  pub list : List Event

-- The seat after a step of this side, which asks this: the chip answers, and the event joins the
-- end of the list.
abbrev pub step_leaves : {S : Type 0} → Transitions S → Side → Seat S → Option Query → Seat S
step_leaves m side x None = record { state = m.next x.state None; chip = x.chip; list = x.list }
step_leaves m side x (Some q) =
    record {
      state = m.next x.state (Some (act x.chip side q).1);
      chip = (act x.chip side q).0;
      list = x.list ++ record { tick = m.due x.state; side = side; query = q; answer = (act x.chip side q).1 } ∷ [];
    }

-- the seat after a step of this side, if it is due at tick k
abbrev pub step_if_due : {S : Type 0} → Transitions S → Side → ℕ → Seat S → Seat S
step_if_due m side k x = if nat_eq (m.due x.state) k then step_leaves m side x (m.asks x.state) else x

-- Both parties, the chip between them and the list of the events done there.
pub record World (S T : Type 0) : Type 0 where
  pub host : S
  pub para : T
  pub chip : State
  pub list : List Event

-- a host, with the parasite at the chip
abbrev pub with_host : {S T : Type 0} → S → Seat T → World S T
with_host s y = record { host = s; para = y.state; chip = y.chip; list = y.list }

-- the parasite's part of tick k, after the host's
abbrev pub para_part : {S T : Type 0} → Transitions T → ℕ → Seat S → T → World S T
para_part p k x t = with_host x.state (step_if_due p Para k (record { state = t; chip = x.chip; list = x.list }))

-- Tick k: the host's step, if it is due, and then the parasite's.
abbrev pub tick : {S T : Type 0} → Transitions S → Transitions T → ℕ → World S T → World S T
tick h p k w = para_part p k (step_if_due h Host k (record { state = w.host; chip = w.chip; list = w.list })) w.para

-- the given number of ticks, from tick k on
abbrev pub ticks : {S T : Type 0} → Transitions S → Transitions T → ℕ → ℕ → World S T → World S T
ticks h p zero k w = w
ticks h p (suc j) k w = ticks h p j (k + 1) (tick h p k w)

-- both parties at the power-on chip, before anything was done there
abbrev pub start : {S T : Type 0} → S → T → World S T
start s t = record { host = s; para = t; chip = power_on; list = [] }

-- each party closed at n, or further if it is already
abbrev pub close_both_leaves : {S T : Type 0} → Transitions S → Transitions T → ℕ → World S T → World S T
close_both_leaves h p n w = record { host = close_leaves h w.host n; para = close_leaves p w.para n; chip = w.chip; list = w.list }

-- The reference run of a host and a parasite for n ticks.
abbrev pub reference : {S T : Type 0} → Transitions S → Transitions T → S → T → ℕ → World S T
reference h p s t n = close_both_leaves h p n (ticks h p n 0 (start s t))

-- Two parties that follow lists whose merge is legal end as in the reference run, and its list is
-- the merge.
abbrev pub LegalMergeIsReference : {S T : Type 0} → Transitions S → Transitions T → Type 0
LegalMergeIsReference {S} {T} h p =
    (s u : S) (t v : T) (a b : List Event) (n : ℕ) →
    Follows h Host s a n u →
    Follows p Para t b n v →
    IsLegal (merge a b) →
    reference h p s t n ≡ record { host = u; para = v; chip = after (merge a b); list = merge a b }

-- A world that the reference run ends as: each party follows its side of the list, the list is
-- legal, and the chip is the one after it.
pub record IsFollowed {S T : Type 0} (h : Transitions S) (p : Transitions T) (s : S) (t : T) (n : ℕ) (w : World S T) : Type 0 where
  pub host : Follows h Host s (of_side Host w.list) n w.host
  pub para : Follows p Para t (of_side Para w.list) n w.para
  pub legal : IsLegal w.list
  pub chip : w.chip ≡ after w.list

-- Each party of the reference run follows its side of the list, which is legal.
abbrev pub ReferenceIsFollowed : {S T : Type 0} → Transitions S → Transitions T → Type 0
ReferenceIsFollowed {S} {T} h p = (s : S) (t : T) (n : ℕ) → IsFollowed h p s t n (reference h p s t n)

-- Entries of operations that their sides may do, each before the next and all below n, with the
-- answers of the chip.
pub record IsTraceBelow (n : ℕ) (trace : List Entry) : Type 0 where
  pub entries : All IsEntry trace
  pub rises : Rises (events_of trace)
  pub below : All (λ e. (e.tick).0 < n) trace
  pub answered : IsAnsweredFrom power_on (events_of trace)

-- The accesses of the reference run make a trace.
abbrev pub ReferenceIsTrace : {S T : Type 0} → Transitions S → Transitions T → Type 0
ReferenceIsTrace {S} {T} h p = (s : S) (t : T) (n : ℕ) → IsTraceBelow n (accesses (reference h p s t n).list)
