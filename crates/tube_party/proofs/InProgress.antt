-- What the loop over both parties keeps.
use Rattle.std.proofs.Common.{ℕ, ◌≡◌, ◌+◌, ◌≤◌, List, [], length, Bool, true, false}
use Rattle.tube_chip.specs.State.{State}
use Rattle.tube_chip.specs.Events.{Event}
use Rattle.tube_trace.specs.declared.Entry.{Entry}
use Rattle.beeb_bits.specs.declared.Side.TheVariants.{Host, Para}
use Rattle.tube_party.specs.declared.log.Log.{Log}
use Rattle.tube_party.specs.declared.party.Ask.{Ask}
use Rattle.tube_party.specs.CodeAtWork.{AtWork}
use Rattle.tube_party.specs.Transitions.{Transitions, IsLawful, IsAsk}
use Rattle.tube_party.specs.Reference.{World, ticks}
use Rattle.tube_party.specs.OneThread.{IsKept}
use Rattle.tube_party.specs.Turn.{note_all_leaves}
use Rattle.tube_party.specs.GoingOn.{IsLike}
use Rattle.tube_party.proofs.Ticks.{world}
use Rattle.tube_party.proofs.Ways.{IsWay}

-- Two parties that run to tick n; the world where the reference began, before which at most `few`
-- accesses of a side were done; and the number of accesses to be stored.
pub record Run (S T : Type 0) : Type 0 where
  pub h : Transitions S
  pub p : Transitions T
  pub lh : IsLawful h
  pub lp : IsLawful p
  pub n : ℕ
  pub few : ℕ
  pub keep : ℕ
  pub w0 : World S T

abbrev pub run_of : {S T : Type 0} {h : Transitions S} {p : Transitions T} → IsLawful h → IsLawful p → ℕ → ℕ → ℕ → World S T → Run S T
run_of {h = h} {p = p} lh lp n few keep w0 = record { h = h; p = p; lh = lh; lp = lp; n = n; few = few; keep = keep; w0 = w0 }

-- where the reference arrives from there
abbrev pub onward : {S T : Type 0} → Run S T → S → T → State → List Event → World S T
onward r s t c l = ticks r.h r.p r.n 0 (world s t c l)

-- a party, the stored accesses, and the number of all
pub record Part (S : Type 0) : Type 0 where
  pub state : S
  pub list : List Entry
  pub count : ℕ

abbrev pub part : {S : Type 0} → S → List Entry → ℕ → Part S
part s list count = record { state = s; list = list; count = count }

abbrev pub part_of : {S : Type 0} → S → Log → Part S
part_of s log = part s log.list.items log.count

-- it at work at a chip
abbrev pub seated : {S : Type 0} → Part S → State → AtWork S
seated a c = record { state = a.state; chip = c; list = a.list; count = a.count }

-- The reference continues from where the parties are, and the stored accesses are those that it has
-- done. The host may already have made looks that come later than the parasite's steps, and
-- accesses that come later than what the parasite observed ahead of it.
pub record IsAt {S T : Type 0} (r : Run S T) (ask_h : Ask) (a : Part S) (b : Part T) (c : State) : Type 0 where
  pub host_last : S
  pub events : List Event
  pub host_asked : IsAsk r.h r.n host_last ask_h a.state
  pub same : IsLike (ticks r.h r.p r.n 0 r.w0) (onward r host_last b.state c events)
  pub host_kept : IsKept Host events r.keep a.list a.count
  pub para_kept : IsKept Para events r.keep b.list b.count
  pub host_few : a.count ≤ r.few + r.h.due host_last
  pub para_few : b.count ≤ r.few + r.p.due b.state

-- the parasite's rollback point: its state, and the length of its log
pub record Mark (T : Type 0) : Type 0 where
  pub state : T
  pub len : ℕ
  pub count : ℕ

abbrev pub mark_of : {T : Type 0} → T → ℕ → ℕ → Mark T
mark_of t len count = record { state = t; len = len; count = count }

-- From there the parasite ran, as the chip shows itself to it, up to its ask: past no event if it
-- is not ahead, and otherwise from its rollback point.
pub record IsGoing {S T : Type 0} (r : Run S T) (ahead : Bool) (from : Mark T) (ask_h ask_p : Ask) (a : Part S) (b : Part T) (c : State) : Type 0 where
  pub mark : Part T
  pub last : T
  pub entries : List Entry
  pub far : ℕ
  pub at : IsAt r ask_h a mark c
  pub way : IsWay r.p r.n far c mark.state last entries
  pub asked : IsAsk r.p r.n last ask_p b.state
  pub list_is : b.list ≡ note_all_leaves r.keep mark.list entries
  pub count_is : b.count ≡ mark.count + length entries
  pub here : ahead ≡ false → way.events ≡ []
  pub back : ahead ≡ true → (mark.state ≡ from.state) × (length mark.list ≡ from.len) × (mark.count ≡ from.count)
