-- A machine against its side of a trace. Each access is answered by the side's next entry, each
-- look by the lines of the chip after the entries that come before it. The replay ends at the first
-- place where the machine and the side differ.
use Rattle.std.specs.Prelude.{ℕ, zero, suc, ◌+◌, ◌==◌, ◌&&◌, nat_lt, Bool, Option, None, Some, List, [], ◌∷◌, length, if◌then◌else◌}
use Rattle.beeb_bits.specs.Order.{before}
use Rattle.beeb_bits.specs.declared.Side.{Side}
use Rattle.tube_chip.specs.declared.Op.{Op}
use Rattle.tube_chip.specs.declared.Op.TheVariants.{Read, Write, Reset}
use Rattle.tube_chip.specs.declared.Answer.TheVariants.{Byte, Seen}
use Rattle.tube_chip.specs.State.{State, lines_of, power_on}
use Rattle.tube_chip.specs.Act.{Query, access, look, chip_after}
use Rattle.tube_chip.specs.Events.{is_side}
use Rattle.tube_trace.specs.declared.Entry.{Entry}
use Rattle.tube_party.specs.declared.replaying.Doing.{Doing}
use Rattle.tube_party.specs.Transitions.{Transitions, close_leaves}

-- the chip, from chip c on, after the entries of a trace that come before a step of this side at
-- tick t
abbrev pub chip_before : Side → ℕ → State → List Entry → State
chip_before side t c [] = c
chip_before side t c (x ∷ trace) = if before (x.tick).0 x.side t side then chip_before side t (chip_after c x.side x.op) trace else c

-- an entry with the number of its line
pub record Numbered : Type 0 where
  pub line : ℕ
  pub entry : Entry

-- the side's entries below n, of a trace whose lines count from `line`
abbrev pub own_from : Side → ℕ → ℕ → List Entry → List Numbered
own_from side n line [] = []
own_from side n line (x ∷ trace) =
    if is_side side x.side && nat_lt (x.tick).0 n then record { line = line; entry = x } ∷ own_from side n (line + 1) trace
    else own_from side n (line + 1) trace

abbrev pub same_op : Op → Op → Bool
same_op (Read r) (Read q) = r == q
same_op (Write r v) (Write q w) = r == q && v == w
same_op Reset Reset = Bool.true
same_op (Read r) (Write q w) = Bool.false
same_op (Read r) Reset = Bool.false
same_op (Write r v) (Read q) = Bool.false
same_op (Write r v) Reset = Bool.false
same_op Reset (Read q) = Bool.false
same_op Reset (Write q w) = Bool.false

abbrev pub doing_of : ℕ → Side → Op → Doing
doing_of t side op = record { tick = record { 0 = t }; side = side; op = op }

-- The end of a replay: the machine there, and the place, if they differed. A place is the line of
-- the side's entry, or one past the trace if the side has none, and what the machine does there, if
-- it does something.
pub record Ended (S : Type 0) : Type 0 where
  pub machine : S
  pub place : Option (ℕ × Option Doing)

-- the line of the first entry, if the machine does nothing more
abbrev pub next_line : List Numbered → Option (ℕ × Option Doing)
next_line [] = None
next_line (x ∷ own) = Some (x.line, None)

-- the machine does nothing more below n
abbrev pub finish_leaves : {S : Type 0} → Transitions S → ℕ → S → List Numbered → Ended S
finish_leaves m n s own = record { machine = close_leaves m s n; place = next_line own }

-- the machine is at an access that is not the side's next entry
abbrev pub differs : {S : Type 0} → Transitions S → Side → S → Op → ℕ → Ended S
differs m side s op line = record { machine = s; place = Some (line, Some (doing_of (m.due s) side op)) }

abbrev pub is_that : Entry → ℕ → Op → Bool
is_that x t op = (x.tick).0 == t && same_op x.op op

-- an access, by the side's entries that are left
abbrev pub access_step : {S : Type 0} → Transitions S → Side → ℕ → S → Op → List Numbered → (S → List Numbered → Ended S) → Ended S
access_step m side lines s op [] go = differs m side s op (lines + 1)
access_step m side lines s op (x ∷ own) go =
    if is_that x.entry (m.due s) op then go (m.next s (Some (Byte x.entry.answer))) own else differs m side s op x.line

-- one step, and what follows it
abbrev pub one_step : {S : Type 0} → Transitions S → Side → List Entry → S → List Numbered → Option Query → (S → List Numbered → Ended S) → Ended S
one_step m side trace s own None go = go (m.next s None) own
one_step m side trace s own (Some look) go = go (m.next s (Some (Seen (lines_of (chip_before side (m.due s) power_on trace))))) own
one_step m side trace s own (Some (access op)) go = access_step m side (length trace) s op own go

-- At most k steps one after another, with the side's entries that are left.
abbrev pub replay_from : {S : Type 0} → Transitions S → Side → List Entry → ℕ → ℕ → S → List Numbered → Ended S
replay_from m side trace n zero s own = finish_leaves m n s own
replay_from m side trace n (suc k) s own =
    if nat_lt (m.due s) n then one_step m side trace s own (m.asks s) (replay_from m side trace n k) else finish_leaves m n s own

-- The replay of a machine up to tick n. Ticks rise from step to step, so n steps are enough.
unfoldable pub replay_of : {S : Type 0} → Transitions S → Side → List Entry → ℕ → S → Ended S
replay_of m side trace n s = replay_from m side trace n n s (own_from side n 1 trace)
