-- The result of an access, and where steps in a row stop.
use Rattle.std.specs.Prelude.{ℕ, true, max, is_none, ◌≡◌, ◌≤◌, ◌<◌, ◌+◌, ◌-◌, ◌*◌, ◌&&◌, ◌⊎◌, false, nat_lt, if◌then◌else◌, Option, Some, None, IsSome, MatchOption, Result, Ok, Err}
use Rattle.op_table.specs.declared.names.Part.{Part}
use Rattle.op_table.specs.declared.names.Part.TheVariants.{Cmos}
use Rattle.cpu_alu.specs.declared.Cycle.{Cycle}
use Rattle.cpu_alu.specs.declared.Cycle.TheVariants.{Read, Write}
use Rattle.cpu_core.specs.State as cpu
use Rattle.cpu_core.specs.Sequences.{next_cycle}
use Rattle.tube_chip.specs.Act.{access}
use Rattle.tube_chip.specs.declared.Answer.TheVariants.{Byte}
use Rattle.tube_chip.specs.declared.Lines.{Lines}
use Rattle.tube_chip.specs.declared.Op.{Op}
use Rattle.tube_party.specs.Transitions.{FitsAnswer, IsAnswered, PortRun, PortRunToAsk, shown_lines}
use Rattle.tube_machine.specs.declared.bus.Done.{Done}
use Rattle.tube_machine.specs.declared.bus.AccessError.{AccessError}
use Rattle.tube_machine.specs.declared.bus.AccessError.TheVariants.{Tube, Full}
use Rattle.tube_machine.specs.declared.steps.RunExit.{RunExit}
use Rattle.tube_machine.specs.declared.steps.RunExit.TheVariants as left
use Rattle.tube_machine.specs.declared.run.LoopExit.{LoopExit}
use Rattle.tube_machine.specs.declared.run.LoopExit.TheVariants.{Look, Access, End}
use Rattle.tube_machine.specs.BusModel.{BusModel}
use Rattle.tube_machine.specs.Step.{At, is_break, asks, asks_by, byte_of, next_state, transitions_of}

module _ {B : Type 0} (w : BusModel B) where
  -- an access that the Tube answers
  abbrev pub IsAtTube : B → Cycle → Type 0
  IsAtTube b (Read at) = (w.has_tube b && w.is_tube at) ≡ true
  IsAtTube b (Write at byte) = (w.has_tube b && w.is_tube at) ≡ true

  -- An access asks this of the Tube, takes one cycle, and does not change the bus, however far that
  -- is closed.
  pub record IsOneCycle (b : B) (c : Cycle) (op : Op) : Type 0 where
    pub asks : asks_by w b (Some c) ≡ Some (access op)
    pub leaves : (t : ℕ) → w.after (w.close b t) c ≡ w.close b t
    pub fast : (t u : ℕ) → w.takes (w.close b u) t c ≡ w.cycle (w.close b u)

  -- An access at tick t is done, with the devices closed before it; or it asks the Tube; or it
  -- cannot be noted.
  abbrev pub IsExchanged : B → ℕ → Cycle → Result Done AccessError → B → Type 0
  IsExchanged b t c (Ok done) new =
      (asks_by w b (Some c) ≡ None)
      × (done.byte ≡ byte_of w (w.close b (t + 1)) t None c)
      × (new ≡ w.after (w.close b (t + 1)) c)
      × (done.ticks ≡ w.takes (w.close b (t + 1)) t c)
  IsExchanged b t c (Err (Tube o)) new = (asks_by w b (Some c) ≡ Some (access o)) × (new ≡ b)
  IsExchanged b t c (Err Full) new = new ≡ b

  -- An access at tick t is done in one cycle, and the bus after it need not be closed yet; or
  -- nothing has changed.
  abbrev pub IsQuick : B → ℕ → Cycle → Option ℕ → B → Type 0
  IsQuick b t c None new = new ≡ b
  IsQuick b t c (Some byte) new =
      (asks_by w b (Some c) ≡ None)
      × (byte ≡ byte_of w (w.close b (t + 1)) t None c)
      × (w.close new (t + 1) ≡ w.after (w.close b (t + 1)) c)
      × (w.takes (w.close b (t + 1)) t c ≡ w.cycle b)

-- The tick to which the devices count as closed before a step at tick `due`: that of the access of
-- the last cycle, of `cycle` ticks, if there was one after tick `since`.
abbrev pub owed_at : ℕ → ℕ → ℕ → ℕ → ℕ
owed_at cycle since due closed = if nat_lt since due then due - (cycle - 1) else closed

-- The tick to which whole instructions from tick `from` to `due` close the devices, or 0 if there
-- were none.
abbrev pub behind : ℕ → ℕ → ℕ
behind from due = if nat_lt from due then due else 0

module _ (part : Part) {B : Type 0} (w : BusModel B) where
  -- the next step is done, and asks nothing
  abbrev pub IsSilent : At B → At B → Type 0
  IsSilent old new = (asks part w old ≡ None) × (new ≡ next_state part w old None)

  -- The next step is an access that does not change the bus.
  pub record LeavesBus (s : At B) : Type 0 where
    pub cycle : Cycle
    pub op : Op
    pub next : next_cycle part s.cpu ≡ Some cycle
    pub skip : IsOneCycle w s.bus cycle op

  -- the next step is an access to the Tube
  abbrev pub IsAskedByte : At B → Type 0
  IsAskedByte s = MatchOption (asks part w s) ⊥ (λ q. FitsAnswer q (Byte 0))

  -- Where steps in a row stop: at a look, at another step below the end, or past the end.
  abbrev pub IsStop : ℕ → LoopExit → At B → Type 0
  IsStop until Look s = next_cycle part s.cpu ≡ None
  IsStop until Access s = IsSome (next_cycle part s.cpu) × (s.due < until)
  IsStop until End s = until ≤ s.due

-- The next step is done, possibly by the port's answer; or it asks the Tube; or it cannot be noted.
-- The port goes from d to e.
module _ (part : Part) {B D : Type 0} (w : BusModel B) (answers : D → ℕ → Op → ℕ → D → Type 0) where
  abbrev pub IsDone : At B → D → Result (Unit {0}) AccessError → At B → D → Type 0
  IsDone old d (Ok x) new e =
      (IsSilent part w old new × (d ≡ e)) ⊎ ((is_break part w old ≡ false) × IsAnswered (transitions_of part w) answers (old.due + 1) old d new e)
  IsDone old d (Err (Tube o)) new e = (asks part w old ≡ Some (access o)) × (new ≡ old) × (d ≡ e)
  IsDone old d (Err Full) new e = (new ≡ old) × (d ≡ e)

-- A machine at tick `due`, with room for `room` notes, in a sequence of which `seen` cycles were
-- done.
pub record NoteBudget : Type 0 where
  pub due : ℕ
  pub room : ℕ
  pub seen : ℕ

abbrev pub spent : ℕ → ℕ → ℕ → NoteBudget
spent due room seen = record { due = due; room = room; seen = seen }

-- If `counts` holds: at most one note was made for each cycle. For each tick `top` from
-- `safe_until` on, the present sequence began by `top` if the one before did.
pub record HasSpent (counts : Type 0) (cycle safe_until : ℕ) (old new : NoteBudget) : Type 0 where
  pub room : counts → old.due + cycle * old.room ≤ new.due + cycle * new.room
  pub late : counts → (top : ℕ) → safe_until ≤ top → old.due ≤ top + cycle * old.seen → new.due ≤ top + cycle * new.seen

-- the tick of the first access: `due`, or the tick after it if a look is at `due`
abbrev pub ready : Part → cpu.State → ℕ → ℕ
ready part c due = if is_none (next_cycle part c) then due + 1 else due

-- The cost of steps up to an access, of a CMOS part: at most a note for each cycle, and no sequence
-- that began too late. Of other stops nothing is said.
abbrev pub Spends : Part → ℕ → ℕ → NoteBudget → LoopExit → NoteBudget → Type 0
Spends part cycle safe_until old Access new = HasSpent (part ≡ Cmos) cycle safe_until old new
Spends part cycle safe_until old _ new = Unit {0}

-- The steps of a run ask nothing, see these lines, or are accesses that the port answers. They lead
-- to a look, of which nothing more is said, or to an ask. The port goes from d to e. Of a run that
-- cannot be noted nothing is said.
module _ (part : Part) {B D : Type 0} (w : BusModel B) (answers : D → ℕ → Op → ℕ → D → Type 0) where
  abbrev pub IsRun : ℕ → Lines → ℕ → At B → D → RunExit → At B → D → Type 0
  IsRun until lines safe_until old d left.Full new e = Unit {0}
  IsRun until lines safe_until old d (left.Asked ask) new e = PortRunToAsk (transitions_of part w) answers until (shown_lines lines safe_until) old d ask new e
  IsRun until lines safe_until old d left.Look new e =
      ((j : ℕ) × PortRun (transitions_of part w) answers until (shown_lines lines safe_until) j old d new e) × (next_cycle part new.cpu ≡ None)

-- The notes of a run from tick `from` had room for at most the cycles up to `safe_until`, plus 15:
-- each note is of a write, which takes a cycle, and fewer than 16 cycles of the last sequence are
-- done.
abbrev pub IsBudgetExhausted : ℕ → ℕ → ℕ → ℕ → Type 0
IsBudgetExhausted cycle safe_until from room = from + cycle * room ≤ max safe_until from + cycle * 15
