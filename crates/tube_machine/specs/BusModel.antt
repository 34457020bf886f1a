-- The model of the bus of a machine at the Tube.
use Rattle.std.specs.Prelude.{ℕ, ◌≡◌, ◌≤◌, max, Bool, true, false}
use Rattle.cpu_alu.specs.declared.Cycle.{Cycle}
use Rattle.tube_chip.specs.declared.Lines.{Lines}

-- A bus whose states are B, with the devices on it, and the counts of the Tube's lines that it has
-- taken.
pub record BusModel (B : Type 0) : Type 0 where
  -- the number of ticks of a cycle
  pub cycle : B → ℕ
  -- there is a Tube; and an address is the Tube's
  pub has_tube : B → Bool
  pub is_tube : ℕ → Bool
  -- the byte that a read at a tick yields, if the Tube does not answer
  pub answer : B → ℕ → ℕ → ℕ
  -- the bus after an access
  pub after : B → Cycle → B
  -- the number of ticks of an access that begins at a tick
  pub takes : B → ℕ → Cycle → ℕ
  -- a look that sees these lines is to take a reset, an NMI, an IRQ
  pub resets : B → Lines → Bool
  pub nmi : B → Lines → Bool
  pub irq : B → Lines → Bool
  -- the bus after a look that finds the processor held, one at which a reset begins, and any other
  pub held : B → B
  pub reset : B → Lines → B
  pub taken : B → Lines → B
  -- a break is pending at a tick; and the bus after it was taken there
  pub pending : B → ℕ → Bool
  pub broken : B → ℕ → B
  -- the tick below which device steps are done; and the bus with those below another done too
  pub closed : B → ℕ
  pub close : B → ℕ → B

-- What holds of each bus. A cycle has 2 to 6 ticks, and an access takes at least a cycle. Steps
-- leave the length of a cycle, and accesses and looks without a reset leave the pending breaks.
-- Closing a bus and then closing it further is closing it further at once, and leaves its Tube.
pub record IsWired {B : Type 0} (w : BusModel B) : Type 0 where
  pub some : (b : B) → 2 ≤ w.cycle b
  pub few : (b : B) → w.cycle b ≤ 6
  pub ticks : (b : B) (t : ℕ) (c : Cycle) → w.cycle b ≤ w.takes b t c
  pub closed : (b : B) (t : ℕ) → w.closed (w.close b t) ≡ max t (w.closed b)
  pub again : (b : B) (t u : ℕ) → t ≤ u → w.close (w.close b t) u ≡ w.close b u
  pub still : (b : B) (t : ℕ) → t ≤ w.closed b → w.close b t ≡ b
  pub tube_close : (b : B) (t : ℕ) → w.has_tube (w.close b t) ≡ w.has_tube b
  pub cycle_close : (b : B) (t : ℕ) → w.cycle (w.close b t) ≡ w.cycle b
  pub cycle_after : (b : B) (c : Cycle) → w.cycle (w.after b c) ≡ w.cycle b
  pub cycle_taken : (b : B) (l : Lines) → w.cycle (w.taken b l) ≡ w.cycle b
  pub pending_close : (b : B) (u t : ℕ) → w.pending (w.close b u) t ≡ w.pending b t
  pub pending_after : (b : B) (c : Cycle) (t : ℕ) → w.pending (w.after b c) t ≡ w.pending b t
  pub pending_taken : (b : B) (l : Lines) (t : ℕ) → w.pending (w.taken b l) t ≡ w.pending b t
  pub closed_taken : (b : B) (l : Lines) → w.closed (w.taken b l) ≡ w.closed b
  pub closed_held : (b : B) → w.closed (w.held b) ≡ w.closed b
  pub closed_reset : (b : B) (l : Lines) → w.closed (w.reset b l) ≡ w.closed b
  pub closed_broken : (b : B) (t : ℕ) → w.closed (w.broken b t) ≡ w.closed b
  pub cycle_held : (b : B) → w.cycle (w.held b) ≡ w.cycle b
  pub cycle_reset : (b : B) (l : Lines) → w.cycle (w.reset b l) ≡ w.cycle b
  pub cycle_broken : (b : B) (t : ℕ) → w.cycle (w.broken b t) ≡ w.cycle b

-- Looks that see these lines are plain: they take no reset. Accesses, closing and such looks do not
-- change that.
pub record StaysPlain {B : Type 0} (w : BusModel B) (plain : B → Lines → Bool) : Type 0 where
  pub resets : (b : B) (l : Lines) → plain b l ≡ true → w.resets b l ≡ false
  pub close : (b : B) (l : Lines) (t : ℕ) → plain (w.close b t) l ≡ plain b l
  pub after : (b : B) (l : Lines) (c : Cycle) → plain (w.after b c) l ≡ plain b l
  pub taken : (b : B) (l : Lines) → plain b l ≡ true → plain (w.taken b l) l ≡ true
