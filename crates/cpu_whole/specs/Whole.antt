-- A whole instruction over plain memory: its accesses read or write a byte and have no other
-- effect.
use Rattle.std.specs.Prelude.{◌≡◌, ◌<◌, ◌+◌, ℕ, zero, suc, Bool, true, None, MatchOption, length}
use Rattle.op_table.specs.declared.names.Part.{Part}
use Rattle.cpu_alu.specs.declared.Regs.{Regs}
use Rattle.cpu_alu.specs.declared.Cycle.{Cycle}
use Rattle.cpu_alu.specs.declared.Cycle.TheVariants.{Read, Write}
use Rattle.cpu_alu.specs.declared.flags.TheConstants.{INTERRUPT}
use Rattle.cpu_alu.specs.Flags.{has_flag}
use Rattle.cpu_alu.specs.Addresses.{wrap}
use Rattle.cpu_core.specs.declared.Sequence.TheVariants.{Instruction}
use Rattle.cpu_core.specs.State.{State}
use Rattle.cpu_core.specs.Sequences.{next_cycle, after_byte, after, fresh}

-- plain memory, with states M
pub record Reach (M : Type 0) : Type 0 where
  -- true if a read of an address is one of plain memory, and if a write to it is
  pub reads : ℕ → Bool
  pub writes : ℕ → Bool
  -- the byte that a read shows
  pub byte : M → ℕ → ℕ
  -- put m t n at byte is the memory after cycle n of an instruction that begins at tick t has
  -- written byte to the address at. The first cycle has the number 0.
  pub put : M → ℕ → ℕ → ℕ → ℕ → M

-- The zero page and the stack are plain. Writing a byte back unchanged has no effect if the next
-- cycle writes another byte to that address.
pub record IsPlain {M : Type 0} (g : Reach M) : Type 0 where
  pub low_read : (at : ℕ) → at < 512 → g.reads at ≡ true
  pub low_written : (at : ℕ) → at < 512 → g.writes at ≡ true
  pub again : (m : M) (t n at byte : ℕ) → g.writes at ≡ true → g.put (g.put m t n at (g.byte m at)) t (suc n) at byte ≡ g.put m t (suc n) at byte

-- The three bytes from pc on are read as plain memory.
pub record AreRead {M : Type 0} (g : Reach M) (pc : ℕ) : Type 0 where
  pub first : g.reads pc ≡ true
  pub second : g.reads (wrap (pc + 1)) ≡ true
  pub third : g.reads (wrap (pc + 2)) ≡ true

module _ {M : Type 0} (g : Reach M) where
  -- true if an access is one of plain memory
  abbrev pub is_plain : Cycle → Bool
  is_plain (Read at) = g.reads at
  is_plain (Write at byte) = g.writes at

  -- the byte that an access shows
  abbrev pub shows : M → Cycle → ℕ
  shows m (Read at) = g.byte m at
  shows m (Write at byte) = 0

-- an instruction that begins at tick t
module _ {M : Type 0} (g : Reach M) (t : ℕ) where
  -- the memory after the access of cycle n
  abbrev pub leaves : M → ℕ → Cycle → M
  leaves m n (Read at) = m
  leaves m n (Write at byte) = g.put m t n at byte

  -- k cycles lead from a processor and a memory to others. Each is the next access of the
  -- definition and is plain.
  abbrev pub Carried : Part → ℕ → State → M → State → M → Type 0
  Carried part zero s m last there = (s ≡ last) × (m ≡ there)
  Carried part (suc k) s m last there =
      MatchOption (next_cycle part s) ⊥ (λ c. (is_plain g c ≡ true) × Carried part k (after_byte part s (shows g m c)) (leaves m (length s.seen) c) last there)

-- An instruction begins at tick t with the registers r and the memory m. The instruction is over
-- after the given number of cycles, all of them plain, and leaves the registers new and the memory
-- there. The flag I is unchanged, so an interrupt that is masked during the instruction is masked
-- after it too.
pub record IsDone (part : Part) {M : Type 0} (g : Reach M) (t : ℕ) (r : Regs) (m : M) (cycles : ℕ) (new : Regs) (there : M) : Type 0 where
  pub last : State
  pub carried : Carried g t part cycles (fresh Instruction r) m last there
  pub over : next_cycle part last ≡ None
  pub regs : after part last ≡ new
  pub masks : has_flag new.p INTERRUPT ≡ has_flag r.p INTERRUPT
