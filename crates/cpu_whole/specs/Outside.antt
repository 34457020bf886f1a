-- An instruction whose last access may be outside plain memory. All its other accesses are reads of
-- plain memory.
use Rattle.std.specs.Prelude.{◌≡◌, ℕ, Bool, true, false, Option, Some, None}
use Rattle.op_table.specs.declared.names.Part.{Part}
use Rattle.op_table.specs.declared.names.Mnemonic.{Mnemonic}
use Rattle.op_table.specs.declared.names.Mnemonic.TheVariants.{Adc, Sbc}
use Rattle.cpu_alu.specs.declared.Regs.{Regs}
use Rattle.cpu_alu.specs.declared.Cycle.{Cycle}
use Rattle.cpu_alu.specs.declared.Cycle.TheVariants.{Read, Write}
use Rattle.cpu_alu.specs.declared.uses.BusUse.TheVariants.{Reads}
use Rattle.cpu_alu.specs.declared.flags.TheConstants.{INTERRUPT}
use Rattle.cpu_alu.specs.Flags.{has_flag}
use Rattle.cpu_alu.specs.Addresses.{with_pc_past}
use Rattle.cpu_alu.specs.Instructions.{bus_use, read_result}
use Rattle.cpu_core.specs.declared.Sequence.TheVariants.{Instruction}
use Rattle.cpu_core.specs.State.{State}
use Rattle.cpu_core.specs.Sequences.{next_cycle, after_byte, after, fresh}
use Rattle.cpu_whole.specs.Whole.{Reach, Carried}
use Rattle.cpu_whole.specs.declared.outside.LastAccess.{LastAccess}

-- the last access
abbrev pub access_by : ℕ → Option ℕ → Cycle
access_by at None = Read at
access_by at (Some byte) = Write at byte

abbrev pub access_of : LastAccess → Cycle
access_of o = access_by o.at o.value

-- the registers after the last access; byte is the byte that it reads
abbrev pub outcome_by : Part → LastAccess → Regs → ℕ → Option ℕ → Regs
outcome_by part o r byte None = read_result part o.mnemonic o.mode (with_pc_past r o.bytes) byte
outcome_by part o r byte (Some value) = with_pc_past r o.bytes

abbrev pub outcome : Part → LastAccess → Regs → ℕ → Regs
outcome part o r byte = outcome_by part o r byte o.value

-- true if a sum may be decimal
abbrev pub adds : Mnemonic → Bool
adds Adc = true
adds Sbc = true
adds _ = false

-- If the last access reads, the instruction is no sum and no difference.
abbrev pub CanTakeIn : LastAccess → Type 0
CanTakeIn o = o.value ≡ None → (bus_use o.mnemonic ≡ Reads) × (adds o.mnemonic ≡ false)

-- An instruction begins at tick t with the registers r and the memory m. o.cycles cycles lead to
-- its last access; all of them are plain and leave the memory unchanged. The last access ends the
-- instruction, and the byte read there determines the registers. The flag I is unchanged.
pub record IsOutside (part : Part) {M : Type 0} (g : Reach M) (t : ℕ) (r : Regs) (m : M) (o : LastAccess) : Type 0 where
  pub last : State
  pub carried : Carried g t part o.cycles (fresh Instruction r) m last m
  pub next : next_cycle part last ≡ Some (access_of o)
  pub over : (byte : ℕ) → next_cycle part (after_byte part last byte) ≡ None
  pub regs : (byte : ℕ) → after part (after_byte part last byte) ≡ outcome part o r byte
  pub masks : (byte : ℕ) → has_flag (outcome part o r byte).p INTERRUPT ≡ has_flag r.p INTERRUPT
  pub kind : CanTakeIn o
