-- Addresses, which wrap at 65,536, in the zero page or in the stack's page: MCS6500 Programming
-- Manual, chapters 5 to 8.
use Rattle.std.specs.Prelude.{ℕ, ◌+◌, ◌*◌, ◌%◌, Bool, cond, leb}
use Rattle.cpu_alu.specs.declared.Regs.{Regs}

-- two bytes as an address
abbrev pub word : ℕ → ℕ → ℕ
word low high = low + high * 256

abbrev pub wrap : ℕ → ℕ
wrap at = at % 65536

-- the address of byte n of the instruction; byte 0 is its opcode
abbrev pub place : Regs → ℕ → ℕ
place r n = wrap (r.pc + n)

-- the address k above the stack pointer, in its page
abbrev pub stack : Regs → ℕ → ℕ
stack r k = 0x100 + (r.s + k) % 256

-- the registers with S moved up by k in its page
abbrev pub with_stack_moved : Regs → ℕ → Regs
with_stack_moved r k = record r { s = (r.s + k) % 256 }

-- the registers with PC moved past an instruction of the given bytes
abbrev pub with_pc_past : Regs → ℕ → Regs
with_pc_past r bytes = record r { pc = place r bytes }

-- true if adding index to an address with the low byte low crosses a page
abbrev pub crosses_page : ℕ → ℕ → Bool
crosses_page low index = leb 256 (low % 256 + index)

-- the target of a branch of two bytes with the signed operand by
abbrev pub target : Regs → ℕ → ℕ
target r by = wrap (place r 2 + by + cond (leb 128 by) 0xFF00 0)
