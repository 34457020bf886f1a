-- The cycles of an instruction after that of its opcode, and those before its operand.
use Rattle.std.specs.Prelude.{◌≡◌, ℕ, zero, suc, Bool, true, false, List, [], ◌∷◌, ◌++◌, length, Option, Some, None, MatchOption, slice_get}
use Rattle.op_table.specs.declared.names.Part.{Part}
use Rattle.op_table.specs.declared.names.Mode.{Mode}
use Rattle.op_table.specs.declared.names.Mode.TheVariants.{Spare, Zp, ZpX, ZpY, Abs, AbsX, AbsY, IndX, IndY, IndZp}
use Rattle.op_table.specs.declared.names.Mnemonic.{Mnemonic}
use Rattle.op_table.specs.declared.names.Mnemonic.TheVariants.{Cli, Nop, Pla, Plx, Ply, Sei}
use Rattle.cpu_alu.specs.declared.Regs.{Regs}
use Rattle.cpu_alu.specs.declared.Cycle.{Cycle}
use Rattle.cpu_alu.specs.declared.uses.BusUse.{BusUse}
use Rattle.cpu_alu.specs.declared.uses.BusUse.TheVariants.{Shifts, Modifies, Breaks}
use Rattle.cpu_alu.specs.declared.Cycle.TheVariants.{Read}
use Rattle.op_table.specs.declared.rows.Row.{Row}
use Rattle.cpu_alu.specs.Addresses.{place, with_pc_past}
use Rattle.cpu_alu.specs.Instructions.{bus_use, modify_result}
use Rattle.cpu_whole.specs.declared.known.Known.{Known}
use Rattle.cpu_core.specs.Accesses.{row_at, reach, address, operand, modify_form, form, jump_form, through}
use Rattle.cpu_core.specs.Results.{after_row, indirect_target, jump_target}
use Rattle.cpu_core.specs.Sequences.{shown_byte}
use Rattle.cpu_whole.specs.Whole.{Reach, is_plain, shows, leaves}

-- k cycles after the opcode's; each is the next access after what those before it showed
abbrev pub Follows : {M : Type 0} → Reach M → ℕ → (List (Option ℕ) → Option Cycle) → ℕ → List (Option ℕ) → M → List (Option ℕ) → M → Type 0
Follows g t next zero seen m last there = (seen ≡ last) × (m ≡ there)
Follows g t next (suc k) seen m last there =
    MatchOption (next seen) ⊥ (λ c. (is_plain g c ≡ true) × Follows g t next k (seen ++ shown_byte (Some c) (shows g m c) ∷ []) (leaves g t m (suc (length seen)) c) last there)

-- k plus the number of elements of a list
abbrev pub more_by : List (Option ℕ) → ℕ → ℕ
more_by [] k = k
more_by (x ∷ xs) k = suc (more_by xs k)

-- the next access, first those up to the operand, then those of the list tail
abbrev pub on_the_way : Part → Mode → Bool → Regs → ℕ → (List (Option ℕ) → List Cycle) → List (Option ℕ) → Option Cycle
on_the_way part way always r op tail f = slice_get (reach part way always r (Some op ∷ f) ++ tail f) (length f)

-- The first n cycles are plain, that of the opcode among them, and the operand's is next. The
-- operand's address is at. Any further accesses continue from there.
pub record IsReached (part : Part) {M : Type 0} (g : Reach M) (t : ℕ) (way : Mode) (always : Bool) (r : Regs) (m : M) (at n : ℕ) : Type 0 where
  pub seen : List (Option ℕ)
  pub count : n ≡ suc (length seen)
  pub found : (f : List (Option ℕ)) → address way r (Some (g.byte m r.pc) ∷ seen ++ f) ≡ at
  pub steps : (f : List (Option ℕ)) → length (reach part way always r (Some (g.byte m r.pc) ∷ seen ++ f)) ≡ length seen
  pub goes : (tail : List (Option ℕ) → List Cycle) (k : ℕ) (last : List (Option ℕ)) (there : M)
      → Follows g t (on_the_way part way always r (g.byte m r.pc) tail) k seen m last there
      → Follows g t (on_the_way part way always r (g.byte m r.pc) tail) (more_by seen k) [] m last there

-- true if a mode has no address of its operand
abbrev pub is_beside : Mode → Bool
is_beside Zp = false
is_beside ZpX = false
is_beside ZpY = false
is_beside Abs = false
is_beside AbsX = false
is_beside AbsY = false
is_beside IndX = false
is_beside IndY = false
is_beside IndZp = false
is_beside _ = true

-- true if an instruction without an operand sets or clears I
abbrev pub moves_i : Mnemonic → Bool
moves_i Cli = true
moves_i Sei = true
moves_i _ = false

-- true if a pull is one of the flags
abbrev pub pulls_flags : Mnemonic → Bool
pulls_flags Pla = false
pulls_flags Plx = false
pulls_flags Ply = false
pulls_flags _ = true

-- true if an instruction reads and writes back, or works on A
abbrev pub is_modifying : BusUse → Bool
is_modifying Shifts = true
is_modifying Modifies = true
is_modifying _ = false

-- The row is that of an instruction that reads and writes back, or works on A. The instruction
-- takes its cycle for a carry even without a carry if always is true.
pub record IsModifying (part : Part) (row : Row) (always : Bool) : Type 0 where
  pub kind : is_modifying (bus_use row.mnemonic) ≡ true
  pub forms : (r : Regs) (f : List (Option ℕ)) → form part (bus_use row.mnemonic) row r f ≡ modify_form part row row.mode always r f
  pub results : (r : Regs) (f : List (Option ℕ)) → after_row part (bus_use row.mnemonic) row r f
      ≡ modify_result row.mnemonic row.mode (with_pc_past r row.bytes) (operand part row.mode always r f)

-- The pointer of a jump is at the address at: the cycles after the two bytes of its operand go
-- through it.
pub record IsPointer (part : Part) (way : Mode) {M : Type 0} (g : Reach M) (r : Regs) (m : M) (at : ℕ) : Type 0 where
  pub pointer : List (Option ℕ) → ℕ
  pub forms : (f : List (Option ℕ)) → jump_form part way r f ≡ Read (place r 1) ∷ Read (place r 2) ∷ through part (pointer f) (place r 2)
  pub targets : (f : List (Option ℕ)) → jump_target part way f ≡ indirect_target part f
  pub found : (f : List (Option ℕ)) → pointer (Some (g.byte m r.pc) ∷ Some (g.byte m (place r 1)) ∷ Some (g.byte m (place r 2)) ∷ f) ≡ at

-- the facts known of an opcode, by its row; one without an instruction counts as BRK
abbrev pub known_in : Option Row → Known
known_in None = record { uses = Breaks; mnemonic = Nop; mode = Spare; bytes = 1 }
known_in (Some row) = record { uses = bus_use row.mnemonic; mnemonic = row.mnemonic; mode = row.mode; bytes = row.bytes }

abbrev pub known_at : Part → ℕ → Known
known_at part op = known_in (row_at part op)
