-- A sequence of the 65C02 makes fewer than seventeen accesses.
use Rattle.std.proofs.Common.{◌≡◌, ◌<◌, ◌≤◌, ℕ, zero, suc, ◌+◌, ◌-◌, List, [], ◌∷◌, ◌++◌, length, Bool, true, false, cond, eqb}
use Rattle.std.proofs.Common.{if◌then◌else◌, Option, Some, None, is_none, refl, ap, arith, length-append}
use Rattle.std.proofs.lemmas.Option.{slice_get_within}
use Rattle.std.specs.Prelude.{slice_get}
use Rattle.op_table.specs.declared.names.Part.TheVariants.{Cmos}
use Rattle.op_table.specs.declared.names.Mode.{Mode}
use Rattle.op_table.specs.declared.names.Mode.TheVariants.{Ind, Spare}
use Rattle.op_table.specs.declared.names.Mnemonic.{Mnemonic}
use Rattle.op_table.specs.declared.names.Mnemonic.TheVariants.{Jmp}
use Rattle.op_table.specs.declared.rows.Row.{Row}
use Rattle.op_table.specs.Forms.{Form, forms, form_at}
use Rattle.op_table.specs.Rows.{Use, Reads, use_of, read_cycles, store_cycles, modify_cycles}
use Rattle.op_table.specs.Rows.{shift_cycles, jump_cycles, cycles_by, cycles_of, spare, row_or_spare, cmos_row}
use Rattle.cpu_alu.specs.declared.Regs.{Regs}
use Rattle.cpu_alu.specs.declared.Cycle.{Cycle}
use Rattle.cpu_alu.specs.declared.Cycle.TheVariants.{Read, Write}
use Rattle.cpu_alu.specs.declared.uses.BusUse.{BusUse}
use Rattle.cpu_alu.specs.declared.uses.BusUse.TheVariants as uses
use Rattle.cpu_alu.specs.Instructions.{bus_use, takes_branch, stored_value}
use Rattle.cpu_core.specs.declared.Sequence.{Sequence}
use Rattle.cpu_core.specs.declared.Sequence.TheVariants.{Instruction}
use Rattle.cpu_core.specs.Accesses.{byte, waits, lasts_longer, reach, address, last_place, modify_form, branch_form, jump_form, again, implied_form, form}
use Rattle.cpu_core.specs.Sequences.{accesses}
use Rattle.cpu_core.specs.State as cpu
use Rattle.cpu65c02.specs.Sequences.{next_cycle}

-- no row of the table has more than eight cycles

few_read : (w : Mode) → read_cycles w ≤ 8
few_read w = grind arith

few_store : (w : Mode) → store_cycles w ≤ 8
few_store w = grind arith

few_modify : (w : Mode) → modify_cycles w ≤ 8
few_modify w = grind arith

few_shift : (w : Mode) → shift_cycles Cmos w ≤ 8
few_shift w = grind arith

few_jump : (w : Mode) → jump_cycles Cmos w ≤ 8
few_jump w = grind arith

few_by : (u : Use) (w : Mode) → cycles_by Cmos u w ≤ 8
few_by Reads w = few_read w
few_by _ w = omega (arith, few_store, few_shift, few_modify)

few_of : (name : Mnemonic) (w : Mode) → cycles_of Cmos name w ≤ 8
few_of Jmp w = few_jump w
few_of name w = omega (arith, few_by (use_of name) w)

few_spare : (op : ℕ) → (spare op).1 ≤ 8
few_spare op = grind arith

few_or_spare : (op : ℕ) (o : Option Form) → (row_or_spare op o).cycles ≤ 8
few_or_spare op (Some f) = few_of f.mnemonic f.mode
few_or_spare op None = few_spare op

few_cycles : (op : ℕ) → (cmos_row op).cycles ≤ 8
unfolding cmos_row
few_cycles op = few_or_spare op (form_at (forms Cmos) op)

-- a bound for each form

at_most_one : (b : Bool) (c : Cycle) → length (cond b (c ∷ []) []) ≤ 1
at_most_one true c = omega arith
at_most_one false c = omega arith

reach_most : (w : Mode) (always : Bool) (r : Regs) (seen : List (Option ℕ)) → length (reach Cmos w always r seen) ≤ 4
reach_most w always r seen = grind arith

with_more : (n k : ℕ) (xs ys : List Cycle) → length xs ≤ n → length ys ≤ k → length (xs ++ ys) ≤ n + k
with_more n k xs ys g h = omega (arith, length-append xs ys)

modify_most : (w : Mode) (row : Row) (always : Bool) (r : Regs) (seen : List (Option ℕ)) → length (modify_form Cmos row w always r seen) ≤ 7
modify_most w row always r seen = grind arith

length-again : (n at : ℕ) → length (again n at) ≡ n
length-again zero at = refl
length-again (suc n) at = ap suc (length-again n at)

spare_most : (one two : Bool) (n k at there : ℕ) (a b d : Cycle) → n ≤ 8 → k ≤ 8 → length (cond one [] (cond two (a ∷ again n at) (b ∷ d ∷ again k there))) ≤ 10
spare_most one two n k at there a b d p q = grind (arith, length-again)

implied_most : (w : Mode) (row : Row) (r : Regs) → row.cycles ≤ 8 → length (implied_form row w r) ≤ 10
implied_most Spare row r few = spare_most (eqb row.bytes 1) (eqb row.bytes 2) (row.cycles - 2) (row.cycles - 3) _ _ _ _ _ (omega arith) (omega arith)
implied_most _ row r few = omega arith

branch_most : (b : Bool) (r : Regs) (seen : List (Option ℕ)) → length (branch_form Cmos b r seen) ≤ 10
branch_most true r seen = by _ (Read 0) (Read 0) _
  where
    by : (b : Bool) (x y d : Cycle) → length (x ∷ y ∷ cond b [] (d ∷ [])) ≤ 10
    by true x y d = omega arith
    by false x y d = omega arith
branch_most false r seen = omega arith

jump_most : (w : Mode) (r : Regs) (seen : List (Option ℕ)) → length (jump_form Cmos w r seen) ≤ 10
jump_most Ind r seen = omega arith
jump_most _ r seen = omega arith

form_most : (u : BusUse) (row : Row) (r : Regs) (seen : List (Option ℕ)) → row.cycles ≤ 8 → length (form Cmos u row r seen) ≤ 10
form_most uses.Implied row r seen few = implied_most row.mode row r few
form_most uses.Reads row r seen few =
    let more : List Cycle = cond (lasts_longer Cmos row.mnemonic r) (Read (last_place row.mode r) ∷ []) [] in
    let k : length more ≤ 1 = at_most_one (lasts_longer Cmos row.mnemonic r) (Read (last_place row.mode r)) in
    let always : Bool = waits Cmos uses.Reads in
    omega (arith, with_more 4 2 (reach Cmos row.mode always r seen) (Read (address row.mode r seen) ∷ more) (reach_most row.mode always r seen) (omega arith))
form_most uses.Stores row r seen few =
    let last : List Cycle = Write (address row.mode r seen) (stored_value row.mnemonic r) ∷ [] in
    let always : Bool = waits Cmos uses.Stores in
    omega (arith, with_more 4 1 (reach Cmos row.mode always r seen) last (reach_most row.mode always r seen) (omega arith))
form_most uses.Shifts row r seen few = omega (arith, modify_most row.mode row (waits Cmos uses.Shifts) r seen)
form_most uses.Modifies row r seen few = omega (arith, modify_most row.mode row (waits Cmos uses.Modifies) r seen)
form_most uses.Branches row r seen few = branch_most (takes_branch row.mnemonic r) r seen
form_most uses.Jumps row r seen few = jump_most row.mode r seen
form_most _ row r seen few = omega arith

most_accesses : (q : Sequence) (r : Regs) (seen : List (Option ℕ)) → length (accesses Cmos q r seen) ≤ 16
most_accesses Instruction r seen =
    let row : Row = cmos_row (byte seen 0) in
    omega (arith, form_most (bus_use row.mnemonic) row r seen (few_cycles (byte seen 0)))
most_accesses _ r seen = omega arith

within : (o : Option Cycle) (xs : List Cycle) (k : ℕ) → slice_get xs k ≡ o → is_none o ≡ false → k < length xs
within (Some c) xs k is some = slice_get_within xs k c is
within None xs k is some = cc

-- if a sequence is not over, fewer than sixteen cycles of it were seen
pub few_seen : (c : cpu.State) → is_none (next_cycle c) ≡ false → length c.seen < 16
few_seen c on =
    let low : length c.seen < length (accesses Cmos c.sequence c.regs c.seen) = within (next_cycle c) (accesses Cmos c.sequence c.regs c.seen) (length c.seen) refl on in
    omega (arith, most_accesses c.sequence c.regs c.seen)
