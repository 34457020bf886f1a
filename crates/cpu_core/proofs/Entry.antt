-- The step of an instruction from its opcode to the first cycle after it.
use Rattle.std.proofs.Common.{◌≡◌, ◌<◌, ℕ, suc, ◌+◌, List, [], ◌∷◌, ◌++◌, length, Bool, true, false, cond, Option, Some, None, refl, sym, ap, ◌∙◌, arith}
use Rattle.std.proofs.lemmas.Bool.{agree_below_at}
use Rattle.op_table.specs.declared.names.Part.{Part}
use Rattle.op_table.specs.declared.names.Part.TheVariants.{Nmos, Cmos}
use Rattle.op_table.specs.declared.names.Mode.{Mode}
use Rattle.op_table.specs.declared.names.Mode.TheVariants.{Acc, Zp, ZpX, ZpY, Abs, AbsX, AbsY, IndX, IndY, IndZp, Ind, IndAbsX, Spare}
use Rattle.op_table.specs.declared.rows.Row.{Row}
use Rattle.op_table.specs.Rows.{nmos_row, cmos_row}
use Rattle.cpu_alu.specs.declared.Regs.{Regs}
use Rattle.cpu_alu.specs.declared.Cycle.{Cycle}
use Rattle.cpu_alu.specs.declared.Cycle.TheVariants.{Read}
use Rattle.cpu_alu.specs.declared.uses.BusUse.{BusUse}
use Rattle.cpu_alu.specs.declared.uses.BusUse.TheVariants.{Implied, Reads, Stores, Shifts, Modifies, Branches, Jumps}
use Rattle.cpu_alu.specs.Addresses.{place}
use Rattle.cpu_alu.specs.Instructions.{bus_use, takes_branch}
use Rattle.cpu_core.specs.declared.progress.Access.{Access}
use Rattle.cpu_core.specs.declared.progress.Access.TheVariants.{Load, Store, Change}
use Rattle.cpu_core.specs.declared.progress.Progress.{Progress}
use Rattle.cpu_core.specs.declared.progress.Phase.TheVariants as phase
use Rattle.cpu_core.specs.declared.progress.Start.{Start}
use Rattle.cpu_core.specs.Accesses.{byte, row_at, waits, reach, address, operand, modify_form, branch_form, form}
use Rattle.cpu_core.specs.Results.{after_row}
use Rattle.cpu_core.specs.CodePhases.{at_operand, after_operand, cycles_left, outcome, wants, is_fetch, is_stuck}
use Rattle.cpu_core.specs.CodeStarts.{in_memory, start_by, start_change, start_implied, start_jump, start_in, start_at, start_leaves}
use Rattle.cpu_core.specs.CodeTies.{GoesOn, first}

-- the operand's byte comes one cycle later if the page is crossed
operand_at : (c : Bool) (q : Cycle) (o : Option ℕ) (f : List (Option ℕ)) → byte (o ∷ f) (1 + suc (suc (length (cond c (q ∷ []) [])))) ≡ cond c (byte f 3) (byte f 2)
operand_at true q o f = refl
operand_at false q o f = refl

operand_by : (c : Bool) (q : Cycle) (o : Option ℕ) (f : List (Option ℕ)) → byte (o ∷ f) (1 + suc (suc (suc (length (cond c (q ∷ []) []))))) ≡ cond c (byte f 4) (byte f 3)
operand_by true q o f = refl
operand_by false q o f = refl

-- the accesses left are those of the form
start_leaves-cycles_left : (part : Part) (w : Mode) (k : Access) (always : Bool) (m : Progress) (o : Option ℕ) (f : List (Option ℕ))
    → reach part w always m.work (o ∷ f) ++ at_operand part k m.row (address w m.work (o ∷ f)) m.work (operand part w always m.work (o ∷ f))
    ≡ cycles_left part (start_leaves (in_memory k always w) m) f
start_leaves-cycles_left part AbsX k always m o f = rw operand_at
start_leaves-cycles_left part AbsY k always m o f = rw operand_at
start_leaves-cycles_left part IndY k always m o f = rw operand_by
start_leaves-cycles_left part _ k always m o f = refl

-- and so are the registers at the end
start_leaves-outcome : (part : Part) (w : Mode) (k : Access) (always : Bool) (m : Progress) (o : Option ℕ) (f : List (Option ℕ))
    → after_operand part k m.row m.work (operand part w always m.work (o ∷ f)) ≡ outcome part (start_leaves (in_memory k always w) m) f
start_leaves-outcome part AbsX k always m o f = rw operand_at
start_leaves-outcome part AbsY k always m o f = rw operand_at
start_leaves-outcome part IndY k always m o f = rw operand_by
start_leaves-outcome part _ k always m o f = refl

-- a store needs an operand in memory, so that its first cycle reads
abbrev is_memory : Mode → Bool
is_memory Zp = true
is_memory ZpX = true
is_memory ZpY = true
is_memory Abs = true
is_memory AbsX = true
is_memory AbsY = true
is_memory IndX = true
is_memory IndY = true
is_memory IndZp = true
is_memory _ = false

abbrev fits : Access → Mode → Bool
fits Store w = is_memory w
fits _ w = true

start_leaves-wanted : (part : Part) (w : Mode) (k : Access) (always : Bool) (m : Progress) → fits k w ≡ true
    → wants (start_leaves (in_memory k always w) m) ≡ first (cycles_left part (start_leaves (in_memory k always w) m) [])
start_leaves-wanted part w k always m e = grind arith

-- it reads no opcode, and is not halted
start_leaves-fetch : (w : Mode) (k : Access) (always : Bool) (m : Progress) → is_fetch (start_leaves (in_memory k always w) m).phase ≡ false
start_leaves-fetch w k always m = grind arith

start_leaves-stuck : (w : Mode) (k : Access) (always : Bool) (m : Progress) → is_stuck (start_leaves (in_memory k always w) m).phase ≡ false
start_leaves-stuck w k always m = grind arith

-- a modify form, except that of A
modify_form-entered : (part : Part) (w : Mode) → (w ≡ Acc → ⊥) → (row : Row) (always : Bool) (r : Regs) (seen : List (Option ℕ))
    → modify_form part row w always r seen ≡ reach part w always r seen ++ at_operand part Change row (address w r seen) r (operand part w always r seen)
modify_form-entered part w n row always r seen = grind arith

-- the modes of a jump, and those of a store
abbrev known_by : BusUse → Mode → Bool
known_by Jumps Abs = true
known_by Jumps Ind = true
known_by Jumps IndAbsX = true
known_by Jumps _ = false
known_by Stores w = fits Store w
known_by _ w = true

abbrev known_in : Option Row → Bool
known_in (Some row) = known_by (bus_use row.mnemonic) row.mode
known_in None = true

known_at : (part : Part) (op : ℕ) → op < 256 → known_in (row_at part op) ≡ true
unfolding nmos_row cmos_row
known_at Nmos op h = agree_below_at (λ k. known_in (row_at Nmos k)) (λ _. true) 256 op refl h
known_at Cmos op h = agree_below_at (λ k. known_in (row_at Cmos k)) (λ _. true) 256 op refl h

branch-seen : (part : Part) (c : Bool) (r : Regs) (o d : Option ℕ) (f : List (Option ℕ)) → branch_form part c r (o ∷ f) ≡ branch_form part c r (d ∷ f)
branch-seen part true r o d f = refl
branch-seen part false r o d f = refl

branch-first : (part : Part) (c : Bool) (r : Regs) (seen : List (Option ℕ)) → Some (Read (place r 1)) ≡ first (branch_form part c r seen)
branch-first part true r seen = refl
branch-first part false r seen = refl

-- an opcode that has a row
module _ {part : Part} {m : Progress} (op : ℕ) (p : m.phase ≡ phase.Opcode) (e : row_at part op ≡ Some m.row) where
  -- by the form of its use
  goes : {u : BusUse} {then : Progress} → bus_use m.row.mnemonic ≡ u → ((f : List (Option ℕ)) → form part u m.row m.work (Some op ∷ f) ≡ cycles_left part then f)
      → ((f : List (Option ℕ)) → after_row part u m.row m.work (Some op ∷ f) ≡ outcome part then f) → wants then ≡ first (cycles_left part then [])
      → is_fetch then.phase ≡ false → is_stuck then.phase ≡ false → GoesOn part m op then
  goes b left end wanted fetch stuck = grind arith

  -- with an operand in memory
  reaches : {u : BusUse} (k : Access) (w : Mode) → bus_use m.row.mnemonic ≡ u → m.row.mode ≡ w
      → ((f : List (Option ℕ)) → form part u m.row m.work f
      ≡ reach part m.row.mode (waits part u) m.work f ++ at_operand part k m.row (address m.row.mode m.work f) m.work (operand part m.row.mode (waits part u) m.work f))
      → ((f : List (Option ℕ)) → after_row part u m.row m.work f ≡ after_operand part k m.row m.work (operand part m.row.mode (waits part u) m.work f))
      → fits k w ≡ true → GoesOn part m op (start_leaves (in_memory k (waits part u) w) m)
  reaches {u} k w b v forms ends n =
      let way : Mode = m.row.mode in
      let always : Bool = waits part u in
      rw (← v) (goes b (λ f. forms (Some op ∷ f) ∙ start_leaves-cycles_left part way k always m (Some op) f)
      (λ f. ends (Some op ∷ f) ∙ start_leaves-outcome part way k always m (Some op) f)
      (start_leaves-wanted part way k always m (rw (← v) at n)) (start_leaves-fetch way k always m) (start_leaves-stuck way k always m))

  -- a shift, INC or DEC, of A or in memory
  changes : {u : BusUse} (w : Mode) → bus_use m.row.mnemonic ≡ u → m.row.mode ≡ w
      → ((f : List (Option ℕ)) → form part u m.row m.work f ≡ modify_form part m.row m.row.mode (waits part u) m.work f)
      → ((f : List (Option ℕ)) → after_row part u m.row m.work f ≡ after_operand part Change m.row m.work (operand part m.row.mode (waits part u) m.work f))
      → GoesOn part m op (start_leaves (start_change (waits part u) w) m)
  changes Acc b v forms ends = goes b (λ f. forms (Some op ∷ f) ∙ rw v) (λ f. ends (Some op ∷ f) ∙ rw v) refl refl refl
  changes {u} w b v forms ends =
      reaches Change w b v (λ f. forms f ∙ modify_form-entered part m.row.mode (λ a. cc) m.row (waits part u) m.work f) ends refl

  -- an instruction without an operand
  implied_by : (w : Mode) → bus_use m.row.mnemonic ≡ Implied → m.row.mode ≡ w → ((start_implied w).phase ≡ phase.Opcode → ⊥) → GoesOn part m op (start_leaves (start_implied w) m)
  implied_by w b v n = grind arith

  -- JMP
  jumps_by : (w : Mode) → bus_use m.row.mnemonic ≡ Jumps → m.row.mode ≡ w → known_by Jumps w ≡ true → GoesOn part m op (start_leaves (start_jump w) m)
  jumps_by w b v k = grind arith

  -- each opcode except those that do nothing
  goes_by : (u : BusUse) (w : Mode) → bus_use m.row.mnemonic ≡ u → m.row.mode ≡ w → ((start_by part u w).phase ≡ phase.Opcode → ⊥) → known_by u w ≡ true
      → GoesOn part m op (start_leaves (start_by part u w) m)
  goes_by Implied w b v n k = implied_by w b v n
  goes_by Reads w b v n k = reaches Load w b v (λ f. refl) (λ f. refl) refl
  goes_by Stores w b v n k = reaches Store w b v (λ f. refl) (λ f. refl) k
  goes_by Shifts w b v n k = changes w b v (λ f. refl) (λ f. refl)
  goes_by Modifies w b v n k = changes w b v (λ f. refl) (λ f. refl)
  goes_by Jumps w b v n k = jumps_by w b v k
  goes_by Branches w b v n k =
      let taken : Bool = takes_branch m.row.mnemonic m.work in
      goes b (λ f. branch-seen part taken m.work (Some op) None f) (λ f. refl) (branch-first part taken m.work (None ∷ [])) refl refl
  goes_by _ w b v n k = goes b (λ f. refl) (λ f. refl) refl refl refl

pub goes_on : {part : Part} {m : Progress} {op : ℕ} {s : Start} → op < 256 → m.phase ≡ phase.Opcode → row_at part op ≡ Some m.row
    → s ≡ start_at part op → (s.phase ≡ phase.Opcode → ⊥)
    → GoesOn part m op (start_leaves s m)
goes_on {part} {m} {op} h p e is n =
    let same = is ∙ ap (start_in part) e in
    rw same (goes_by op p e (bus_use m.row.mnemonic) m.row.mode refl refl (rw same at n) (ap known_in (sym e) ∙ known_at part op h))

pub apart : (part : Part) (m : Progress) (op : ℕ) (s : Start) → row_at part op ≡ Some m.row → s ≡ start_at part op → s.phase ≡ phase.Opcode
    → (bus_use m.row.mnemonic ≡ Implied) × (m.row.mode ≡ Spare)
apart part m op s e is o = grind arith
