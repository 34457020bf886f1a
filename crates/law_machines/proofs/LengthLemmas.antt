-- The number of accesses of an instruction, by its form.
use Rattle.std.proofs.Common.{◌≡◌, ◌∙◌, sym, ap, refl, ℕ, zero, suc, ◌+◌, ◌-◌, ◌*◌, ◌/◌, ◌<◌, ◌≤◌, ◌==◌, ◌&&◌, Bool, true, false, cond, not, eqb, List, [], ◌∷◌, ◌++◌, length, map, arith, length-append}
use Rattle.std.specs.Prelude.{Option, None, Some, is_none, option_map, unwrap_or, slice_get, if◌then◌else◌}
use Rattle.std.specs.List.{range_with_len}
use Rattle.std.proofs.lemmas.List.FromFn.{get_or-map-range_with_len}
use Rattle.std.proofs.Common.{get_or, ◌⊎◌, inl, inr}
use Rattle.std.proofs.lemmas.Bool.{true≢false}
use Rattle.std.proofs.lemmas.List.{length_push}
use Rattle.op_table.specs.declared.names.Part.{Part}
use Rattle.op_table.specs.declared.names.Part.TheVariants.{Nmos, Cmos}
use Rattle.op_table.specs.declared.names.Mode.{Mode}
use Rattle.op_table.specs.declared.names.Mode.TheVariants.{Acc, Zp, ZpX, ZpY, Abs, AbsX, AbsY, IndX, IndY, IndZp, Ind, IndAbsX, Spare}
use Rattle.op_table.specs.declared.names.Mnemonic.{Mnemonic}
use Rattle.op_table.specs.declared.names.Mnemonic.TheVariants.{Adc, Sbc, Bpl, Bmi, Bvc, Bvs, Bcc, Bcs, Bne, Beq}
use Rattle.op_table.specs.declared.rows.Row.{Row}
use Rattle.op_table.specs.Rows.{nmos_row, cmos_row}
use Rattle.cpu_alu.specs.declared.Regs.{Regs}
use Rattle.cpu_alu.specs.declared.Cycle.{Cycle}
use Rattle.cpu_alu.specs.declared.Cycle.TheVariants.{Read, Write}
use Rattle.cpu_alu.specs.declared.uses.BusUse.{BusUse}
use Rattle.cpu_alu.specs.declared.uses.BusUse.TheVariants.{Implied, Reads, Stores, Shifts, Modifies, Pushes, Pulls, Branches, Jumps, Calls, Returns, Resumes, Breaks}
use Rattle.cpu_alu.specs.Flags.{has_flag}
use Rattle.cpu_alu.specs.Addresses.{crosses_page, target, place}
use Rattle.cpu_alu.specs.Instructions.{bus_use, takes_branch, stored_value, modified_value}
use Rattle.cpu_core.specs.Accesses.{row_at, byte, waits, lasts_longer, carry_cycles, reach, address, operand, last_place, cycle_between, idle, with_low, read_form, store_form, modify_form, branch_form, jump_form, again, implied_form, form, form_of}
use Rattle.cpu_core.specs.declared.Sequence.TheVariants.{Instruction}
use Rattle.cpu_core.specs.Sequences.{accesses}
use Rattle.law_machines.specs.Further.{Cause, Never, ByX, ByY, ByPointer, Branch, Always, among, sums, cause, crossing, next, destination, away, amount, in_decimal, further}

-- ---- What the pages decide

crossed-by : (b : Bool) (low high index : ℕ) → crosses_page low index ≡ b → crossing (low + 256 * high) index ≡ (if b then 1 else 0)
crossed-by b low high index is = grind arith

pub crossed : (low high index : ℕ) → crossing (low + 256 * high) index ≡ (if crosses_page low index then 1 else 0)
crossed low high index = crossed-by (crosses_page low index) low high index refl

same-target : (r : Regs) (by : ℕ) → target r by ≡ destination r.pc by
same-target r by = grind arith

-- ---- The length of each part of a form

reach_base : Mode → ℕ
reach_base Zp = 1
reach_base ZpX = 2
reach_base ZpY = 2
reach_base Abs = 2
reach_base AbsX = 2
reach_base AbsY = 2
reach_base IndZp = 3
reach_base IndX = 4
reach_base IndY = 3
reach_base _ = 0

-- the cycle for a carry, if it is always taken
indexed : Mode → ℕ
indexed AbsX = 1
indexed AbsY = 1
indexed IndY = 1
indexed _ = 0

index_cause : Mode → Cause
index_cause AbsX = ByX
index_cause AbsY = ByY
index_cause IndY = ByPointer
index_cause _ = Never

carry-always : (part : Part) (low high index q : ℕ) → length (carry_cycles part true low high index q) ≡ 1
carry-always part low high index q = refl

if-length : (b : Bool) (c : Cycle) → length (cond b (c ∷ []) []) ≡ (if b then 1 else 0)
if-length true c = refl
if-length false c = refl

carry-crossed : (part : Part) (low high index q : ℕ) → length (carry_cycles part false low high index q) ≡ crossing (low + 256 * high) index
carry-crossed part low high index q = if-length (crosses_page low index) _ ∙ sym (crossed low high index)

module _ (part : Part) (r : Regs) (seen : List (Option ℕ)) where
  reach-always : (w : Mode) → length (reach part w true r seen) ≡ reach_base w + indexed w
  unfolding reach_base indexed
  reach-always w = grind arith

  reach-crossed : (w : Mode) → length (reach part w false r seen) ≡ reach_base w + amount (index_cause w) r seen
  unfolding reach_base index_cause
  reach-crossed AbsX = omega (arith, carry-crossed part (byte seen 1) (byte seen 2) r.x (place r 2))
  reach-crossed AbsY = omega (arith, carry-crossed part (byte seen 1) (byte seen 2) r.y (place r 2))
  reach-crossed IndY = omega (arith, carry-crossed part (byte seen 2) (byte seen 3) r.y (place r 1))
  reach-crossed _ = refl

modify_base : Mode → Bool → ℕ
modify_base Acc always = 1
modify_base w true = reach_base w + indexed w + 3
modify_base w false = reach_base w + 3

implied_base : Row → Mode → ℕ
implied_base row Spare = if row.bytes == 1 then 0 else if row.bytes == 2 then 1 + (row.cycles - 2) else 2 + (row.cycles - 3)
implied_base row _ = 1

jump_base : Part → Mode → ℕ
jump_base Nmos Ind = 4
jump_base Nmos IndAbsX = 4
jump_base Cmos Ind = 5
jump_base Cmos IndAbsX = 5
jump_base part _ = 2

branch_cause : Mnemonic → Cause
branch_cause Bpl = Branch 0x80 false
branch_cause Bmi = Branch 0x80 true
branch_cause Bvc = Branch 0x40 false
branch_cause Bvs = Branch 0x40 true
branch_cause Bcc = Branch 0x01 false
branch_cause Bcs = Branch 0x01 true
branch_cause Bne = Branch 0x02 false
branch_cause Beq = Branch 0x02 true
branch_cause _ = Always

branch_base_by : Cause → ℕ
branch_base_by Always = 2
branch_base_by _ = 1

abbrev branch_base : Mnemonic → ℕ
branch_base name = branch_base_by (branch_cause name)

length-again : (n at : ℕ) → length (again n at) ≡ n
length-again zero at = refl
length-again (suc n) at = ap suc (length-again n at)

implied-is : (row : Row) (w : Mode) (r : Regs) → length (implied_form row w r) ≡ implied_base row w
unfolding implied_base
implied-is row w r = grind (arith, length-again)

three-more : (xs : List Cycle) (a b c : Cycle) (n : ℕ) → length xs ≡ n → length (xs ++ a ∷ b ∷ c ∷ []) ≡ n + 3
three-more xs a b c n is = omega (arith, length-append {A = Cycle}, is)

-- the cycles of a modify instruction from the first one at its operand on
modified : (part : Part) (row : Row) (w : Mode) (always : Bool) (r : Regs) (seen : List (Option ℕ)) (n : ℕ) →
    length (reach part w always r seen) ≡ n →
    length (reach part w always r seen ++ Read (address w r seen) ∷ cycle_between part (address w r seen) (operand part w always r seen)
    ∷ Write (address w r seen) (modified_value row.mnemonic r (operand part w always r seen)) ∷ []) ≡ n + 3
modified part row w always r seen n is = three-more (reach part w always r seen) _ _ _ n is

modify-always : (part : Part) (row : Row) (w : Mode) (r : Regs) (seen : List (Option ℕ)) →
    length (modify_form part row w true r seen) ≡ modify_base w true
unfolding modify_base
modify-always part row Acc r seen = refl
modify-always part row w r seen = modified part row w true r seen (reach_base w + indexed w) (reach-always part r seen w)

last-two : (a b c : ℕ) → a + b + c ≡ a + c + b
last-two a b c = omega arith

modify-crossed : (part : Part) (row : Row) (w : Mode) (r : Regs) (seen : List (Option ℕ)) →
    length (modify_form part row w false r seen) ≡ modify_base w false + amount (index_cause w) r seen
unfolding modify_base index_cause
modify-crossed part row Acc r seen = refl
modify-crossed part row w r seen =
    modified part row w false r seen (reach_base w + amount (index_cause w) r seen) (reach-crossed part r seen w)
    ∙ last-two (reach_base w) (amount (index_cause w) r seen) 3

jump-is : (part : Part) (w : Mode) (r : Regs) (seen : List (Option ℕ)) → length (jump_form part w r seen) ≡ jump_base part w
unfolding jump_base
jump-is part w r seen = grind arith

two-or-three : (b : Bool) (x y z : Cycle) → length (x ∷ y ∷ cond b [] (z ∷ [])) ≡ 2 + (if b then 0 else 1)
two-or-three true x y z = refl
two-or-three false x y z = refl

taken-to : (part : Part) (r : Regs) (to : ℕ) →
    length (Read (place r 1) ∷ Read (idle part (place r 2) (place r 1))
    ∷ cond (eqb (to / 256) (place r 2 / 256)) [] (Read (idle part (with_low (place r 2) to) (place r 1)) ∷ []))
    ≡ 2 + (if to / 256 == next r.pc / 256 then 0 else 1)
taken-to part r to =
    two-or-three (eqb (to / 256) (place r 2 / 256))
    (Read (place r 1)) (Read (idle part (place r 2) (place r 1))) (Read (idle part (with_low (place r 2) to) (place r 1)))

taken : (part : Part) (r : Regs) (seen : List (Option ℕ)) → length (branch_form part true r seen) ≡ 2 + away r.pc (byte seen 1)
taken part r seen =
    taken-to part r (target r (byte seen 1)) ∙ ap (λ to. 2 + (if to / 256 == next r.pc / 256 then 0 else 1)) (same-target r (byte seen 1))

maybe : (part : Part) (b : Bool) (r : Regs) (seen : List (Option ℕ)) →
    length (branch_form part b r seen) ≡ 1 + (if b then 1 + away r.pc (byte seen 1) else 0)
maybe part true r seen = let more : 2 + away r.pc (byte seen 1) ≡ 1 + (1 + away r.pc (byte seen 1)) = omega arith in taken part r seen ∙ more
maybe part false r seen = refl

branch-is : (part : Part) (name : Mnemonic) (r : Regs) (seen : List (Option ℕ)) →
    length (branch_form part (takes_branch name r) r seen) ≡ branch_base name + amount (branch_cause name) r seen
unfolding branch_base_by branch_cause
branch-is part Bpl r seen = maybe part _ r seen
branch-is part Bmi r seen = maybe part _ r seen
branch-is part Bvc r seen = maybe part _ r seen
branch-is part Bvs r seen = maybe part _ r seen
branch-is part Bcc r seen = maybe part _ r seen
branch-is part Bcs r seen = maybe part _ r seen
branch-is part Bne r seen = maybe part _ r seen
branch-is part Beq r seen = maybe part _ r seen
branch-is part _ r seen = taken part r seen

-- ---- The length of a form

shift_base : Part → Mode → ℕ
shift_base Nmos w = modify_base w true
shift_base Cmos w = modify_base w false

shift_cause : Part → Mode → Cause
shift_cause Nmos w = Never
shift_cause Cmos w = index_cause w

base : Part → BusUse → Row → ℕ
base part Implied row = implied_base row row.mode
base part Reads row = reach_base row.mode + 1
base part Stores row = reach_base row.mode + indexed row.mode + 1
base part Shifts row = shift_base part row.mode
base part Modifies row = modify_base row.mode true
base part Pushes row = 2
base part Pulls row = 3
base part Branches row = branch_base row.mnemonic
base part Jumps row = jump_base part row.mode
base part Calls row = 5
base part Returns row = 5
base part Resumes row = 5
base part Breaks row = 6

reason : Part → BusUse → Row → Cause
reason part Reads row = index_cause row.mode
reason part Shifts row = shift_cause part row.mode
reason part Branches row = branch_cause row.mnemonic
reason part _ row = Never

abbrev is_sum : Mnemonic → Bool
is_sum Adc = true
is_sum Sbc = true
is_sum _ = false

abbrev sum_by : Part → Mnemonic → Bool
sum_by Nmos name = false
sum_by Cmos name = is_sum name

abbrev is_summed : Part → BusUse → Row → Bool
is_summed part Reads row = sum_by part row.mnemonic
is_summed part _ row = false

longer-by : (part : Part) (name : Mnemonic) (r : Regs) (c : Cycle) →
    length (cond (lasts_longer part name r) (c ∷ []) []) ≡ (if sum_by part name && has_flag r.p 0x08 then 1 else 0)
longer-by part name r c = grind arith

reads : (xs : List Cycle) (a : Cycle) (more : List Cycle) (n k : ℕ) → length xs ≡ n → length more ≡ k → length (xs ++ a ∷ more) ≡ n + 1 + k
reads xs a more n k is js = omega (arith, length-append {A = Cycle}, is, js)

read-is : (part : Part) (row : Row) (r : Regs) (seen : List (Option ℕ)) → waits part Reads ≡ false →
    length (read_form part row r seen)
    ≡ reach_base row.mode + 1 + (amount (index_cause row.mode) r seen + (if sum_by part row.mnemonic && has_flag r.p 0x08 then 1 else 0))
read-is part row r seen never =
    let more = if sum_by part row.mnemonic && has_flag r.p 0x08 then 1 else 0 in
    let there = ap (λ always. length (reach part row.mode always r seen)) never ∙ reach-crossed part r seen row.mode in
    let sum : reach_base row.mode + amount (index_cause row.mode) r seen + 1 + more
    ≡ reach_base row.mode + 1 + (amount (index_cause row.mode) r seen + more) = omega arith in
    reads (reach part row.mode (waits part Reads) r seen) (Read (address row.mode r seen))
    (cond (lasts_longer part row.mnemonic r) (Read (last_place row.mode r) ∷ []) [])
    _ more there (longer-by part row.mnemonic r (Read (last_place row.mode r))) ∙ sum

store-is : (part : Part) (row : Row) (r : Regs) (seen : List (Option ℕ)) → waits part Stores ≡ true →
    length (store_form part row r seen) ≡ reach_base row.mode + indexed row.mode + 1
store-is part row r seen ever =
    let there = ap (λ always. length (reach part row.mode always r seen)) ever ∙ reach-always part r seen row.mode in
    let sum : reach_base row.mode + indexed row.mode + 1 + 0 ≡ reach_base row.mode + indexed row.mode + 1 = omega arith in
    reads (reach part row.mode (waits part Stores) r seen) (Write (address row.mode r seen) (stored_value row.mnemonic r)) [] _ 0 there refl ∙ sum

waits-read : (part : Part) → waits part Reads ≡ false
waits-read Nmos = refl
waits-read Cmos = refl

waits-store : (part : Part) → waits part Stores ≡ true
waits-store Nmos = refl
waits-store Cmos = refl

waits-modify : (part : Part) → waits part Modifies ≡ true
waits-modify Nmos = refl
waits-modify Cmos = refl

shift-is : (part : Part) (row : Row) (r : Regs) (seen : List (Option ℕ)) →
    length (modify_form part row row.mode (waits part Shifts) r seen) ≡ shift_base part row.mode + amount (shift_cause part row.mode) r seen
unfolding shift_base shift_cause
shift-is Nmos row r seen = omega (arith, modify-always Nmos row row.mode r seen)
shift-is Cmos row r seen = modify-crossed Cmos row row.mode r seen

nothing_more : (n k : ℕ) {m : ℕ} → m ≡ n + k → m ≡ n + (k + 0)
nothing_more n k is = omega (arith, is)

form-is : (part : Part) (u : BusUse) (row : Row) (r : Regs) (seen : List (Option ℕ)) →
    length (form part u row r seen) ≡ base part u row + (amount (reason part u row) r seen + (if is_summed part u row && has_flag r.p 0x08 then 1 else 0))
unfolding base reason
form-is part Implied row r seen = omega (arith, implied-is row row.mode r)
form-is part Reads row r seen = read-is part row r seen (waits-read part)
form-is part Stores row r seen = omega (arith, store-is part row r seen (waits-store part))
form-is part Shifts row r seen = nothing_more _ _ (shift-is part row r seen)
form-is part Modifies row r seen =
    nothing_more _ 0 (ap (λ always. length (modify_form part row row.mode always r seen)) (waits-modify part)
    ∙ modify-always part row row.mode r seen ∙ omega arith)
form-is part Branches row r seen = nothing_more _ _ (branch-is part row.mnemonic r seen)
form-is part Jumps row r seen = omega (arith, jump-is part row.mode r seen)
form-is part _ row r seen = refl

-- ---- The law's opcodes are those of the rows, opcode by opcode

same_below : (X : Type 0) (f g : ℕ → Option X) → map f (range_with_len 0 256) ≡ map g (range_with_len 0 256) →
    (op : ℕ) → op < 256 → f op ≡ g op
same_below X f g same op low =
    let at = λ (h : ℕ → Option X). get_or-map-range_with_len h 0 256 op op None low (omega arith) in
    sym (at f) ∙ ap (λ xs. get_or xs op None) same ∙ at g

-- the cycles of an opcode, the cause of further ones, and whether it is a sum
abbrev Facts : Type 0
Facts = ℕ × (Cause × Bool)

abbrev by_form : Part → Option Row → Option Facts
by_form part o =
    option_map (λ row. (1 + base part (bus_use row.mnemonic) row, (reason part (bus_use row.mnemonic) row, is_summed part (bus_use row.mnemonic) row))) o

abbrev summed : Part → ℕ → Bool
summed Nmos op = false
summed Cmos op = among op sums

abbrev by_opcode : Part → ℕ → Option Row → Option Facts
by_opcode part op o = option_map (λ row. (row.cycles, (cause part op, summed part op))) o

agree : (part : Part) (op : ℕ) → op < 256 → by_form part (row_at part op) ≡ by_opcode part op (row_at part op)
unfolding nmos_row cmos_row base reason shift_base shift_cause branch_base_by branch_cause jump_base implied_base modify_base index_cause indexed reach_base
agree Nmos = same_below Facts (λ op. by_form Nmos (row_at Nmos op)) (λ op. by_opcode Nmos op (row_at Nmos op)) refl
agree Cmos = same_below Facts (λ op. by_form Cmos (row_at Cmos op)) (λ op. by_opcode Cmos op (row_at Cmos op)) refl

agreed : (part : Part) (op : ℕ) (row : Row) → op < 256 → row_at part op ≡ Some row →
    ◌≡◌ {A = Facts} (1 + base part (bus_use row.mnemonic) row, (reason part (bus_use row.mnemonic) row, is_summed part (bus_use row.mnemonic) row))
    (row.cycles, (cause part op, summed part op))
agreed part op row low is =
    ap (λ (o : Option Facts). unwrap_or o (0, (Never, false)))
    (ap (by_form part) (sym is) ∙ agree part op low ∙ ap (by_opcode part op) is)

decimal-is : (part : Part) (op : ℕ) (r : Regs) → (if summed part op && has_flag r.p 0x08 then 1 else 0) ≡ in_decimal part op r
decimal-is Nmos op r = refl
decimal-is Cmos op r = refl

-- an instruction has its row's cycles and its further accesses
pub exact : (part : Part) (op : ℕ) (row : Row) → op < 256 → row_at part op ≡ Some row → (r : Regs) (seen : List (Option ℕ)) →
    length (accesses part Instruction r (Some op ∷ seen)) ≡ row.cycles + further part op r (Some op ∷ seen)
exact part op row low is r seen =
    let facts = agreed part op row low is in
    let all = Some op ∷ seen in
    let here : length (form_of part (row_at part op) r all) ≡ length (form part (bus_use row.mnemonic) row r all) =
    ap (λ o. length (form_of part o r all)) is in
    let cycles : 1 + base part (bus_use row.mnemonic) row ≡ row.cycles = ap (λ (f : Facts). f.0) facts in
    let more : amount (reason part (bus_use row.mnemonic) row) r all ≡ amount (cause part op) r all = ap (λ (f : Facts). amount f.1.0 r all) facts in
    let decimal = ap (λ (f : Facts). if f.1.1 && has_flag r.p 0x08 then 1 else 0) facts ∙ decimal-is part op r in
    omega (arith, here, form-is part (bus_use row.mnemonic) row r all, cycles, more, decimal)

-- ---- The bytes seen decide the accesses up to the next one

later : (seen : List (Option ℕ)) (x : Option ℕ) (k : ℕ) → (byte seen k ≡ 0) ⊎ (byte (seen ++ x ∷ []) k ≡ byte seen k)
later [] x k = inl refl
later (y ∷ ys) x zero = inr refl
later (y ∷ ys) x (suc k) = later ys x k

crosses-later : (low last index : ℕ) → (low ≡ 0) ⊎ (last ≡ low) →
    (if crosses_page low index then 1 else 0) ≤ (if crosses_page last index then 1 else 0)
crosses-later low last index is = grind arith

crossing-later : (low last high up index : ℕ) → (low ≡ 0) ⊎ (last ≡ low) → crossing (low + 256 * high) index ≤ crossing (last + 256 * up) index
crossing-later low last high up index is = rw (crossed low high index) (rw (crossed last up index) (crosses-later low last index is))

at_home : (pc : ℕ) → away pc 0 ≡ 0
at_home pc = grind arith

away-later : (pc by last : ℕ) → (by ≡ 0) ⊎ (last ≡ by) → away pc by ≤ away pc last
away-later pc by last (inl is) = omega (arith, ap (away pc) is ∙ at_home pc)
away-later pc by last (inr is) = omega (arith, ap (away pc) is)

amount-later : (c : Cause) (r : Regs) (seen : List (Option ℕ)) (x : Option ℕ) → amount c r seen ≤ amount c r (seen ++ x ∷ [])
amount-later Never r seen x = omega arith
amount-later ByX r seen x = crossing-later _ _ _ _ r.x (later seen x 1)
amount-later ByY r seen x = crossing-later _ _ _ _ r.y (later seen x 1)
amount-later ByPointer r seen x = crossing-later _ _ _ _ r.y (later seen x 2)
amount-later (Branch flag set) r seen x = by (if set then has_flag r.p flag else not (has_flag r.p flag))
  where
    by : (b : Bool) → (if b then 1 + away r.pc (byte seen 1) else 0) ≤ (if b then 1 + away r.pc (byte (seen ++ x ∷ []) 1) else 0)
    by true = omega (arith, away-later r.pc _ _ (later seen x 1))
    by false = omega arith
amount-later Always r seen x = away-later r.pc _ _ (later seen x 1)

form-later : (part : Part) (o : Option Row) (r : Regs) (seen : List (Option ℕ)) (x : Option ℕ) →
    length (form_of part o r seen) ≤ length (form_of part o r (seen ++ x ∷ []))
form-later part None r seen x = omega arith
form-later part (Some row) r seen x =
    let kind = bus_use row.mnemonic in
    omega (arith, form-is part kind row r seen, form-is part kind row r (seen ++ x ∷ []), amount-later (reason part kind row) r seen x)

within : (cs : List Cycle) (n : ℕ) → is_none (slice_get cs n) ≡ false → n < length cs
within [] n some = absurd (true≢false some)
within (c ∷ cs) zero some = omega arith
within (c ∷ cs) (suc n) some = let rest : n < length cs = within cs n some in omega arith

-- The bytes seen are no more than the accesses, also after a further one.
pub fits : (part : Part) (r : Regs) (seen : List (Option ℕ)) (x : Option ℕ) →
    is_none (slice_get (accesses part Instruction r seen) (length seen)) ≡ false →
    length (seen ++ x ∷ []) ≤ length (accesses part Instruction r (seen ++ x ∷ []))
fits part r [] x some = omega arith
fits part r (y ∷ ys) x some =
    let there = within (accesses part Instruction r (y ∷ ys)) (length (y ∷ ys)) some in
    let more = form-later part (row_at part (byte (y ∷ ys) 0)) r (y ∷ ys) x in
    omega (arith, there, more, length_push ys x)
