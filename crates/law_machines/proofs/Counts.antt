-- The number of cycles that a processor has done.
use Rattle.std.proofs.Common.{◌≡◌, ◌∙◌, sym, ap, subst, refl, ℕ, zero, suc, ◌+◌, ◌<◌, ◌≤◌, Bool, true, false, cond, List, [], ◌∷◌, ◌++◌, length, arith}
use Rattle.std.specs.Prelude.{Option, None, Some, is_none, slice_get}
use Rattle.std.proofs.lemmas.Bool.{false≢true}
use Rattle.std.proofs.lemmas.List.{length_push}
use Rattle.op_table.specs.declared.names.Part.{Part}
use Rattle.op_table.specs.declared.names.Part.TheVariants.{Nmos, Cmos}
use Rattle.op_table.specs.declared.rows.Row.{Row}
use Rattle.cpu_alu.specs.declared.Regs.{Regs}
use Rattle.cpu_alu.specs.declared.Cycle.{Cycle}
use Rattle.cpu_alu.specs.declared.Cycle.TheVariants.{Read}
use Rattle.cpu_core.specs.declared.Sequence.{Sequence}
use Rattle.cpu_core.specs.declared.Sequence.TheVariants.{Instruction, Reset, Nmi, Irq}
use Rattle.cpu_core.specs.State.{State}
use Rattle.cpu_core.specs.Accesses.{row_at, form_of}
use Rattle.cpu_core.specs.Sequences.{accesses, next_cycle, shown_byte, halts, halted, after_byte}
use Rattle.law_machines.specs.Further.{further}
use Rattle.law_machines.proofs.LengthLemmas.{exact, fits}

-- an opcode without an instruction is read again
read_again : (o : Option Row) (r : Regs) (seen : List (Option ℕ)) → is_none o ≡ true → is_none (slice_get (Read r.pc ∷ form_of Nmos o r seen) 1) ≡ false
read_again None r seen none = refl
read_again (Some row) r seen none = absurd (false≢true none)

goes_on : (seen : List (Option ℕ)) (r : Regs) (sequence : Sequence) → halts seen Nmos sequence ≡ true →
    is_none (next_cycle Nmos (record { sequence = sequence; regs = r; seen = seen })) ≡ false
goes_on [] r sequence is = absurd (false≢true is)
goes_on (None ∷ seen) r sequence is = absurd (false≢true is)
goes_on (Some op ∷ x ∷ seen) r sequence is = absurd (false≢true is)
goes_on (Some op ∷ []) r Reset is = absurd (false≢true is)
goes_on (Some op ∷ []) r Nmi is = absurd (false≢true is)
goes_on (Some op ∷ []) r Irq is = absurd (false≢true is)
goes_on (Some op ∷ []) r Instruction is = read_again _ r _ is

-- a halted processor never ends its sequence
pub never_ends : (part : Part) (c : State) → halted part c ≡ true → is_none (next_cycle part c) ≡ false
never_ends Nmos c is = goes_on c.seen c.regs c.sequence is
never_ends Cmos c is = absurd (false≢true is)

pub stays : (part : Part) {c : State} (byte : ℕ) → halted part c ≡ true → after_byte part c byte ≡ c
stays part byte is = rw is

-- otherwise each cycle adds to the bytes seen
pub one_more : (part : Part) (c : State) (byte : ℕ) → halted part c ≡ false → length (after_byte part c byte).seen ≡ length c.seen + 1
one_more part c byte runs =
    ap (λ b. length (cond b c (record c { seen = c.seen ++ shown_byte (next_cycle part c) byte ∷ [] })).seen) runs ∙ length_push c.seen (shown_byte (next_cycle part c) byte)

by_test : (b : Bool) (c : State) (x : Option ℕ) → (cond b c (record c { seen = c.seen ++ x ∷ [] })).sequence ≡ c.sequence
by_test true c x = refl
by_test false c x = refl

pub same_sequence : (part : Part) (c : State) (byte : ℕ) → (after_byte part c byte).sequence ≡ c.sequence
same_sequence part c byte = by_test (halted part c) c (shown_byte (next_cycle part c) byte)

-- a list is no longer than a place that it lacks
lacks : (cs : List Cycle) (n : ℕ) → slice_get cs n ≡ None → length cs ≤ n
lacks [] n none = omega arith
lacks (c ∷ cs) zero none = cc
lacks (c ∷ cs) (suc n) none = let rest : length cs ≤ n = lacks cs n none in omega arith

pub same_regs : (part : Part) (c : State) (byte : ℕ) → (after_byte part c byte).regs ≡ c.regs
same_regs part c byte = by (halted part c)
  where
    by : (b : Bool) → (cond b c (record c { seen = c.seen ++ shown_byte (next_cycle part c) byte ∷ [] })).regs ≡ c.regs
    by true = refl
    by false = refl

-- A processor has seen no more cycles than its instruction has.
pub Fits : Part → State → Type 0
Fits part c = length c.seen ≤ length (accesses part Instruction c.regs c.seen)

pub fits_first : (part : Part) (c : State) → c.seen ≡ [] → Fits part c
unfolding Fits
fits_first part c none = let zero_of : length c.seen ≡ 0 = ap length none in omega (arith, zero_of)

pub fits_on : (part : Part) (c : State) (byte : ℕ) → c.sequence ≡ Instruction → halted part c ≡ false →
    is_none (next_cycle part c) ≡ false → Fits part (after_byte part c byte)
unfolding Fits
fits_on part c byte instruction runs some =
    let x = shown_byte (next_cycle part c) byte in
    let some_more = ap (λ q. is_none (slice_get (accesses part q c.regs c.seen) (length c.seen))) (sym instruction) ∙ some in
    let on = record c { seen = c.seen ++ x ∷ [] } in
    subst (λ b. length (cond b c on).seen ≤ length (accesses part Instruction (cond b c on).regs (cond b c on).seen)) (sym runs)
    (fits part c.regs c.seen x some_more)

-- an instruction that is over has seen the cycles that the table has, and its further ones
pub table : (part : Part) (c : State) (op : ℕ) (seen : List (Option ℕ)) (row : Row) → Fits part c →
    c.sequence ≡ Instruction → next_cycle part c ≡ None → c.seen ≡ Some op ∷ seen → op < 256 → row_at part op ≡ Some row →
    length c.seen ≡ row.cycles + further part op c.regs (Some op ∷ seen)
unfolding Fits
table part c op seen row fitting instruction over saw low is =
    let none = ap (λ q. slice_get (accesses part q c.regs c.seen) (length c.seen)) (sym instruction) ∙ over in
    let most = lacks (accesses part Instruction c.regs c.seen) (length c.seen) none in
    let same = ap (λ xs. length (accesses part Instruction c.regs xs)) saw in
    omega (arith, most, fitting, same, exact part op row low is c.regs seen)

-- the cycles of a step and of the steps after it
pub cycle_more : (before here more last : ℕ) → here ≡ before + 1 → more + here ≡ last → 1 + more + before ≡ last
cycle_more before here more last one rest = omega arith
