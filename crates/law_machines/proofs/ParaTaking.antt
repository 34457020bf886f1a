-- The ticks of the second processor, access by access.
use Rattle.std.proofs.Common.{◌≡◌, ◌∙◌, sym, ap, subst, refl, ℕ, ◌+◌, ◌-◌, ◌*◌, ◌<◌, ◌==◌, Bool, true, false, not, List, [], ◌∷◌, ◌++◌, length, arith}
use Rattle.std.specs.Prelude.{Option, None, Some, is_none, if◌then◌else◌}
use Rattle.std.proofs.lemmas.Bool.{true≢false}
use Rattle.beeb_bits.specs.declared.clock.Clock.{Clock}
use Rattle.beeb_bits.specs.declared.clock.Clock.TheVariants.{Three, Four}
use Rattle.beeb_bits.specs.Clock.{para, some-para}
use Rattle.op_table.specs.declared.names.Part.TheVariants.{Cmos}
use Rattle.cpu_alu.specs.declared.Cycle.{Cycle}
use Rattle.cpu_core.specs.declared.Sequence.TheVariants.{Instruction}
use Rattle.cpu65c02.specs.State as cpu
use Rattle.cpu65c02.specs.Sequences.{next_cycle, after_byte}
use Rattle.tube_chip.specs.declared.Answer.{Answer}
use Rattle.para_mach.specs.State.{ParaState}
use Rattle.tube_machine.specs.Step.{byte_of, lines_in, after_step, closed_to}
use Rattle.para_mach.specs.Step.{para_bus_model, next_state}
use Rattle.law_machines.specs.Cycles.{the_cycle}
use Rattle.law_machines.specs.Further.{further}
use Rattle.law_machines.specs.ParaTicks.{run, cycles, AllAccess, ParaTakes, ParaTakesTheTable}
use Rattle.law_machines.proofs.Counts.{one_more, same_sequence, same_regs, Fits, fits_first, fits_on, table, cycle_more}

-- the tick of the look, if a sequence is over
tail : ParaState → ℕ
tail s = if is_none (next_cycle s.cpu) then 1 else 0

due_tail : (c : Clock) (over : Bool) (t : ℕ) → (if over then t + (para c - 1) else t + para c) + (if over then 1 else 0) ≡ t + para c
due_tail c true t = omega (arith, some-para c)
due_tail c false t = omega arith

-- an access of the machine, which is closed after the access's first tick
one : (o : Option Cycle) (s : ParaState) (a : Option Answer) → is_none o ≡ false →
    (after_step Cmos para_bus_model o s a).due + tail (after_step Cmos para_bus_model o s a) ≡ s.due + para s.bus.clock
unfolding tail
one None s a some = absurd (true≢false some)
one (Some c) s a some = due_tail s.bus.clock (is_none (next_cycle (after_byte s.cpu (byte_of para_bus_model s.bus s.due a c)))) s.due

first : (s : ParaState) (a : Option Answer) → is_none (next_cycle s.cpu) ≡ false → (next_state s a).due + tail (next_state s a) ≡ s.due + para s.bus.clock
first s a some = one (next_cycle s.cpu) (closed_to para_bus_model s (s.due + 1)) a some

clock_by : (o : Option Cycle) (s : ParaState) (a : Option Answer) → is_none o ≡ false → (after_step Cmos para_bus_model o s a).bus.clock ≡ s.bus.clock
clock_by None s a some = absurd (true≢false some)
clock_by (Some c) s a some = refl

same_clock : (s : ParaState) (a : Option Answer) → is_none (next_cycle s.cpu) ≡ false → (next_state s a).bus.clock ≡ s.bus.clock
same_clock s a some = clock_by _ _ a some

-- a cycle before the others
one_before : (c : Clock) (due : ℕ) {at : ℕ} (rest : ℕ) {all : ℕ} → at ≡ due + para c → all ≡ 1 + rest → at + para c * rest ≡ due + para c * all
one_before Three due rest here one = omega arith
one_before Four due rest here one = omega arith

one_cycle : (o : Option Cycle) (cs : List Cycle) → is_none o ≡ false → length (the_cycle o ++ cs) ≡ 1 + length cs
one_cycle None cs some = absurd (true≢false some)
one_cycle (Some c) cs some = omega arith

total : (a : Option Answer) (answers : List (Option Answer)) (s : ParaState) → AllAccess (a ∷ answers) s →
    (run (a ∷ answers) s).due + tail (run (a ∷ answers) s) ≡ s.due + para s.bus.clock * length (cycles (a ∷ answers) s)
unfolding tail
total a [] s all =
    let one = one_cycle (next_cycle s.cpu) [] all.0 in
    first s a all.0 ∙ omega arith ∙ ap (λ n. s.due + para s.bus.clock * n) (sym one)
total a (b ∷ answers) s all =
    let x = next_state s a in
    let rest = length (cycles (b ∷ answers) x) in
    let none : x.due ≡ x.due + 0 = omega arith in
    let here = none ∙ ap (λ o. x.due + (if o then 1 else 0)) (sym all.1.0) ∙ first s a all.0 in
    let one = one_cycle (next_cycle s.cpu) (cycles (b ∷ answers) x) all.0 in
    total b answers x all.1
    ∙ ap (λ (c : Clock). x.due + para c * rest) (same_clock s a all.0)
    ∙ one_before s.bus.clock s.due rest here one

at_look : (s : ParaState) (answers : List (Option Answer)) → 0 < length answers → AllAccess answers s → next_cycle (run answers s).cpu ≡ None →
    (run answers s).due + 1 ≡ s.due + para s.bus.clock * length (cycles answers s)
unfolding tail
at_look s [] some all over = absurd (omega arith)
at_look s (a ∷ answers) some all over =
    let x = run (a ∷ answers) s in
    ap (λ o. x.due + (if is_none o then 1 else 0)) (sym over) ∙ total a answers s all

-- a look of a processor that is not held
begins : (resets prst : Bool) (due : ℕ) (h r t : ParaState) → h.bus.is_held ≡ true → r.due ≡ due + 1 → t.due ≡ due + 1 →
    (if resets then (if prst then h else r) else t).bus.is_held ≡ false →
    (if resets then (if prst then h else r) else t).due ≡ due + 1
begins true true due h r t eh er et free = absurd (true≢false (sym eh ∙ free))
begins true false due h r t eh er et free = er
begins false prst due h r t eh er et free = et

looks_on : (o : Option Cycle) (s : ParaState) (a : Option Answer) → o ≡ None → (after_step Cmos para_bus_model o s a).bus.is_held ≡ false
    → (after_step Cmos para_bus_model o s a).due ≡ s.due + 1
looks_on None s a over free = let l = lines_in a in begins (not (l.resets == s.bus.resets)) l.prst s.due _ _ _ refl refl refl free
looks_on (Some c) s a over free = cc

pub para_takes : ParaTakes
para_takes = record {
  look = at_look;
  behind = λ s answers answer some all over free.
      let x = run answers s in
      looks_on _ _ answer over free ∙ at_look s answers some all over;
}

-- ---- The number of cycles

handed : (o : Option Cycle) (s : ParaState) (a : Option Answer) → is_none o ≡ false → (byte : ℕ) × ((after_step Cmos para_bus_model o s a).cpu ≡ after_byte s.cpu byte)
handed None s a some = absurd (true≢false some)
handed (Some c) s a some = (byte_of para_bus_model s.bus s.due a c, refl)

given_one : (s : ParaState) (a : Option Answer) → is_none (next_cycle s.cpu) ≡ false → (byte : ℕ) × ((next_state s a).cpu ≡ after_byte s.cpu byte)
given_one s a some = handed (next_cycle s.cpu) (closed_to para_bus_model s (s.due + 1)) a some

count : (answers : List (Option Answer)) (s : ParaState) → AllAccess answers s →
    length (cycles answers s) + length s.cpu.seen ≡ length (run answers s).cpu.seen
count [] s all = omega arith
count (a ∷ answers) s all =
    let x = next_state s a in
    ap (λ n. n + length s.cpu.seen) (one_cycle (next_cycle s.cpu) (cycles answers x) all.0)
    ∙ cycle_more _ _ _ _
    (ap (λ (c : cpu.State). length c.seen) (given_one s a all.0).1 ∙ one_more Cmos s.cpu _ refl) (count answers x all.1)

one_sequence : (answers : List (Option Answer)) (s : ParaState) → AllAccess answers s → (run answers s).cpu.sequence ≡ s.cpu.sequence
one_sequence [] s all = refl
one_sequence (a ∷ answers) s all =
    one_sequence answers (next_state s a) all.1 ∙ ap (λ (c : cpu.State). c.sequence) (given_one s a all.0).1
    ∙ same_sequence Cmos s.cpu (given_one s a all.0).0

one_regs : (answers : List (Option Answer)) (s : ParaState) → AllAccess answers s → (run answers s).cpu.regs ≡ s.cpu.regs
one_regs [] s all = refl
one_regs (a ∷ answers) s all =
    one_regs answers (next_state s a) all.1 ∙ ap (λ (c : cpu.State). c.regs) (given_one s a all.0).1
    ∙ same_regs Cmos s.cpu (given_one s a all.0).0

fits_all : (answers : List (Option Answer)) (s : ParaState) → Fits Cmos s.cpu → s.cpu.sequence ≡ Instruction → AllAccess answers s →
    Fits Cmos (run answers s).cpu
fits_all [] s here instruction all = here
fits_all (a ∷ answers) s here instruction all =
    let gave = given_one s a all.0 in
    let on : Fits Cmos (next_state s a).cpu = subst (Fits Cmos) (sym gave.1) (fits_on Cmos s.cpu gave.0 instruction refl all.0) in
    let same : (next_state s a).cpu.sequence ≡ Instruction =
    ap (λ (c : cpu.State). c.sequence) gave.1 ∙ same_sequence Cmos s.cpu gave.0 ∙ instruction in
    fits_all answers (next_state s a) on same all.1

pub para_table : ParaTakesTheTable
para_table s answers op seen row instruction begun all over saw low is =
    let fitting = fits_all answers s (fits_first Cmos s.cpu begun) instruction all in
    let exactly = table Cmos _ op seen row fitting (one_sequence answers s all ∙ instruction) over saw low is in
    let same = ap (λ r. further Cmos op r (Some op ∷ seen)) (one_regs answers s all) in
    let none : length s.cpu.seen ≡ 0 = ap length begun in
    omega (arith, exactly, same, none, count answers s all)
