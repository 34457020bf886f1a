-- The ticks of the host, access by access.
use Rattle.std.proofs.Common.{◌≡◌, ◌∙◌, sym, ap, subst, refl, ℕ, ◌+◌, ◌-◌, ◌*◌, ◌/◌, ◌%◌, ◌<◌, ◌≤◌, ◌==◌, ◌&&◌, ◌||◌, Bool, true, false, List, [], ◌∷◌, ◌++◌, length, arith, inl, inr}
use Rattle.std.specs.Prelude.{Option, None, Some, is_none, if◌then◌else◌}
use Rattle.std.proofs.lemmas.Bool.{cases_Bool, true≢false}
use Rattle.std.proofs.lemmas.List.{append-nil}
use Rattle.beeb_bits.specs.declared.clock.Clock.{Clock}
use Rattle.beeb_bits.specs.Clock.{host, some-host}
use Rattle.op_table.specs.declared.names.Part.TheVariants.{Nmos}
use Rattle.cpu_alu.specs.declared.Cycle.{Cycle}
use Rattle.cpu_core.specs.declared.Sequence.TheVariants.{Instruction}
use Rattle.cpu6502.specs.Sequences.{next_cycle, after_byte, halted}
use Rattle.tube_chip.specs.declared.Answer.{Answer}
use Rattle.host_devices.specs.Map.{stretched_in, memory_map}
use Rattle.host_bus.specs.Bus.{clock_of, bus_break_pending}
use Rattle.host_mach.specs.State.{HostState}
use Rattle.host_mach.specs.Step.{address, byte_of, cycle_ticks, is_break, after_break, after_step, host_closed, next_state}
use Rattle.host_mach.specs.Lawful.{cycle-ticks}
use Rattle.host_mach.specs.SameClock.{next_cycle-same}
use Rattle.law_machines.specs.Cycles.{the_cycle}
use Rattle.law_machines.specs.Further.{further}
use Rattle.law_machines.specs.HostTicks.{run, cycles, IsAccess, AllAccess, wait, takes, HostTakes, HostTakesTheTable}
use Rattle.law_machines.proofs.Counts.{never_ends, stays, one_more, same_sequence, same_regs, Fits, fits_first, fits_on, table, cycle_more}

-- the tick of the look, if a sequence is over
tail : HostState → ℕ
tail s = if is_none (next_cycle s.cpu) then 1 else 0

waits : (slow even : Bool) → (if slow then (if even then 2 else 3) else 1) ≡ 1 + (if slow then (if even then 1 else 2) else 0)
waits true true = refl
waits true false = refl
waits false even = refl

due_tail : (over : Bool) (t n : ℕ) → 1 ≤ n → (if over then t + (n - 1) else t + n) + (if over then 1 else 0) ≡ t + n
due_tail true t n some = omega arith
due_tail false t n some = omega arith

some_ticks : (clock : Clock) (t : ℕ) (c : Cycle) → cycle_ticks clock t c ≡ host clock * (1 + wait clock t c)
some_ticks clock t c = rw (waits (stretched_in memory_map (address c)) (t / host clock % 2 == 0))

-- a step that is an access
plain : (s : HostState) (a : Option Answer) → IsAccess s → next_state s a ≡ after_step (next_cycle s.cpu) (host_closed s (s.due + 1)) a
plain s a is = rw is.0

-- an access hands the processor a byte
handed : (o : Option Cycle) (s : HostState) (a : Option Answer) → is_none o ≡ false → (byte : ℕ) × ((after_step o s a).cpu ≡ after_byte s.cpu byte)
handed None s a some = absurd (true≢false some)
handed (Some c) s a some = (byte_of s.bus s.due a c, refl)

given_one : (s : HostState) (a : Option Answer) → IsAccess s → (byte : ℕ) × ((next_state s a).cpu ≡ after_byte s.cpu byte)
given_one s a is =
    let gave = handed (next_cycle s.cpu) (host_closed s (s.due + 1)) a is.1 in
    (gave.0, ap (λ (x : HostState). x.cpu) (plain s a is) ∙ gave.1)

never : (answers : List (Option Answer)) (s : HostState) → halted s.cpu ≡ true → AllAccess answers s → is_none (next_cycle (run answers s).cpu) ≡ false
never [] s is all = never_ends Nmos s.cpu is
never (a ∷ answers) s is all =
    let same : (next_state s a).cpu ≡ s.cpu = (given_one s a all.0).1 ∙ stays Nmos _ is in
    never answers _ (ap halted same ∙ is) all.1

-- So a processor whose sequence ends was never halted.
runs_on : (answers : List (Option Answer)) (s : HostState) → AllAccess answers s → next_cycle (run answers s).cpu ≡ None → halted s.cpu ≡ false
runs_on answers s all over = elim (cases_Bool (halted s.cpu)) [
  | inl is ↦ absurd (true≢false (sym (ap is_none over) ∙ never answers s is all))
  | inr runs ↦ runs
]

never_both : (b : Bool) → (b && false) ≡ false
never_both true = refl
never_both false = refl

one : (o : Option Cycle) (s : HostState) (a : Option Answer) → is_none o ≡ false → halted s.cpu ≡ false →
    (after_step o s a).due + tail (after_step o s a) ≡ s.due + takes (clock_of s.bus.bus) s.due (the_cycle o)
unfolding tail
one None s a some runs = absurd (true≢false some)
one (Some c) s a some runs =
    let clock = clock_of s.bus.bus in
    let n = cycle_ticks clock s.due c in
    let over = is_none (next_cycle (after_byte s.cpu (byte_of s.bus s.due a c))) in
    let pending = bus_break_pending s.bus.bus (s.due + (n - 1)) in
    let none = ap (λ h. pending && h) runs ∙ never_both pending in
    let is = some_ticks clock s.due c in
    let all : host clock * (1 + wait clock s.due c) + 0 ≡ host clock * (1 + wait clock s.due c) = omega arith in
    ap (λ (b : Bool). (if b || over then s.due + (n - 1) else s.due + n) + (if over then 1 else 0)) none
    ∙ due_tail over s.due n (omega (arith, cycle-ticks clock s.due c, some-host clock))
    ∙ ap (λ k. s.due + k) (is ∙ sym all)

first : (s : HostState) (a : Option Answer) → IsAccess s → halted s.cpu ≡ false →
    (next_state s a).due + tail (next_state s a) ≡ s.due + takes (clock_of s.bus.bus) s.due (the_cycle (next_cycle s.cpu))
first s a is runs = ap (λ (x : HostState). x.due + tail x) (plain s a is) ∙ one (next_cycle s.cpu) (host_closed s (s.due + 1)) a is.1 runs

joins : (clock : Clock) (t : ℕ) (cs rest : List Cycle) → takes clock t (cs ++ rest) ≡ takes clock t cs + takes clock (t + takes clock t cs) rest
joins clock t [] rest =
    let same : t ≡ t + 0 = omega arith in
    let none : takes clock (t + 0) rest ≡ 0 + takes clock (t + 0) rest = omega arith in
    ap (λ u. takes clock u rest) same ∙ none
joins clock t (c ∷ cs) rest =
    let k = host clock * (1 + wait clock t c) in
    let here = takes clock (t + k) cs in
    let same : t + k + here ≡ t + (k + here) = omega arith in
    let sum : k + (here + takes clock (t + (k + here)) rest) ≡ k + here + takes clock (t + (k + here)) rest = omega arith in
    ap (λ n. k + n) (joins clock (t + k) cs rest ∙ ap (λ u. here + takes clock u rest) same) ∙ sum

total : (a : Option Answer) (answers : List (Option Answer)) (s : HostState) → AllAccess (a ∷ answers) s → next_cycle (run (a ∷ answers) s).cpu ≡ None →
    (run (a ∷ answers) s).due + tail (run (a ∷ answers) s) ≡ s.due + takes (clock_of s.bus.bus) s.due (cycles (a ∷ answers) s)
unfolding tail
total a [] s all over = first s a all.0 (runs_on (a ∷ []) s all over) ∙ ap (λ cs. s.due + takes (clock_of s.bus.bus) s.due cs) (sym (append-nil (the_cycle (next_cycle s.cpu))))
total a (b ∷ answers) s all over =
    let x = next_state s a in
    let cs = the_cycle (next_cycle s.cpu) in
    let rest = cycles (b ∷ answers) x in
    let clock = clock_of s.bus.bus in
    let k = takes clock s.due cs in
    let none : x.due ≡ x.due + 0 = omega arith in
    let here : x.due ≡ s.due + k = none ∙ ap (λ o. x.due + (if o then 1 else 0)) (sym all.1.0.1) ∙ first s a all.0 (runs_on (a ∷ b ∷ answers) s all over) in
    let sum : s.due + k + takes clock (s.due + k) rest ≡ s.due + (k + takes clock (s.due + k) rest) = omega arith in
    total b answers x all.1 over ∙ ap (λ y. x.due + takes y x.due rest) (next_cycle-same s a) ∙ ap (λ t. t + takes clock t rest) here ∙ sum
    ∙ ap (λ n. s.due + n) (sym (joins clock s.due cs rest))

at_look : (s : HostState) (answers : List (Option Answer)) → 0 < length answers → AllAccess answers s → next_cycle (run answers s).cpu ≡ None →
    (run answers s).due + 1 ≡ s.due + takes (clock_of s.bus.bus) s.due (cycles answers s)
unfolding tail
at_look s [] some all over = absurd (omega arith)
at_look s (a ∷ answers) some all over =
    let x = run (a ∷ answers) s in
    ap (λ o. x.due + (if is_none o then 1 else 0)) (sym over) ∙ total a answers s all over

-- a look takes a tick, and so does a break step
behind_by : (breaks : Bool) {o : Option Cycle} (s : HostState) (a : Option Answer) → o ≡ None → (if breaks then after_break s else after_step o s a).due ≡ s.due + 1
behind_by true s a over = refl
behind_by false s a over = rw over

pub host_takes : HostTakes
host_takes = record {
  look = at_look;
  behind = λ s answers answer some all over.
      let x = run answers s in
      behind_by (is_break x) _ answer over ∙ at_look s answers some all over;
}

-- ---- The number of cycles

one_cycle : (o : Option Cycle) (cs : List Cycle) → is_none o ≡ false → length (the_cycle o ++ cs) ≡ 1 + length cs
one_cycle None cs some = absurd (true≢false some)
one_cycle (Some c) cs some = omega arith

count : (answers : List (Option Answer)) (s : HostState) → AllAccess answers s → next_cycle (run answers s).cpu ≡ None →
    length (cycles answers s) + length s.cpu.seen ≡ length (run answers s).cpu.seen
count [] s all over = omega arith
count (a ∷ answers) s all over =
    let x = next_state s a in
    elim (cases_Bool (halted s.cpu)) [
      | inl is ↦ absurd (true≢false (sym (ap is_none over) ∙ never (a ∷ answers) s is all))
      | inr runs ↦
          ap (λ n. n + length s.cpu.seen) (one_cycle (next_cycle s.cpu) (cycles answers x) all.0.1)
          ∙ cycle_more _ _ _ _
          (ap (λ c. length c.seen) (given_one s a all.0).1 ∙ one_more Nmos s.cpu _ runs) (count answers x all.1 over)
    ]

one_sequence : (answers : List (Option Answer)) (s : HostState) → AllAccess answers s → (run answers s).cpu.sequence ≡ s.cpu.sequence
one_sequence [] s all = refl
one_sequence (a ∷ answers) s all =
    one_sequence answers (next_state s a) all.1 ∙ ap (λ c. c.sequence) (given_one s a all.0).1 ∙ same_sequence Nmos s.cpu _

one_regs : (answers : List (Option Answer)) (s : HostState) → AllAccess answers s → (run answers s).cpu.regs ≡ s.cpu.regs
one_regs [] s all = refl
one_regs (a ∷ answers) s all =
    one_regs answers (next_state s a) all.1 ∙ ap (λ c. c.regs) (given_one s a all.0).1 ∙ same_regs Nmos s.cpu _

fits_all : (answers : List (Option Answer)) (s : HostState) → Fits Nmos s.cpu → s.cpu.sequence ≡ Instruction → AllAccess answers s →
    next_cycle (run answers s).cpu ≡ None → Fits Nmos (run answers s).cpu
fits_all [] s here instruction all over = here
fits_all (a ∷ answers) s here instruction all over =
    let gave = given_one s a all.0 in
    let on : Fits Nmos (next_state s a).cpu =
    subst (Fits Nmos) (sym gave.1) (fits_on Nmos s.cpu gave.0 instruction (runs_on (a ∷ answers) s all over) all.0.1) in
    let same : (next_state s a).cpu.sequence ≡ Instruction =
    ap (λ c. c.sequence) gave.1 ∙ same_sequence Nmos s.cpu gave.0 ∙ instruction in
    fits_all answers (next_state s a) on same all.1 over

pub host_table : HostTakesTheTable
host_table s answers op seen row instruction fresh all over saw low is =
    let fitting = fits_all answers s (fits_first Nmos s.cpu fresh) instruction all over in
    let exactly = table Nmos _ op seen row fitting (one_sequence answers s all ∙ instruction) over saw low is in
    let same = ap (λ r. further Nmos op r (Some op ∷ seen)) (one_regs answers s all) in
    let none : length s.cpu.seen ≡ 0 = ap length fresh in
    omega (arith, exactly, same, none, count answers s all over)
