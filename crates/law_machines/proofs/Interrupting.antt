-- The sequence that begins at a look, over runs of either processor.
use Rattle.std.proofs.Common.{◌≡◌, ◌∙◌, ap, refl, ℕ, ◌+◌, ◌≤◌, ◌==◌, ◌||◌, Bool, true, false, not, List, [], ◌∷◌, arith, ◌⊎◌, inl, inr}
use Rattle.std.specs.Prelude.{Option, None, Some, if◌then◌else◌}
use Rattle.beeb_bits.specs.Bits.{weight}
use Rattle.op_table.specs.declared.names.Part.TheVariants.{Nmos, Cmos}
use Rattle.cpu_alu.specs.declared.Regs.{Regs}
use Rattle.cpu_alu.specs.declared.Cycle.{Cycle}
use Rattle.cpu_alu.specs.declared.flags.TheConstants.{INTERRUPT}
use Rattle.cpu_alu.specs.Flags.{has_flag}
use Rattle.cpu_core.specs.declared.Sequence.{Sequence}
use Rattle.cpu_core.specs.declared.Sequence.TheVariants.{Instruction, Reset, Irq}
use Rattle.cpu_core.specs.Sequences.{sequence_at_look}
use Rattle.cpu65c02.specs.Sequences as cmos
use Rattle.cpu6502.specs.Sequences as nmos
use Rattle.tube_chip.specs.declared.Answer.{Answer}
use Rattle.tube_chip.specs.declared.Answer.TheVariants.{Seen}
use Rattle.tube_chip.specs.declared.Lines.{Lines}
use Rattle.tube_machine.specs.Step as at
use Rattle.tube_machine.specs.Step.{lines_in, byte_of, closed_to}
use Rattle.host_bus.specs.Bus.{bus_nmis, bus_irq}
use Rattle.host_mach.specs.State as host
use Rattle.host_mach.specs.Step as host_step
use Rattle.para_mach.specs.State as para
use Rattle.para_mach.specs.Step as para_step
use Rattle.para_mach.specs.Step.{para_bus_model}
use Rattle.law_machines.specs.Begins.{begun, is_nmi}
use Rattle.law_machines.specs.ParaTicks as para_run
use Rattle.law_machines.specs.HostTicks as host_run
use Rattle.law_machines.specs.Interrupts.{interrupt_at, para_begins, ParaGoesOn, no_lines, NmisNeverFall, para_nmis, ParaInterrupts, HostGoesOn, RisesNeverFall, host_nmis, HostInterrupts}
use Rattle.law_machines.proofs.Beginning.{over_not_begun, access_not_begun, same_choice}

not_begun : {q : Option Sequence} {sequence : Sequence} → q ≡ None → q ≡ Some sequence → ⊥
not_begun none is = cc

-- ---- the second processor

-- the counts that it has taken
record Took (x y : ℕ) (s : para.ParaState) : Type 0 where
  pub resets : s.bus.resets ≡ x
  pub nmis : s.bus.nmis ≡ y

abbrev para_after : Option Cycle → para.ParaState → Option Answer → para.ParaState
para_after o s a = at.after_step Cmos para_bus_model o s a

-- a step after which nothing begins takes no count
look_takes : (resets prst : Bool) {h : para.ParaState} (r t : para.ParaState) {x y : ℕ} {q p : Sequence} → Took x y h → begun r.cpu ≡ Some q → begun t.cpu ≡ Some p →
    begun (if resets then (if prst then h else r) else t).cpu ≡ None → Took x y (if resets then (if prst then h else r) else t)
look_takes true true r t th br bt none = th
look_takes true false r t th br bt none = absurd (not_begun none br)
look_takes false prst r t th br bt none = absurd (not_begun none bt)

step_takes : (o : Option Cycle) {s : para.ParaState} (a : Option Answer) {x y : ℕ} → Took x y s → begun (para_after o s a).cpu ≡ None → Took x y (para_after o s a)
step_takes (Some c) a took none = record { resets = took.resets; nmis = took.nmis }
step_takes None {s} a took none =
    let l = lines_in a in
    look_takes (not (l.resets == s.bus.resets)) l.prst _ _ (record { resets = took.resets; nmis = took.nmis }) refl refl none

goes_on : (answers : List (Option Answer)) (s : para.ParaState) (x y : ℕ) → Took x y s → ParaGoesOn answers s → Took x y (para_run.run answers s)
goes_on [] s x y took on = took
goes_on (a ∷ answers) s x y took on =
    goes_on answers (para_step.next_state s a) x y (step_takes (cmos.next_cycle s.cpu) a (record { resets = took.resets; nmis = took.nmis }) on.0) on.1

-- a look at which a sequence begins takes both counts
same_count : {a b : ℕ} → not (a == b) ≡ false → b ≡ a
same_count is = grind arith

begins_takes : (resets prst : Bool) (h : para.ParaState) {r t : para.ParaState} (l : Lines) {x : ℕ} {q : Sequence} → begun h.cpu ≡ None → Took l.resets l.nmis r → Took x l.nmis t →
    (resets ≡ false → x ≡ l.resets) → begun (if resets then (if prst then h else r) else t).cpu ≡ Some q → Took l.resets l.nmis (if resets then (if prst then h else r) else t)
begins_takes true true h l none tr tk same is = absurd (not_begun none is)
begins_takes true false h l none tr tk same is = tr
begins_takes false prst h l none tr tk same is = record { resets = tk.resets ∙ same refl; nmis = tk.nmis }

look_took : (o : Option Cycle) (s : para.ParaState) (l : Lines) {q : Sequence} → o ≡ None → begun s.cpu ≡ None → begun (para_after o s (Some (Seen l))).cpu ≡ Some q →
    Took l.resets l.nmis (para_after o s (Some (Seen l)))
look_took (Some c) s l over none is = cc
look_took None s l over none is =
    begins_takes _ l.prst _ l none (record { resets = refl; nmis = refl }) (record { resets = refl; nmis = refl })
    (same_count) is

-- the sequence that begins at a look, by the counts taken
look_choice : (resets prst : Bool) (h r t : para.ParaState) {q : Sequence} → begun h.cpu ≡ None → begun r.cpu ≡ Some Reset → begun t.cpu ≡ Some q →
    begun (if resets then (if prst then h else r) else t).cpu ≡ (if resets then (if prst then None else Some Reset) else Some q)
look_choice true true h r t eh er et = eh
look_choice true false h r t eh er et = er
look_choice false prst h r t eh er et = et

look_begins : (o : Option Cycle) {s : para.ParaState} (before l : Lines) → o ≡ None → begun s.cpu ≡ None → Took before.resets before.nmis s →
    begun (para_after o s (Some (Seen l))).cpu ≡ para_begins before l (cmos.after s.cpu)
look_begins (Some c) before l over none took = cc
look_begins None {s} before l over none took =
    look_choice (not (l.resets == s.bus.resets)) l.prst _ _ _ none refl refl
    ∙ ap (λ (n : ℕ). if not (l.resets == n) then (if l.prst then None else Some Reset)
    else Some (sequence_at_look (not (l.nmis == s.bus.nmis)) l.pirq (cmos.after s.cpu))) took.resets
    ∙ ap (λ (n : ℕ). if not (l.resets == before.resets) then (if l.prst then None else Some Reset)
    else Some (sequence_at_look (not (l.nmis == n)) l.pirq (cmos.after s.cpu))) took.nmis
    ∙ ap (λ (q : Sequence). if not (l.resets == before.resets) then (if l.prst then None else Some Reset) else Some q)
    (same_choice (not (l.nmis == before.nmis)) l.pirq (cmos.after s.cpu))

only_look : (o : Option Cycle) (s : para.ParaState) (a : Option Answer) {q : Sequence} → begun (para_after o s a).cpu ≡ Some q → o ≡ None
only_look None s a is = refl
only_look (Some c) s a is = absurd (not_begun (access_not_begun Cmos s.cpu _) is)

para_next : {t : para.ParaState} (before l : Lines) → Took before.resets before.nmis t → cmos.next_cycle t.cpu ≡ None →
    begun (para_step.next_state t (Some (Seen l))).cpu ≡ para_begins before l (cmos.after t.cpu)
para_next {t} before l took over =
    look_begins _ before l over (over_not_begun Cmos t.cpu over) (record { resets = took.resets; nmis = took.nmis })

-- each NMI sequence has a rise of its own
choice_few : (rose irq : Bool) (r : Regs) {seen taken : ℕ} → rose ≡ not (seen == taken) → taken ≤ seen → taken + weight 1 (is_nmi (Some (sequence_at_look rose irq r))) ≤ seen
choice_few true irq r is low = grind arith
choice_few false true r {seen} {taken} is low = by_flag (has_flag r.p INTERRUPT)
  where
    by_flag : (b : Bool) → taken + weight 1 (is_nmi (Some (if not b then Irq else Instruction))) ≤ seen
    by_flag true = omega arith
    by_flag false = omega arith
choice_few false false r is low = omega arith

look_few : (resets prst : Bool) (h r t : para.ParaState) {taken seen : ℕ} → taken ≤ seen → begun h.cpu ≡ None → h.bus.nmis ≡ taken
    → begun r.cpu ≡ Some Reset → r.bus.nmis ≡ seen →
    taken + weight 1 (is_nmi (begun t.cpu)) ≤ t.bus.nmis →
    taken + weight 1 (is_nmi (begun (if resets then (if prst then h else r) else t).cpu)) ≤ (if resets then (if prst then h else r) else t).bus.nmis
look_few true true h r t low bh nh br nr few = rw (bh, nh) (omega arith)
look_few true false h r t low bh nh br nr few = rw (br, nr) (omega (arith, low))
look_few false prst h r t low bh nh br nr few = few

step_few : (o : Option Cycle) (s : para.ParaState) (a : Option Answer) → (o ≡ None → begun s.cpu ≡ None) → (o ≡ None → s.bus.nmis ≤ (lines_in a).nmis) →
    s.bus.nmis + weight 1 (is_nmi (begun (para_after o s a).cpu)) ≤ (para_after o s a).bus.nmis
step_few (Some c) s a none low =
    rw (access_not_begun Cmos s.cpu (byte_of para_bus_model s.bus s.due a c)) (omega arith)
step_few None s a none low =
    let l = lines_in a in
    look_few (not (l.resets == s.bus.resets)) l.prst _ _ _ (low refl) (none refl) refl refl refl
    (choice_few (not (l.nmis == s.bus.nmis)) l.pirq (cmos.after s.cpu) refl (low refl))

all_few : (answers : List (Option Answer)) (s : para.ParaState) → NmisNeverFall answers s → s.bus.nmis + para_nmis answers s ≤ (para_run.run answers s).bus.nmis
all_few [] s low = omega arith
all_few (a ∷ answers) s low =
    let x = para_step.next_state s a in
    let one : s.bus.nmis + weight 1 (is_nmi (begun x.cpu)) ≤ x.bus.nmis =
    step_few (cmos.next_cycle s.cpu) (closed_to para_bus_model s (s.due + 1)) a (over_not_begun Cmos s.cpu) low.0 in
    let more : x.bus.nmis + para_nmis answers x ≤ (para_run.run answers x).bus.nmis = all_few answers x low.1 in
    omega (arith, one, more)

pub para_interrupts : ParaInterrupts
para_interrupts = record {
  only = λ s a sequence is. only_look _ _ a is;
  next = λ s before sequence answers l over is on none.
      let u = para_step.next_state s (Some (Seen before)) in
      let took = look_took _ _ before over (over_not_begun Cmos s.cpu over) is in
      para_next before l (goes_on answers u before.resets before.nmis took on) none;
  first = λ clock rom answers l on none.
      let p = para.power_on clock rom in
      para_next no_lines l (goes_on answers p 0 0 (record { resets = refl; nmis = refl }) on) none;
  few = λ s answers low. all_few answers s low;
}

-- ---- the host

abbrev host_after : Bool → Option Cycle → host.HostState → Option Answer → host.HostState
host_after breaks o s a = if breaks then host_step.after_break s else host_step.after_step o s a

host_only : (breaks : Bool) (o : Option Cycle) (s : host.HostState) (a : Option Answer) {q : Sequence} → begun (host_after breaks o s a).cpu ≡ Some q → (breaks ≡ true) ⊎ (o ≡ None)
host_only true o s a is = inl refl
host_only false None s a is = inr refl
host_only false (Some c) s a is = absurd (not_begun (access_not_begun Nmos s.cpu _) is)

host_stays : (breaks : Bool) (o : Option Cycle) (s : host.HostState) (a : Option Answer) → begun (host_after breaks o s a).cpu ≡ None → (host_after breaks o s a).bus.nmis ≡ s.bus.nmis
host_stays true o s a none = cc
host_stays false None s a none = cc
host_stays false (Some c) s a none = refl

host_takes : (breaks : Bool) (o : Option Cycle) (s : host.HostState) (a : Option Answer) (q : Sequence) → begun (host_after breaks o s a).cpu ≡ Some q →
    (host_after breaks o s a).bus.nmis ≡ bus_nmis (host_after breaks o s a).bus.bus
host_takes true o s a q is = refl
host_takes false None s a q is = refl
host_takes false (Some c) s a q is = absurd (not_begun (access_not_begun Nmos s.cpu _) is)

host_goes_on : (answers : List (Option Answer)) (s : host.HostState) → HostGoesOn answers s → (host_run.run answers s).bus.nmis ≡ s.bus.nmis
host_goes_on [] s on = refl
host_goes_on (a ∷ answers) s on =
    host_goes_on answers (host_step.next_state s a) on.1
    ∙ host_stays (host_step.is_break s) (nmos.next_cycle s.cpu) (host_step.host_closed s (s.due + 1)) a on.0

host_begins : (breaks : Bool) (o : Option Cycle) (s : host.HostState) (l : Lines) (n : ℕ) → breaks ≡ false → o ≡ None → s.bus.nmis ≡ n →
    begun (host_after breaks o s (Some (Seen l))).cpu ≡ Some (interrupt_at (not (bus_nmis s.bus.bus == n)) (bus_irq s.bus.bus || l.hirq) (nmos.after s.cpu))
host_begins true o s l n plain over took = cc
host_begins false (Some c) s l n plain over took = cc
host_begins false None s l n plain over took =
    ap (λ (q : Sequence). Some q) (same_choice (not (bus_nmis s.bus.bus == s.bus.nmis)) (bus_irq s.bus.bus || l.hirq) (nmos.after s.cpu))
    ∙ ap (λ (k : ℕ). Some (interrupt_at (not (bus_nmis s.bus.bus == k)) (bus_irq s.bus.bus || l.hirq) (nmos.after s.cpu))) took

host_step_few : (breaks : Bool) (o : Option Cycle) (s : host.HostState) (a : Option Answer) → s.bus.nmis ≤ bus_nmis (host_after breaks o s a).bus.bus →
    s.bus.nmis + weight 1 (is_nmi (begun (host_after breaks o s a).cpu)) ≤ (host_after breaks o s a).bus.nmis
host_step_few true o s a low = omega (arith, low)
host_step_few false (Some c) s a low = rw (access_not_begun Nmos s.cpu (host_step.byte_of s.bus s.due a c)) (omega arith)
host_step_few false None s a low =
    choice_few (not (bus_nmis s.bus.bus == s.bus.nmis)) (bus_irq s.bus.bus || (lines_in a).hirq) (nmos.after s.cpu) refl low

host_few : (answers : List (Option Answer)) (s : host.HostState) → RisesNeverFall answers s → s.bus.nmis + host_nmis answers s ≤ (host_run.run answers s).bus.nmis
host_few [] s low = omega arith
host_few (a ∷ answers) s low =
    let x = host_step.next_state s a in
    let one : s.bus.nmis + weight 1 (is_nmi (begun x.cpu)) ≤ x.bus.nmis =
    host_step_few (host_step.is_break s) (nmos.next_cycle s.cpu) (host_step.host_closed s (s.due + 1)) a low.0 in
    let more : x.bus.nmis + host_nmis answers x ≤ (host_run.run answers x).bus.nmis = host_few answers x low.1 in
    omega (arith, one, more)

pub host_interrupts : HostInterrupts
host_interrupts = record {
  only = λ s a sequence is. host_only (host_step.is_break s) (nmos.next_cycle s.cpu) (host_step.host_closed s (s.due + 1)) a is;
  next = λ s a sequence answers l is on over plain.
      let u = host_step.next_state s a in
      let t = host_run.run answers u in
      let took : t.bus.nmis ≡ bus_nmis u.bus.bus =
      host_goes_on answers u on ∙ host_takes (host_step.is_break s) (nmos.next_cycle s.cpu) (host_step.host_closed s (s.due + 1)) a sequence is in
      host_begins (host_step.is_break t) (nmos.next_cycle t.cpu) (host_step.host_closed t (t.due + 1)) l (bus_nmis u.bus.bus) plain over took;
  first = λ clock roms d0 d1 script plugs tube answers l on over plain.
      let u = host.with_tube tube (host.power_on clock roms d0 d1 script plugs) in
      let t = host_run.run answers u in
      host_begins (host_step.is_break t) (nmos.next_cycle t.cpu) (host_step.host_closed t (t.due + 1)) l 0 plain over (host_goes_on answers u on);
  few = λ s answers low. host_few answers s low;
}
