-- The sequence that begins at a look, over whole runs: a reset, an NMI, an IRQ or the next
-- instruction. (MCS6500 Hardware Manual, interrupts: NMI is by the edges of its line and IRQ by the
-- level; Application Note 004, the lines of the Tube.)
use Rattle.std.specs.Prelude.{ℕ, ◌≡◌, ◌⊎◌, ◌==◌, ◌+◌, ◌≤◌, ◌&&◌, ◌||◌, Bool, true, false, not, List, [], ◌∷◌, Option, Some, None, if◌then◌else◌}
use Rattle.beeb_bits.specs.declared.clock.Clock.{Clock}
use Rattle.beeb_bits.specs.Bits.{weight}
use Rattle.cpu_alu.specs.declared.Regs.{Regs}
use Rattle.cpu_alu.specs.declared.flags.TheConstants.{INTERRUPT}
use Rattle.cpu_alu.specs.Flags.{has_flag}
use Rattle.cpu_core.specs.declared.Sequence.{Sequence}
use Rattle.cpu_core.specs.declared.Sequence.TheVariants.{Instruction, Reset, Nmi, Irq}
use Rattle.cpu65c02.specs.Sequences as cmos
use Rattle.cpu6502.specs.Sequences as nmos
use Rattle.tube_chip.specs.declared.Answer.{Answer}
use Rattle.tube_chip.specs.declared.Answer.TheVariants.{Seen}
use Rattle.tube_chip.specs.declared.Lines.{Lines}
use Rattle.tube_machine.specs.Step.{lines_in}
use Rattle.bus_plug.specs.Plug.{Plug}
use Rattle.rom_set.specs.Roms.{Roms}
use Rattle.disc_image.specs.Image.{Image}
use Rattle.key_script.specs.declared.Event.{Event}
use Rattle.host_bus.specs.Bus.{bus_nmis, bus_irq}
use Rattle.host_mach.specs.State as host
use Rattle.host_mach.specs.Step as host_step
use Rattle.para_mach.specs.State as para
use Rattle.para_mach.specs.Step as para_step
use Rattle.law_machines.specs.Begins.{begun, is_nmi}
use Rattle.law_machines.specs.ParaTicks as para_run
use Rattle.law_machines.specs.HostTicks as host_run

-- An NMI if its line has risen since the look before, otherwise an IRQ if its line is asserted and
-- flag I is clear, otherwise the next instruction.
abbrev pub interrupt_at : Bool → Bool → Regs → Sequence
interrupt_at rose asserted r = if rose then Nmi else if asserted && not (has_flag r.p INTERRUPT) then Irq else Instruction

-- ---- The second processor

-- The sequence that begins at a look with lines `l`. The last sequence began at a look with lines
-- `before`. If the counts of resets differ, it is a reset, and none while the reset line is
-- asserted. Otherwise the count of NMIs, the IRQ line and flag I decide.
abbrev pub para_begins : Lines → Lines → Regs → Option Sequence
para_begins before l r =
    if not (l.resets == before.resets) then (if l.prst then None else Some Reset) else Some (interrupt_at (not (l.nmis == before.nmis)) l.pirq r)

-- No sequence begins after any of the steps.
abbrev pub ParaGoesOn : List (Option Answer) → para.ParaState → Type 0
ParaGoesOn [] s = Unit {0}
ParaGoesOn (a ∷ answers) s = (begun (para_step.next_state s a).cpu ≡ None) × ParaGoesOn answers (para_step.next_state s a)

-- the lines before the first look: no counts
abbrev pub no_lines : Lines
no_lines = record { prst = false; resets = 0; nmis = 0; pirq = false; hirq = false }

-- Each look of the steps sees a count of NMIs that is at least the one taken.
abbrev pub NmisNeverFall : List (Option Answer) → para.ParaState → Type 0
NmisNeverFall [] s = Unit {0}
NmisNeverFall (a ∷ answers) s =
    (cmos.next_cycle s.cpu ≡ None → s.bus.nmis ≤ (lines_in a).nmis) × NmisNeverFall answers (para_step.next_state s a)

-- the number of NMI sequences that begin after these steps
abbrev pub para_nmis : List (Option Answer) → para.ParaState → ℕ
para_nmis [] s = 0
para_nmis (a ∷ answers) s = weight 1 (is_nmi (begun (para_step.next_state s a).cpu)) + para_nmis answers (para_step.next_state s a)

pub record ParaInterrupts : Type 0 where
  -- A sequence begins only at a look.
  pub only : (s : para.ParaState) (a : Option Answer) (sequence : Sequence) → begun (para_step.next_state s a).cpu ≡ Some sequence → cmos.next_cycle s.cpu ≡ None
  -- from the look at which a sequence began to the next one
  pub next : (s : para.ParaState) (before : Lines) (sequence : Sequence) (answers : List (Option Answer)) (l : Lines) →
      cmos.next_cycle s.cpu ≡ None → begun (para_step.next_state s (Some (Seen before))).cpu ≡ Some sequence →
      ParaGoesOn answers (para_step.next_state s (Some (Seen before))) →
      let t : para.ParaState = para_run.run answers (para_step.next_state s (Some (Seen before))) in
      cmos.next_cycle t.cpu ≡ None → begun (para_step.next_state t (Some (Seen l))).cpu ≡ para_begins before l (cmos.after t.cpu)
  -- from power-on to the first
  pub first : (clock : Clock) (rom : List ℕ) (answers : List (Option Answer)) (l : Lines) → ParaGoesOn answers (para.power_on clock rom) →
      let t : para.ParaState = para_run.run answers (para.power_on clock rom) in
      cmos.next_cycle t.cpu ≡ None → begun (para_step.next_state t (Some (Seen l))).cpu ≡ para_begins no_lines l (cmos.after t.cpu)
  -- The number of NMI sequences is at most the rise of the count.
  pub few : (s : para.ParaState) (answers : List (Option Answer)) → NmisNeverFall answers s →
      s.bus.nmis + para_nmis answers s ≤ (para_run.run answers s).bus.nmis

-- ---- The host

-- No sequence begins after any of the steps.
abbrev pub HostGoesOn : List (Option Answer) → host.HostState → Type 0
HostGoesOn [] s = Unit {0}
HostGoesOn (a ∷ answers) s = (begun (host_step.next_state s a).cpu ≡ None) × HostGoesOn answers (host_step.next_state s a)

-- the number of rises of the NMI line up to the end of a step, when the devices have been run to it
abbrev pub rises_at : host.HostState → ℕ
rises_at s = bus_nmis (host_step.host_closed s (s.due + 1)).bus.bus

-- A device of the host, or the Tube, asks for an interrupt at this time.
abbrev pub asks_at : host.HostState → Lines → Bool
asks_at s l = bus_irq (host_step.host_closed s (s.due + 1)).bus.bus || l.hirq

-- Each of the steps leaves a count of rises that is at least the one taken.
abbrev pub RisesNeverFall : List (Option Answer) → host.HostState → Type 0
RisesNeverFall [] s = Unit {0}
RisesNeverFall (a ∷ answers) s =
    (s.bus.nmis ≤ bus_nmis (host_step.next_state s a).bus.bus) × RisesNeverFall answers (host_step.next_state s a)

-- the number of NMI sequences that begin after these steps
abbrev pub host_nmis : List (Option Answer) → host.HostState → ℕ
host_nmis [] s = 0
host_nmis (a ∷ answers) s = weight 1 (is_nmi (begun (host_step.next_state s a).cpu)) + host_nmis answers (host_step.next_state s a)

pub record HostInterrupts : Type 0 where
  -- A sequence begins only at a look or at a break step.
  pub only : (s : host.HostState) (a : Option Answer) (sequence : Sequence) → begun (host_step.next_state s a).cpu ≡ Some sequence →
      (host_step.is_break s ≡ true) ⊎ (nmos.next_cycle s.cpu ≡ None)
  -- from the look, or the break step, at which a sequence began to the next look
  pub next : (s : host.HostState) (a : Option Answer) (sequence : Sequence) (answers : List (Option Answer)) (l : Lines) →
      begun (host_step.next_state s a).cpu ≡ Some sequence →
      HostGoesOn answers (host_step.next_state s a) →
      let u : host.HostState = host_step.next_state s a in
      let t : host.HostState = host_run.run answers u in
      nmos.next_cycle t.cpu ≡ None → host_step.is_break t ≡ false →
      begun (host_step.next_state t (Some (Seen l))).cpu ≡ Some (interrupt_at (not (rises_at t == bus_nmis u.bus.bus)) (asks_at t l) (nmos.after t.cpu))
  -- from power-on to the first
  pub first : (clock : Clock) (roms : Roms) (d0 d1 : Option Image) (script : List Event) (plugs : List Plug) (tube : Bool) (answers : List (Option Answer)) (l : Lines) →
      let u : host.HostState = host.with_tube tube (host.power_on clock roms d0 d1 script plugs) in
      HostGoesOn answers u →
      let t : host.HostState = host_run.run answers u in
      nmos.next_cycle t.cpu ≡ None → host_step.is_break t ≡ false →
      begun (host_step.next_state t (Some (Seen l))).cpu ≡ Some (interrupt_at (not (rises_at t == 0)) (asks_at t l) (nmos.after t.cpu))
  -- The number of NMI sequences is at most the number of rises of the line.
  pub few : (s : host.HostState) (answers : List (Option Answer)) → RisesNeverFall answers s →
      s.bus.nmis + host_nmis answers s ≤ (host_run.run answers s).bus.nmis
