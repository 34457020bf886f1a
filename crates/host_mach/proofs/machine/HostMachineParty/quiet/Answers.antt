use Rattle.std.proofs.Common.{◌≡◌, ◌∙◌, ◌&&◌, sym, refl, false}
use Rattle.tube_party.specs.Quiet.{quiet_at_due}
use Rattle.host_mach.specs.State.{HostState}
use Rattle.host_mach.specs.Step.{host_transitions, is_tube}
use Rattle.host_mach.specs.Lawful.{host_lawful}
use Rattle.host_mach.specs.View.{host_seen}
use Rattle.host_mach.proofs.Quiet.{idle_quiet}
use Rattle.host_mach.proofs.machine.HostMachineParty.quiet.Goals as goal

pub returns-then-not-answers-clause-quiet : goal.returns-then-not-answers-clause-quiet
returns-then-not-answers-clause-quiet g c =
    let s : HostState = host_seen g.D.BusDevice.plug c.args.self.now in
    let not_tube : (s.bus.tube && is_tube s.cpu.regs.pc) ≡ false = rw (← c.at_start.ensures, ← c.answers.ensures) c.if-not-answers.true in
    idle_quiet s c.next_break.result c.max.result (sym c.halted.ensures ∙ c.if-halted.true) not_tube c.next_break.ensures.none c.max.ensures

pub returns-else-halted-clause-quiet : goal.returns-else-halted-clause-quiet
returns-else-halted-clause-quiet g c = quiet_at_due host_transitions (host_seen g.D.BusDevice.plug c.args.self.now) _ host_lawful refl
