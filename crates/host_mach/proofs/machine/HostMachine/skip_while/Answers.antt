use Rattle.tube_party.specs.Transitions.{shown_lines}
use Rattle.host_mach.specs.View.{host_seen}
use Rattle.host_mach.proofs.Passed.{passes_seen}
use Rattle.host_mach.proofs.machine.HostMachine.skip_while.Goals as goal

pub returns : goal.returns
returns g c = (
  c.skip_over.ensures.passes.0,
  passes_seen c.args.skip c.args.until.0 (shown_lines c.args.lines.now c.args.safe_until.0) c.skip_over.ensures.passes.0
      (host_seen g.D.BusDevice.plug c.args.self.now) _ c.skip_over.ensures.passes.1,
)
