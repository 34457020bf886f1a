use Rattle.std.proofs.Common.{◌∙◌}
use Rattle.tube_machine.specs.Step.{At, at_of}
use Rattle.tube_machine.proofs.Taken.{passed}
use Rattle.tube_machine.proofs.steps.pass_byte.Goals as goal

pub returns-clause-taken : goal.returns-clause-taken
returns-clause-taken g c =
    let part = g.P.Processor.part in
    let w = g.B.TubeBus.bus_model in
    let s : At g.B.TubeBus.State = at_of (g.P.Processor.core c.args.cpu.now) (g.B.TubeBus.state c.args.bus.now) c.args.due.now in
    c.end_cycle.ensures.cycled
    ∙ passed part w g.B.TubeBus.wired s (g.B.TubeBus.state c.close.new.self) c.args.byte c.cycle-cycle.result c.requires.access c.requires.skip c.close.ensures.closed c.cycle-cycle.ensures.value
