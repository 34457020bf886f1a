use Rattle.tube_machine.specs.Step.{At, at_of}
use Rattle.tube_machine.proofs.Taken.{asked-over}
use Rattle.tube_machine.proofs.steps.answer.Goals as goal

pub take_lines-requires-clause-over : goal.take_lines-requires-clause-over
take_lines-requires-clause-over g c =
    let part = g.P.Processor.part in
    let w = g.B.TubeBus.bus_model in
    let s : At g.B.TubeBus.State = at_of (g.P.Processor.core c.args.cpu.now) (g.B.TubeBus.state c.args.bus.now) c.args.due.now in
    asked-over part w s c.in-Seen.lines (rw c.in-Seen.is at c.requires.asked.kind)
