use Rattle.std.proofs.Common.{◌+◌, ◌∙◌}
use Rattle.tube_machine.specs.Step.{At, at_of}
use Rattle.tube_machine.specs.Exchange.{IsAtTube}
use Rattle.tube_machine.proofs.Taken.{asked-at-tube, taken}
use Rattle.tube_machine.proofs.steps.take_byte.Goals as goal

pub returns-clause-taken : goal.returns-clause-taken
returns-clause-taken g c =
    let part = g.P.Processor.part in
    let w = g.B.TubeBus.bus_model in
    let s : At g.B.TubeBus.State = at_of (g.P.Processor.core c.args.cpu.now) (g.B.TubeBus.state c.args.bus.now) c.args.due.now in
    let there : IsAtTube w (w.close s.bus (s.due + 1)) c.want.result = asked-at-tube part w g.B.TubeBus.wired s c.want.result (s.due + 1) c.want.ensures c.requires.access c.requires.asked in
    let close = c.close.ensures.closed in
    c.end_cycle.ensures.cycled
    ∙ taken part w g.B.TubeBus.wired s c.want.result (g.B.TubeBus.state c.answered.new.self) c.args.byte c.cycle-cycle.result c.want.ensures c.requires.access there
    (rw (← close) c.answered.ensures.after) c.cycle-cycle.ensures.value
    (rw (← close) (c.answered.ensures.fast c.args.due.now))
