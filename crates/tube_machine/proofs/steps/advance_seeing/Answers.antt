use Rattle.tube_machine.specs.Step.{transitions_of}
use Rattle.tube_party.specs.Steps.{port_run_to_ask_shut}
use Rattle.tube_machine.proofs.steps.advance_seeing.Goals as goal

pub returns-clause-sees : goal.returns-clause-sees
returns-clause-sees g c =
    port_run_to_ask_shut (transitions_of g.P.Processor.part g.B.TubeBus.bus_model) _ c.args.until.0 c.args.lines.now c.args.safe_until.0 (λ d t op byte e no. no) _ _ _ _ _ c.advance_at.ensures.port_run_to_ask
