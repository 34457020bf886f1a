use Rattle.std.proofs.Common.{◌≡◌, ◌<◌, ◌∙◌, inl, inr, sym, false, None, Some, arith}
use Rattle.std.proofs.lemmas.Bool.{leb-false}
use Rattle.tube_chip.specs.declared.Answer.TheVariants.{Seen}
use Rattle.tube_party.specs.Transitions.{shown_lines}
use Rattle.tube_machine.specs.Step.{At, at_of, is_break, transitions_of}
use Rattle.tube_machine.proofs.Stops.{breaks-alone, more, more-look, stops-at-look, next-rises}
use Rattle.tube_machine.proofs.Ways.{then-came, way-port_run_to_ask, way-on, way-rises}
use Rattle.tube_machine.proofs.steps.advance_at.Goals as goal
use Rattle.tube_machine.proofs.steps.advance_at.Goals.{then-due-min, else-due-min}

pub returns-in-Asked-clause-port_run_to_ask : goal.returns-in-Asked-clause-port_run_to_ask
returns-in-Asked-clause-port_run_to_ask g c = way-port_run_to_ask c.loop-ask.invariant.went (rw c.in-Asked.is at c.carry_on.ensures.ran)

pub returns-then-is_break-clause-port_run_to_ask : goal.returns-then-is_break-clause-port_run_to_ask
returns-then-is_break-clause-port_run_to_ask g c =
    let m = transitions_of g.P.Processor.part g.B.TubeBus.bus_model in
    let v = shown_lines c.args.lines.now c.args.safe_until.0 in
    let ran = rw c.in-Look.is at c.carry_on.ensures.ran in
    way-port_run_to_ask (way-on m v c.loop-ask.invariant.went ran.0)
    (stops-at-look g.P.Processor.part g.B.TubeBus.bus_model g.B.TubeBus.wired c.args.until.0 c.args.lines.now c.args.safe_until.0 c.look.ensures.asks (elim c.if-due-min.branch [
      | then-due-min v ↦ inr (omega (arith, v.if-due-min.true, c.min.ensures))
      | else-due-min v ↦ inl (sym v.is_break.ensures ∙ sym v.value-is ∙ c.if-is_break.true)
    ]))

-- A break step without a Tube: it is below `until`, and asks nothing.
pub loop-ask-smaller-then-breaks_alone : goal.loop-ask-smaller-then-breaks_alone
loop-ask-smaller-then-breaks_alone g c =
    let part = g.P.Processor.part in
    let w = g.B.TubeBus.bus_model in
    let at : At g.B.TubeBus.State = at_of (g.P.Processor.core c.carry_on.new.cpu) (g.B.TubeBus.state c.carry_on.new.bus) c.carry_on.new.due in
    let ran = rw c.in-Look.is at c.carry_on.ensures.ran in
    let alone = breaks-alone part w at c.args.until.0 (sym c.breaks_alone.ensures ∙ c.if-breaks_alone.true) in
    omega (arith, way-rises part g.B.TubeBus.wired (shown_lines c.args.lines.now c.args.safe_until.0) ran.0, next-rises part w g.B.TubeBus.wired at None (alone.1 _ c.take_break.ensures.broken).1, alone.0)

pub loop-ask-preserved-then-breaks_alone : goal.loop-ask-preserved-then-breaks_alone
loop-ask-preserved-then-breaks_alone g c =
    let m = transitions_of g.P.Processor.part g.B.TubeBus.bus_model in
    let v = shown_lines c.args.lines.now c.args.safe_until.0 in
    let part = g.P.Processor.part in
    let w = g.B.TubeBus.bus_model in
    let at : At g.B.TubeBus.State = at_of (g.P.Processor.core c.carry_on.new.cpu) (g.B.TubeBus.state c.carry_on.new.bus) c.carry_on.new.due in
    let ran = rw c.in-Look.is at c.carry_on.ensures.ran in
    let alone = breaks-alone part w at c.args.until.0 (sym c.breaks_alone.ensures ∙ c.if-breaks_alone.true) in
    record {
      went = then-came m v (way-on m v c.loop-ask.invariant.went ran.0) (more part w g.B.TubeBus.wired c.args.until.0 c.args.lines.now c.args.safe_until.0 at _ alone.0
          (alone.1 _ c.take_break.ensures.broken));
      before = c.take_break.ensures.before;
    }

pub loop-ask-smaller : goal.loop-ask-smaller
loop-ask-smaller g c =
    let part = g.P.Processor.part in
    let at : At g.B.TubeBus.State = at_of (g.P.Processor.core c.carry_on.new.cpu) (g.B.TubeBus.state c.carry_on.new.bus) c.carry_on.new.due in
    let ran = rw c.in-Look.is at c.carry_on.ensures.ran in
    let early : at.due < c.min.result = elim c.if-due-min.branch [
      | then-due-min v ↦ leb-false c.min.result at.due (sym v.value-is ∙ c.if-is_break.false)
      | else-due-min v ↦ omega (arith, v.if-due-min.false)
    ] in
    omega (
      arith,
      way-rises part g.B.TubeBus.wired (shown_lines c.args.lines.now c.args.safe_until.0) ran.0,
      next-rises part g.B.TubeBus.bus_model g.B.TubeBus.wired at
          (Some (Seen c.args.lines.now)) c.take_lines.ensures.taken,
      early,
      c.min.ensures,
    )

pub loop-ask-preserved : goal.loop-ask-preserved
loop-ask-preserved g c =
    let m = transitions_of g.P.Processor.part g.B.TubeBus.bus_model in
    let v = shown_lines c.args.lines.now c.args.safe_until.0 in
    let part = g.P.Processor.part in
    let w = g.B.TubeBus.bus_model in
    let at : At g.B.TubeBus.State = at_of (g.P.Processor.core c.carry_on.new.cpu) (g.B.TubeBus.state c.carry_on.new.bus) c.carry_on.new.due in
    let ran = rw c.in-Look.is at c.carry_on.ensures.ran in
    let plain : (at.due < c.min.result) × (is_break part w at ≡ false) = elim c.if-due-min.branch [
      | then-due-min v ↦ let below : at.due < c.min.result = leb-false c.min.result at.due (sym v.value-is ∙ c.if-is_break.false) in absurd (omega (arith, v.if-due-min.true, below))
      | else-due-min v ↦ (omega (arith, v.if-due-min.false), sym v.is_break.ensures ∙ sym v.value-is ∙ c.if-is_break.false)
    ] in
    record {
      went = then-came m v (way-on m v c.loop-ask.invariant.went ran.0) (more-look part w g.B.TubeBus.wired c.args.until.0 c.args.lines.now c.args.safe_until.0 at _
          (omega (arith, plain.0, c.min.ensures)) (omega (arith, plain.0, c.min.ensures)) plain.1 ran.1 c.take_lines.ensures.taken);
      before = c.take_lines.ensures.before;
    }
