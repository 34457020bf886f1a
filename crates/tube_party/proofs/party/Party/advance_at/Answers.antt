use Rattle.std.proofs.Common.{arith}
use Rattle.tube_party.proofs.Seeing.{port_run_to_ask_there, port_run_to_ask_one_more, rises_past_ask}
use Rattle.tube_party.proofs.party.Party.advance_at.Goals as goal

pub returns-in_default : goal.returns-in_default
returns-in_default g c =
    port_run_to_ask_there g.Self.Party.transitions g.D.TubePort.answers c.args.until.0 c.args.lines.now c.args.safe_until.0 _ _ _ _ _ _ c.loop-tick.invariant c.advance_seeing-ask.ensures

pub returns-in_default-ask : goal.returns-in_default-ask
returns-in_default-ask g c =
    let sees = rw c.in-Access.is at c.advance_seeing-ask.ensures in
    rw c.in_default-ask.ensures
    (port_run_to_ask_there g.Self.Party.transitions g.D.TubePort.answers c.args.until.0 c.args.lines.now c.args.safe_until.0 _ _ _ _ _ _ c.loop-tick.invariant sees)

pub loop-tick-smaller : goal.loop-tick-smaller
loop-tick-smaller g c =
    let past = rises_past_ask g.Self.Party.transitions c.args.until.0 c.args.lines.now c.args.safe_until.0 _ _ _ _ c.in-Access.tick c.in-Access.op c.in-Some.byte g.met.Self.Party.lawful
    c.advance_seeing-ask.ensures c.in-Access.is c.answer.ensures in
    omega (arith, past.0, past.1)

pub loop-tick-preserved : goal.loop-tick-preserved
loop-tick-preserved g c =
    port_run_to_ask_one_more g.Self.Party.transitions g.D.TubePort.answers c.args.until.0 c.args.lines.now c.args.safe_until.0 _ _ _ _ _ _ _ _ c.in-Access.tick c.in-Access.op c.in-Some.byte
    c.loop-tick.invariant c.advance_seeing-ask.ensures c.in-Access.is c.in-Some.ensures c.answer.ensures
