use Rattle.std.proofs.Common.{arith}
use Rattle.tube_party.proofs.Seeing.{stops_there, sees_one_more, rises_past}
use Rattle.tube_party.proofs.party.Party.advance_seeing.Goals as goal

pub returns-in-Nothing : goal.returns-in-Nothing
returns-in-Nothing g c =
    stops_there g.Self.Party.transitions c.args.until.0 c.args.lines.now c.args.safe_until.0 _ _ _ _ c.loop-tick.invariant (rw c.in-Nothing.is at c.advance.ensures) tt

pub returns-in-Access : goal.returns-in-Access
returns-in-Access g c =
    stops_there g.Self.Party.transitions c.args.until.0 c.args.lines.now c.args.safe_until.0 _ _ _ _ c.loop-tick.invariant (rw c.in-Access.is at c.advance.ensures) tt

pub returns-then-safe_until-tick : goal.returns-then-safe_until-tick
returns-then-safe_until-tick g c =
    stops_there g.Self.Party.transitions c.args.until.0 c.args.lines.now c.args.safe_until.0 _ _ _ _ c.loop-tick.invariant (rw c.in-Look.is at c.advance.ensures) (omega (arith, c.if-safe_until-tick.true))

pub loop-tick-smaller : goal.loop-tick-smaller
loop-tick-smaller g c =
    let past = rises_past g.Self.Party.transitions c.args.until.0 c.args.lines.now c.args.safe_until.0 _ _ _ _ c.in-Look.tick g.met.Self.Party.lawful c.advance.ensures c.in-Look.is c.answer.ensures in
    omega (arith, past.0, past.1)

pub loop-tick-preserved : goal.loop-tick-preserved
loop-tick-preserved g c =
    sees_one_more g.Self.Party.transitions c.args.until.0 c.args.lines.now c.args.safe_until.0 _ _ _ _ _ c.in-Look.tick c.loop-tick.invariant c.advance.ensures c.in-Look.is
    (omega (arith, c.if-safe_until-tick.false)) c.answer.ensures
