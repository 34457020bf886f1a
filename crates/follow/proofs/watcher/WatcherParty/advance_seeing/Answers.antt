use Rattle.std.proofs.Common.{arith}
use Rattle.tube_party.specs.Steps.{due_rises}
use Rattle.tube_party.proofs.Seeing.{rises_past}
use Rattle.follow.specs.CodeWatched.{watched_transitions, watched_lawful}
use Rattle.follow.proofs.Watching.{stops, sees_on}
use Rattle.follow.proofs.watcher.WatcherParty.advance_seeing.Goals as goal

pub returns-in-Nothing : goal.returns-in-Nothing
returns-in-Nothing g c = stops _ c.loop-tick.invariant c.skip_over.ensures (rw c.in-Nothing.is at c.advance.ensures) tt

pub returns-in-Access : goal.returns-in-Access
returns-in-Access g c = stops _ c.loop-tick.invariant c.skip_over.ensures (rw c.in-Access.is at c.advance.ensures) tt

pub returns-then-safe_until-tick : goal.returns-then-safe_until-tick
returns-then-safe_until-tick g c = stops _ c.loop-tick.invariant c.skip_over.ensures (rw c.in-Look.is at c.advance.ensures) (omega (arith, c.if-safe_until-tick.true))

pub loop-tick-smaller : goal.loop-tick-smaller
loop-tick-smaller g c =
    let v = watched_transitions g.M.Seen.steps g.M.Seen.sights in
    let lawful = watched_lawful g.M.Seen.steps g.M.Seen.sights g.met.M.Seen.seen in
    let risen = due_rises v c.args.until.0 c.args.lines.now c.args.safe_until.0 c.skip_over.ensures.0 _ _ lawful c.skip_over.ensures.1 in
    let past = rises_past v c.args.until.0 c.args.lines.now c.args.safe_until.0 _ _ _ _ c.in-Look.tick lawful c.advance.ensures c.in-Look.is c.answer.ensures in
    omega (arith, risen, past.0, past.1)

pub loop-tick-preserved : goal.loop-tick-preserved
loop-tick-preserved g c = sees_on _ c.loop-tick.invariant c.skip_over.ensures c.advance.ensures c.in-Look.is (omega (arith, c.if-safe_until-tick.false)) c.answer.ensures
