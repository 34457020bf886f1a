use Rattle.std.proofs.Common.{◌≤◌, arith}
use Rattle.tube_party.specs.Steps.{rises_past_access}
use Rattle.cases_tube.proofs.Goes.{goes_there, goes_one_more}
use Rattle.cases_tube.proofs.tests.two_threads.go_below.Goals as goal

pub returns-in_default : goal.returns-in_default
returns-in_default g c =
    let low : c.min.result ≤ c.args.safe_until.0 = (let is = c.min.ensures in omega arith) in
    goes_there g.M.Party.transitions g.D.TubePort.answers c.args.until.0 c.args.lines.now _ c.args.safe_until.0 _ _ _ _ _ _ c.loop-tick.invariant c.advance_seeing-ask.ensures low

pub returns-then-le : goal.returns-then-le
returns-then-le g c =
    let low : c.min.result ≤ c.args.safe_until.0 = (let is = c.min.ensures in omega arith) in
    goes_there g.M.Party.transitions g.D.TubePort.answers c.args.until.0 c.args.lines.now _ c.args.safe_until.0 _ _ _ _ _ _ c.loop-tick.invariant c.in-Access.ensures low

pub returns-in_default-ask : goal.returns-in_default-ask
returns-in_default-ask g c =
    let low : c.min.result ≤ c.args.safe_until.0 = (let is = c.min.ensures in omega arith) in
    rw c.in_default-ask.ensures
    (goes_there g.M.Party.transitions g.D.TubePort.answers c.args.until.0 c.args.lines.now _ c.args.safe_until.0 _ _ _ _ _ _ c.loop-tick.invariant c.in-Access.ensures low)

pub loop-tick-smaller : goal.loop-tick-smaller
loop-tick-smaller g c =
    let sees = c.in-Access.ensures in
    let past = rises_past_access g.M.Party.transitions c.args.until.0 c.args.lines.now _ sees.steps _ sees.last _ _ _ _ c.in-Some.byte g.met.M.Party.lawful sees.looks sees.asked c.answer.ensures in
    omega (arith, past.0, past.1)

pub loop-tick-preserved : goal.loop-tick-preserved
loop-tick-preserved g c =
    let low : c.min.result ≤ c.args.safe_until.0 = (let is = c.min.ensures in omega arith) in
    goes_one_more g.M.Party.transitions g.D.TubePort.answers c.args.until.0 c.args.lines.now _ c.args.safe_until.0 _ _ _ _ _ _ _ _ _ c.in-Some.byte
    c.loop-tick.invariant c.in-Access.ensures low c.in-Some.ensures c.answer.ensures
