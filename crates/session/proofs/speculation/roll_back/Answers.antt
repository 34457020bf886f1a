use Rattle.std.proofs.Common.{◌≡◌, ◌∙◌, ap, arith, length}
use Rattle.std.proofs.lemmas.List.{length-take-le, take_all}
use Rattle.session.specs.CodeSideAndLog.{side_and_log}
use Rattle.session.specs.CodeSpecRun.{spec_run}
use Rattle.session.proofs.InSpeculation.{stands, went_anew, still_there}
use Rattle.session.proofs.speculation.roll_back.Goals as goal

pub returns-then-spec_horizon-t-clause-settled : goal.returns-then-spec_horizon-t-clause-settled
returns-then-spec_horizon-t-clause-settled g c =
    stands g.met.M.Party.lawful _ _ c.if-spec_horizon-t.true c.requires.order.1 c.requires.reached c.requires.speculation

pub observe-requires-clause-few : goal.observe-requires-clause-few
observe-requires-clause-few g c =
    let few = c.requires.speculation.few in
    let count = c.cut.ensures.count in
    let due = ap g.M.Party.transitions.due c.rewind.ensures in
    omega arith

pub returns-clause-settled : goal.returns-clause-settled
returns-clause-settled g c =
    let m = g.M.Party.transitions in
    let n = c.args.n.0 in
    let spec_horizon = c.args.spec_horizon.0 in
    let log = c.args.from.now.log in
    let y = side_and_log g.M.Party.state c.observe.new.half in
    let again = c.observe.result in
    let cut = c.cut.new.self in
    let seen = rw c.rewind.ensures at c.observe.ensures.observed in
    let len : length cut.list.items ≡ log.len = ap length c.cut.ensures.list ∙ length-take-le log.len c.args.half.now.log.list.items c.requires.speculation.noted.kept in
    went_anew g.met.M.Party.lawful n _ _ y c.requires.order.0 c.requires.order.1 c.requires.reached c.requires.speculation
    len c.cut.ensures.count seen c.observe.ensures.over

pub returns-clause-log : goal.returns-clause-log
returns-clause-log g c =
    let log = c.args.from.now.log in
    let x = spec_run g.M.Party.state g.M.Rewinds.before c.args.past.now c.args.half.now c.args.from.now in
    let seen = c.observe.ensures.observed in
    let cut = c.cut.new.self in
    let len : length cut.list.items ≡ log.len = ap length c.cut.ensures.list ∙ length-take-le log.len c.args.half.now.log.list.items c.requires.speculation.noted.kept in
    let still = still_there g.met.M.Party.lawful c.args.n.0 x.from (omega arith) seen.noted in
    record {
      kept = still.kept ∙ take_all log.len cut.list.items (omega arith) ∙ c.cut.ensures.list;
      keep_is = still.keep_is ∙ c.cut.ensures.keep;
    }
