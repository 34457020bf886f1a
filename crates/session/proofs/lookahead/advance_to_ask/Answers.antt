use Rattle.std.proofs.Common.{arith}
use Rattle.session.specs.CodeSideAndLog.{side_and_log}
use Rattle.session.proofs.EventLemmas.{gone_on}
use Rattle.session.proofs.lookahead.advance_to_ask.Goals as goal

pub returns : goal.returns
returns g c =
    let state = g.M.Party.state in
    gone_on g.met.M.Party.lawful (side_and_log state c.args.half.now) (side_and_log state c.observe.new.half) c.observe.ensures.pass c.side-side.ensures
    c.requires.later c.requires.open_ (omega arith) c.see_next.ensures.added c.see_next.ensures.horizon c.observe.ensures.observed c.observe.ensures.over
