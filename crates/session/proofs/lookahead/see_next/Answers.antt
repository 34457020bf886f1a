use Rattle.tube_cell.specs.Passes.{own_horizon, here}
use Rattle.session.proofs.Observing.{watches_shown}
use Rattle.session.proofs.lookahead.see_next.Goals as goal

pub see_all-requires-clause-watches : goal.see_all-requires-clause-watches
see_all-requires-clause-watches g c =
    let p = c.args.pass.now in
    watches_shown g.met.M.Party.lawful p.side (here p) c.args.end.0 (g.M.Party.state c.args._machine.now) (own_horizon p)
    c.requires.readings c.requires.observed c.requires.later
