use Rattle.std.proofs.Common.{subst}
use Rattle.tube_party.specs.declared.party.Ask.TheVariants.{Access}
use Rattle.tube_party.specs.Turn.{IsPending}
use Rattle.tube_party.proofs.one_thread.act.Goals as goal

pub apply-answer-requires : goal.apply-answer-requires
apply-answer-requires g c =
    let pending : IsPending g.M.Party.transitions c.args.n.0 (g.M.Party.state c.args.machine.now) (Access c.in-Access.tick c.in-Access.op) =
    subst (IsPending g.M.Party.transitions c.args.n.0 (g.M.Party.state c.args.machine.now)) c.in-Access.is c.requires.pending in
    rw pending.2 at (g.met.M.Party.permitted (g.M.Party.state c.args.machine.now) c.args.side c.requires.plays)
