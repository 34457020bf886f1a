use Rattle.std.proofs.Common.{sym, subst}
use Rattle.tube_chip.specs.Act.{MayDo}
use Rattle.tube_party.specs.declared.party.Ask.TheVariants.{Access}
use Rattle.tube_party.specs.Turn.{IsPending}
use Rattle.session.proofs.half.step_when_admitted.Goals as goal

pub act-answer-requires-clause-operation : goal.act-answer-requires-clause-operation
act-answer-requires-clause-operation g c =
    let s = g.M.Party.state c.args.half.now.machine in
    let pending : IsPending g.M.Party.transitions c.args.n.0 s (Access c.in-Access.tick c.in-Access.op) =
    subst (IsPending g.M.Party.transitions c.args.n.0 s) c.in-Access.is c.requires.pending in
    subst (λ x. MayDo x c.in-Access.op) (sym c.wait_until_admitted.ensures.waited.same.side)
    (rw pending.2 at (g.met.M.Party.permitted s c.args.half.now.pass.side c.requires.plays))
