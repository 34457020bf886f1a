use Rattle.std.proofs.Common.{ap, sym, subst, arith}
use Rattle.beeb_bits.specs.declared.Side.TheVariants.{Para}
use Rattle.session.specs.CodeObserved.{HasObserved}
use Rattle.session.specs.CodeSpecRun.{spec_run}
use Rattle.session.proofs.ObservationLemmas.{heard}
use Rattle.session.proofs.InSpeculation.{if_some, sets_out, still_there}
use Rattle.session.proofs.speculation.set_out.Goals as goal

pub returns-clause-some : goal.returns-clause-some
returns-clause-some g c =
    let m = g.M.Party.transitions in
    let lawful = g.met.M.Party.lawful in
    let state = g.M.Party.state in
    let n = c.args.n.0 in
    let r = c.args.from.now.mark.readings in
    let old = c.args.half.now in
    let gone = c.advance_noting-ask.new in
    let half = record old { machine = gone.self; log = gone.port.log } in
    let x = spec_run state g.M.Rewinds.before gone.past half c.args.from.now in
    let port = c.take-port.ensures in
    let log = ap (λ d. d.log) port in
    if_some c.advance_noting-ask.result _ _ _ c.advance_noting-ask.ensures (λ ask went.
    let seen = heard lawful r (ap (λ d. d.side) port) (ap (λ d. d.status) port) (ap (λ d. d.below) port) went.0 in
    let anew = subst (λ s. HasObserved m Para n r c.args.end.0 s old.log ask (state gone.self) gone.port.log) (sym went.1)
    (rw log at seen) in
    let kept = c.requires.kept in
    let few = c.requires.few in
    let due = ap m.due went.1 in
    let speculation = sets_out lawful n x.from x.here anew kept.0 kept.1 (omega arith) in
    (speculation.0, went.1, still_there lawful n x.from (omega arith) anew.noted))
