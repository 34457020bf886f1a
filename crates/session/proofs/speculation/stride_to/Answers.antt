use Rattle.std.proofs.Common.{rules, ap, ◌≢◌}
use Rattle.tube_party.specs.declared.party.Ask.TheVariants.{Nothing}
use Rattle.session.specs.CodeSpecRun.{spec_run}
use Rattle.session.proofs.ObservationLemmas.{heard}
use Rattle.session.proofs.InSpeculation.{goes_on, stays_here}
use Rattle.session.proofs.InProgress.{asks_there}
use Rattle.session.proofs.speculation.stride_to.Goals as goal

pub returns-then-eq-clause-further : goal.returns-then-eq-clause-further
returns-then-eq-clause-further g c =
    let x = spec_run g.M.Party.state g.M.Rewinds.before c.args.past.now c.args.half.now c.args.from.now in
    stays_here g.met.M.Party.lawful c.args.n.0 x.from c.args.ask x c.requires.speculation

pub advance_on-next-requires-clause-pending : goal.advance_on-next-requires-clause-pending
advance_on-next-requires-clause-pending g c =
    let some : c.args.ask ≢ Nothing = search rules in
    let speculation = c.requires.speculation in
    (asks_there g.M.Party.transitions c.args.n.0 speculation.last (g.M.Party.state c.args.half.now.machine) c.args.ask some speculation.asked).0

pub returns-clause-further : goal.returns-clause-further
returns-clause-further g c =
    let some : c.args.ask ≢ Nothing = search rules in
    let m = g.M.Party.transitions in
    let lawful = g.met.M.Party.lawful in
    let state = g.M.Party.state in
    let n = c.args.n.0 in
    let next = c.advance_on-next.result in
    let r = c.args.from.now.mark.readings in
    let old = c.args.half.now in
    let gone = c.advance_on-next.new in
    let half = record old { machine = gone.self; log = gone.port.log } in
    let x = spec_run state g.M.Rewinds.before c.args.past.now old c.args.from.now in
    let y = spec_run state g.M.Rewinds.before gone.past half c.args.from.now in
    let port = c.take-port.ensures in
    let seen = heard lawful r (ap (λ d. d.side) port) (ap (λ d. d.status) port) (ap (λ d. d.below) port) c.advance_on-next.ensures.goes in
    let on = rw (ap (λ d. d.log) port) at seen in
    goes_on lawful n _ y.here some c.requires.speculation on c.advance_on-next.ensures.mark
