use Rattle.std.proofs.Common.{arith, refl, ◌<◌, ◌^◌}
use Rattle.session.proofs.EventLemmas.{observes_few}
use Rattle.session.proofs.ObservationLemmas.{observes_on, still_observed, reads_on, read_leaves, over_unasked, over_unanswered}
use Rattle.session.proofs.observe.observe_at.Goals as goal

pub returns-in_default : goal.returns-in_default
returns-in_default g c =
    let on = observes_on g.met.M.Party.lawful refl c.loop.invariant.at c.loop.invariant.gone c.advance_at-ask.ensures in
    record { observed = on.0; over = over_unasked (record { lines = c.args.lines.now; status = c.args.port.now.status }) _ _ c.in_default.not-Access on.1 }

pub returns-in_default-read : goal.returns-in_default-read
returns-in_default-read g c =
    let on = observes_on g.met.M.Party.lawful c.in-Access.is c.loop.invariant.at c.loop.invariant.gone c.advance_at-ask.ensures in
    let most = observes_few g.met.M.Party.lawful _ _ on.0 c.requires.few in
    let ticks = c.requires.ticks in
    let few : c.advance_at-ask.new.port.log.count < 2 ^ 62 = omega arith in
    record {
      observed = still_observed g.met.M.Party.lawful c.in_default-read.ensures.none on.0;
      over = over_unanswered c.in-Access.tick c.in-Access.op on.2 (c.in_default-read.ensures.other few);
    }

pub loop-preserved : goal.loop-preserved
loop-preserved g c =
    let on = observes_on g.met.M.Party.lawful c.in-Access.is c.loop.invariant.at c.loop.invariant.gone c.advance_at-ask.ensures in
    let read = c.in-Some-read.ensures.read in
    record {
      can_next = tt;
      finite = tt;
      at = read_leaves on.2 read;
      gone = reads_on g.met.M.Party.lawful c.in-Access.tick on.2 on.0 read c.answer.ensures;
    }
