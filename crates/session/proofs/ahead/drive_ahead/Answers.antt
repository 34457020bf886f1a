use Rattle.std.proofs.Common.{rules, arith, ap, ◌≢◌}
use Rattle.tube_party.specs.declared.party.Ask.TheVariants.{Nothing}
use Rattle.session.proofs.InProgress.{sets_out, moves_on, steps_on, turns_on, at_ask, still_in_progress}
use Rattle.session.proofs.ahead.drive_ahead.Goals as goal

pub loop-init : goal.loop-init
loop-init g c =
    let commits = ap (λ p. p.commits) c.advance_to_ask-ask.ensures.pass in
    let higher = ap (λ p. p.higher) c.advance_to_ask-ask.ensures.pass in
    record {
      can_next = tt;
      finite = tt;
      speculation = sets_out g.met.M.Party.lawful c.requires.may c.advance_to_ask-ask.ensures;
      paid = omega arith;
      published = search rules;
    }

pub advance_to_ask-ask-requires-in-None-go_past-clause-few : goal.advance_to_ask-ask-requires-in-None-go_past-clause-few
advance_to_ask-ask-requires-in-None-go_past-clause-few g c =
    let some : c.loop.ask ≢ Nothing = search rules in
    let speculation = still_in_progress g.met.M.Party.lawful some c.loop.invariant.speculation c.in-None-go_past.ensures.none c.in-None-go_past.ensures.later in
    (steps_on g.met.M.Party.lawful some speculation c.step_when_admitted.ensures.turned).few

pub loop-preserved-in-Some-go_past : goal.loop-preserved-in-Some-go_past
loop-preserved-in-Some-go_past g c =
    let some : c.loop.ask ≢ Nothing = search rules in
    let there = at_ask g.met.M.Party.lawful some c.loop.invariant.speculation in
    let a = c.loop.invariant.paid in
    let b = c.in-Some-go_past.ensures.paid in
    record {
      can_next = tt;
      finite = tt;
      speculation = moves_on g.met.M.Party.lawful there c.in-Some-go_past.ensures.some;
      paid = omega arith;
      published = λ x. c.in-Some-go_past.ensures.published;
    }

pub loop-preserved : goal.loop-preserved
loop-preserved g c =
    let some : c.loop.ask ≢ Nothing = search rules in
    let speculation = still_in_progress g.met.M.Party.lawful some c.loop.invariant.speculation c.in-None-go_past.ensures.none c.in-None-go_past.ensures.later in
    let a = c.loop.invariant.paid in
    let b = c.in-None-go_past.ensures.paid in
    let d = c.step_when_admitted.ensures.paid in
    record {
      can_next = tt;
      finite = tt;
      speculation = turns_on g.met.M.Party.lawful some speculation c.step_when_admitted.ensures.turned c.advance_to_ask-ask-in-None-go_past.ensures;
      paid = search rules;
      published = search rules;
    }
