use Rattle.std.proofs.Common.{rules, arith, ap, ◌≢◌}
use Rattle.tube_party.specs.declared.party.Ask.TheVariants.{Nothing}
use Rattle.session.proofs.InProgress.{sets_out, steps_on, turns_on, smaller}
use Rattle.session.proofs.half.drive.Goals as goal

pub loop-pause-init : goal.loop-pause-init
loop-pause-init g c =
    let commits = ap (λ p. p.commits) c.advance_to_ask-ask.ensures.pass in
    let higher = ap (λ p. p.higher) c.advance_to_ask-ask.ensures.pass in
    record { speculation = sets_out g.met.M.Party.lawful c.requires.may c.advance_to_ask-ask.ensures; paid = omega arith }

pub advance_to_ask-ask-requires-in-loop-pause-clause-few : goal.advance_to_ask-ask-requires-in-loop-pause-clause-few
advance_to_ask-ask-requires-in-loop-pause-clause-few g c =
    let some : c.loop-pause.ask ≢ Nothing = search rules in
    (steps_on g.met.M.Party.lawful some c.loop-pause.invariant.speculation c.step_when_admitted.ensures.turned).few

pub loop-pause-smaller : goal.loop-pause-smaller
loop-pause-smaller g c =
    let some : c.loop-pause.ask ≢ Nothing = search rules in
    smaller g.met.M.Party.lawful some c.loop-pause.invariant.speculation c.step_when_admitted.ensures.turned c.advance_to_ask-ask-in-loop-pause.ensures

pub loop-pause-preserved : goal.loop-pause-preserved
loop-pause-preserved g c =
    let some : c.loop-pause.ask ≢ Nothing = search rules in
    let a = c.loop-pause.invariant.paid in
    let b = c.step_when_admitted.ensures.paid in
    record {
      speculation = turns_on g.met.M.Party.lawful some c.loop-pause.invariant.speculation c.step_when_admitted.ensures.turned c.advance_to_ask-ask-in-loop-pause.ensures;
      paid = search rules;
    }
