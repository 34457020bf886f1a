use Rattle.std.proofs.Common.{◌∙◌, sym}
use Rattle.beeb_bits.specs.declared.Side.TheVariants.{Host}
use Rattle.tube_chip.specs.Act.{access}
use Rattle.tube_cell.proofs.Observed.{observed_stays, spec_horizon_stays, early_stays}
use Rattle.tube_cell.proofs.local.host_operates.Goals as goal
use Rattle.tube_cell.proofs.local.host_operates.Goals.{then-is_observation-via-then-is_observation, then-is_observation-via-else-is_observation+then-spec_horizon-tick}

pub returns-then-is_observation-clause-spec_horizon : goal.returns-then-is_observation-clause-spec_horizon
returns-then-is_observation-clause-spec_horizon c =
    let old = c.args.chip.now in
    let new = c.apply-answer.new.self in
    elim c.then-is_observation.branch [
      | then-is_observation-via-then-is_observation w ↦
          sym (spec_horizon_stays Host c.args.tick c.args.spec_horizon (c.apply-answer.ensures.chip ∙ observed_stays old Host (access c.args.op) (sym c.is_observation.ensures ∙ w.if-is_observation.true)))
      | then-is_observation-via-else-is_observation+then-spec_horizon-tick w ↦ sym (early_stays old new c.args.tick c.args.spec_horizon w.if-spec_horizon-tick.true)
    ]

pub returns-clause-spec_horizon : goal.returns-clause-spec_horizon
returns-clause-spec_horizon c = c.spec_horizon_left.ensures c.args.chip.now c.apply-answer-2.new.self c.readings_of-before.ensures c.readings_of-after.ensures
