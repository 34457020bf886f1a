use Rattle.cmd_top.proofs.InputKindLemmas.{slots_below, keys_short}
use Rattle.cmd_top.proofs.work.paired_outcome.Goals as goal

pub run_outcome-requires-clause-slots : goal.run_outcome-requires-clause-slots
run_outcome-requires-clause-slots g c κs within = slots_below _ _ c.in_ok-inputs.inputs c.requires.inputs c.requires.within.roms c.in_ok-inputs.ensures

pub run_outcome-requires-clause-keys : goal.run_outcome-requires-clause-keys
run_outcome-requires-clause-keys g c κs within = keys_short _ _ c.in_ok-inputs.inputs c.requires.inputs c.in_ok-inputs.ensures

pub returns-clause-works : goal.returns-clause-works
returns-clause-works g c = rw c.in-Run.is (rw (c.of-setup.ensures, c.of-names.ensures, c.in_ok-inputs.ensures) at c.run_outcome.ensures.works)
