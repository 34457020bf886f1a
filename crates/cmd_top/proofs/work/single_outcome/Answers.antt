use Rattle.cmd_top.proofs.InputKindLemmas.{slots_below, keys_short}
use Rattle.cmd_top.proofs.work.single_outcome.Goals as goal

pub replay_outcome-requires-clause-slots : goal.replay_outcome-requires-clause-slots
replay_outcome-requires-clause-slots g c = slots_below _ _ c.in_ok-inputs.inputs c.requires.inputs c.requires.within.roms c.in_ok-inputs.ensures

pub solo_outcome-requires-clause-slots : goal.solo_outcome-requires-clause-slots
solo_outcome-requires-clause-slots g c = slots_below _ _ c.in_ok-inputs.inputs c.requires.inputs c.requires.within.roms c.in_ok-inputs.ensures

pub follow_outcome-requires-clause-slots : goal.follow_outcome-requires-clause-slots
follow_outcome-requires-clause-slots g c = slots_below _ _ c.in_ok-inputs.inputs c.requires.inputs c.requires.within.roms c.in_ok-inputs.ensures

pub solo_outcome-requires-clause-keys : goal.solo_outcome-requires-clause-keys
solo_outcome-requires-clause-keys g c = keys_short _ _ c.in_ok-inputs.inputs c.requires.inputs c.in_ok-inputs.ensures

pub returns-in-Solo : goal.returns-in-Solo
returns-in-Solo g c = rw c.in-Solo.is (rw (c.of-setup-in-Solo.ensures, c.of-names-in-Solo.ensures, c.in_ok-inputs.ensures) at c.solo_outcome.ensures)

pub returns-in-Replay : goal.returns-in-Replay
returns-in-Replay g c = rw c.in-Replay.is (rw (c.of-setup.ensures, c.of-names.ensures, c.in_ok-inputs.ensures) at c.replay_outcome.ensures)

pub returns-in-Resume : goal.returns-in-Resume
returns-in-Resume g c = rw c.in-Resume.is (rw (c.of-names-in-Resume.ensures, c.in_ok-inputs.ensures) at c.session_outcome.ensures)

pub returns-in-Follow : goal.returns-in-Follow
returns-in-Follow g c = rw c.in-Follow.is (rw (c.of-setup-in-Follow.ensures, c.choice_of-choice.ensures, c.in_ok-inputs.ensures) at c.follow_outcome.ensures)
