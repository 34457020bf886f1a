use Rattle.law_sessions.proofs.Goes.{goes_on}
use Rattle.law_sessions.proofs.runs.saved_run_is_one_run.Goals as goal

pub returns : goal.returns
returns c = goes_on c.machines_are_made_again.ensures c.saved_run_is_read.ensures c.saved_run_is_resumed.ensures
