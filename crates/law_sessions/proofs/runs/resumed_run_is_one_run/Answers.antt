use Rattle.law_sessions.proofs.Resumed.{saved_again}
use Rattle.law_sessions.proofs.runs.resumed_run_is_one_run.Goals as goal

pub returns : goal.returns
returns c = saved_again c.session_begins.ensures c.session_is_written.ensures c.saved_run_is_one_run.ensures
