use Rattle.law_sessions.proofs.Saved.{run_is_read}
use Rattle.law_sessions.proofs.runs.saved_run_is_read.Goals as goal

pub returns : goal.returns
returns c = run_is_read c.begun_is_session.ensures c.file_reads_back.ensures.back c.saved_run_is_resumed.ensures
