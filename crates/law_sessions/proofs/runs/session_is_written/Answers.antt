use Rattle.law_sessions.proofs.Written.{session_written}
use Rattle.law_sessions.proofs.runs.session_is_written.Goals as goal

pub returns : goal.returns
returns c = session_written
