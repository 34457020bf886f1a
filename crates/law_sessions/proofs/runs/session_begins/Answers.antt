use Rattle.law_sessions.proofs.Resumed.{session_begins}
use Rattle.law_sessions.proofs.runs.session_begins.Goals as goal

pub returns : goal.returns
returns c = session_begins c.file_reads_back.ensures.only
