use Rattle.law_sessions.proofs.CheckLemmas.{run_checked}
use Rattle.law_sessions.proofs.traces.run_is_checked.Goals as goal

pub returns : goal.returns
returns c = run_checked c.reference_is_trace.ensures c.text_reads_back.ensures.text
