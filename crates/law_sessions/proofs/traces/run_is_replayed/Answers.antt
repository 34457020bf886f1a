use Rattle.law_sessions.proofs.ReplayLemmas.{run_replayed}
use Rattle.law_sessions.proofs.traces.run_is_replayed.Goals as goal

pub returns : goal.returns
returns c = run_replayed c.reference_is_trace.ensures c.text_reads_back.ensures.text c.reference_is_replayed.ensures
