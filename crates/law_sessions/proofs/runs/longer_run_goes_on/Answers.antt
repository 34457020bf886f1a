use Rattle.law_sessions.proofs.LongerLemmas.{longer_run}
use Rattle.law_sessions.proofs.runs.longer_run_goes_on.Goals as goal

pub returns : goal.returns
returns c =
    longer_run c.reference_is_trace.ensures c.reference_is_replayed.ensures c.brought_back_is_reference.ensures c.shorter_run_is_beginning.ensures
