use Rattle.law_sessions.proofs.ReplayLemmas.{run_followed}
use Rattle.law_sessions.proofs.traces.run_is_followed.Goals as goal

pub returns : goal.returns
returns c =
    run_followed c.reference_is_trace.ensures c.text_reads_back.ensures.text c.reference_is_replayed.ensures c.host_listing_is_reference.ensures
    c.para_listing_is_reference.ensures
