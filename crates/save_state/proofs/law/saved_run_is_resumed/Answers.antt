use Rattle.save_state.proofs.Again.{saved_run}
use Rattle.save_state.proofs.law.saved_run_is_resumed.Goals as goal

pub returns : goal.returns
returns g c = saved_run c.reference_is_trace.ensures c.reference_is_replayed.ensures c.shorter_run_is_beginning.ensures
