use Rattle.law_sessions.proofs.Goes.{words_on}
use Rattle.law_sessions.proofs.runs.words_go_on.Goals as goal

pub returns : goal.returns
returns c = words_on c.words_begin.ensures c.saved_run_is_one_run.ensures
