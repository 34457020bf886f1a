use Rattle.law_sessions.proofs.ArgumentLemmas.{options_move}
use Rattle.law_sessions.proofs.options.options_move.Goals as goal

pub returns : goal.returns
returns c = options_move c.options_stand_anywhere.ensures
