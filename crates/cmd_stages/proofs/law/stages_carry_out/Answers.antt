use Rattle.cmd_stages.proofs.EndLemmas.{stops_at_reading, stops_at_work, goes_on_to_writing}
use Rattle.cmd_stages.proofs.law.stages_carry_out.Goals as goal

pub returns-clause-reading : goal.returns-clause-reading
returns-clause-reading g c = λ p old new stop. stops_at_reading p old new stop

pub returns-clause-work : goal.returns-clause-work
returns-clause-work g c = λ p old new inputs stop. stops_at_work p old new inputs stop

pub returns-clause-writing : goal.returns-clause-writing
returns-clause-writing g c = λ p old new inputs v result. goes_on_to_writing p old new inputs v result
