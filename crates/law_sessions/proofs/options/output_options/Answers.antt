use Rattle.law_sessions.proofs.OutputLemmas.{output_options}
use Rattle.law_sessions.proofs.options.output_options.Goals as goal

pub returns : goal.returns
returns c = output_options
