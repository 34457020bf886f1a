use Rattle.std.proofs.Common.{refl}
use Rattle.cmd_ended.proofs.SaveLemmas.{first_of_trace}
use Rattle.cmd_ended.proofs.saving.entries_below.Goals as goal

pub returns-clause-trace : goal.returns-clause-trace
returns-clause-trace c = λ n trace. first_of_trace c.args.tick.0 c.count_below.result n c.args.entries.now _ refl c.count_below.ensures.below trace
