use Rattle.cmd_machines.proofs.PartLemmas.{all_low, all_short}
use Rattle.cmd_machines.proofs.sessions.inputs_in.Goals as goal

pub returns-clause-slots : goal.returns-clause-slots
returns-clause-slots c = λ s keeps same. all_low _ c.args.parts.items c.in_ok-list.ensures s keeps same c.of.result c.of.ensures

pub returns-clause-keys : goal.returns-clause-keys
returns-clause-keys c = λ s keeps same. all_short _ c.args.parts.items c.in_ok-list.ensures s keeps same c.of.result c.of.ensures
