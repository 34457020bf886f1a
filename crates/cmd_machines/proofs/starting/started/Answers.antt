use Rattle.cmd_machines.proofs.BegunLemmas.{begun_keeps, keys_short}
use Rattle.cmd_machines.proofs.starting.started.Goals as goal

pub returns-clause-keeps : goal.returns-clause-keeps
returns-clause-keeps g c =
    begun_keeps c.begun_is_session.ensures _ c.in_ok-begun.begun _ _ _ c.in_ok-host.ensures.machines c.args.setup.most (keys_short c.args.inputs.keys c.requires.keys) c.in_ok-begun.ensures
