use Rattle.cmd_outcome.proofs.ProductLemmas.{machine_is}
use Rattle.cmd_outcome.proofs.product.machine_outcome.Goals as goal

pub returns : goal.returns
returns g c =
    machine_is g.D.BusDevice.plug c.args.left c.machine_outputs-outputs.result c.with_outputs.result c.machine_outputs-outputs.ensures c.with_outputs.ensures.outputs
    c.with_outputs.ensures.left c.with_outputs.ensures.done
