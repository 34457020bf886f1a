use Rattle.demo_gen.proofs.Assembling.{host_assembles, tube_assembles}
use Rattle.demo_gen.proofs.pair.Goals as goal

pub returns-in_err-os-clause-assembles : goal.returns-in_err-os-clause-assembles
returns-in_err-os-clause-assembles c = (host_assembles, tube_assembles)

pub returns-in_err-tube-clause-assembles : goal.returns-in_err-tube-clause-assembles
returns-in_err-tube-clause-assembles c = (host_assembles, tube_assembles)
