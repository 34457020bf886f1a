use Rattle.std.proofs.Common.{arith}
use Rattle.tube_machine.proofs.Asked.{served-wider}
use Rattle.tube_machine.proofs.run.go_asking.Goals as goal

pub returns-clause-served : goal.returns-clause-served
returns-clause-served g c = served-wider (omega (arith, c.min-end.ensures)) c.serve.ensures.served
