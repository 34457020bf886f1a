use Rattle.cmd_tools.proofs.AsmLemmas.{asm_refused}
use Rattle.cmd_tools.proofs.asm.asm_outcome.Goals as goal

pub returns-in-Err : goal.returns-in-Err
returns-in-Err g c =
    record { told = rw c.refusal_of.ensures (asm_refused g.D.BusDevice.plug c.args.part c.args.out.now c.args.text.now c.in-Err.error c.in-Err.ensures.value) }
