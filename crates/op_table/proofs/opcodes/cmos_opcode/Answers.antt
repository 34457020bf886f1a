use Rattle.op_table.proofs.OpcodeTable.{OPCODES-at}
use Rattle.op_table.proofs.opcodes.cmos_opcode.Goals as goal

pub returns : goal.returns
returns c = OPCODES-at c.args.mnemonic c.args.mode _ _
