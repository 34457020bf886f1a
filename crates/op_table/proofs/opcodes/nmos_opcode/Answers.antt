use Rattle.op_table.proofs.FormLemmas.{find_form-Nmos, find_form-Nmos_lacks, find_form-Nmos_none}
use Rattle.op_table.proofs.opcodes.nmos_opcode.Goals as goal

pub returns-in-Some : goal.returns-in-Some
returns-in-Some c = find_form-Nmos c.args.mnemonic c.args.mode c.in-Some.op c.nmos.result c.in-Some.ensures c.nmos.ensures.row c.if-is_some.ensures

pub returns-in_default : goal.returns-in_default
returns-in_default c = find_form-Nmos_lacks c.args.mnemonic c.args.mode c.in-Some.op c.nmos.result c.in-Some.ensures c.nmos.ensures.row c.if-is_some.ensures

pub returns-in_default-2 : goal.returns-in_default-2
returns-in_default-2 c = find_form-Nmos_none c.args.mnemonic c.args.mode c.in_default.ensures
