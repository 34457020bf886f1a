use Rattle.op_table.specs.declared.names.Part.TheVariants.{Nmos, Cmos}
use Rattle.op_table.proofs.FormLemmas.{find_form-named}
use Rattle.op_table.proofs.opcodes.find.Goals as goal

pub returns-in-Nmos-clause-names : goal.returns-in-Nmos-clause-names
returns-in-Nmos-clause-names c =
    find_form-named c.args.part Nmos c.args.mnemonic c.args.mode c.nmos_opcode.result c.in-Nmos.is c.nmos_opcode.ensures

pub returns-in-Cmos-clause-names : goal.returns-in-Cmos-clause-names
returns-in-Cmos-clause-names c =
    find_form-named c.args.part Cmos c.args.mnemonic c.args.mode c.cmos_opcode.result c.in-Cmos.is c.cmos_opcode.ensures
