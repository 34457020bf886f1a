use Rattle.op_table.proofs.FormLemmas.{find_form-iff}
use Rattle.op_table.proofs.opcodes.forms_and_rows_agree.Goals as goal

pub returns : goal.returns
returns c = find_form-iff
