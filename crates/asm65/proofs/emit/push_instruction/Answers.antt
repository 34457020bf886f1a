use Rattle.asm_lines.specs.Code.{seen_operand, seen_value}
use Rattle.asm65.specs.CodeLabels.{labels_in}
use Rattle.asm65.proofs.EncodeLemmas.{operand_fits}
use Rattle.asm65.proofs.emit.push_instruction.Goals as goal

pub push_operand-requires : goal.push_operand-requires
push_operand-requires c =
    let value = c.evaluate.ensures in
    operand_fits (labels_in c.args.labels.now) c.args.address (seen_value c.in-Some-operand_value.value) c.evaluate.result value.value value.byte
    c.args.part c.args.mnemonic (seen_operand c.args.operand.now) c.in-Some.mode c.in-Some.ensures c.requires c.in-Some-operand_value.ensures
