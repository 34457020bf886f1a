use Rattle.std.proofs.Common.{ap, ◌∙◌, ◌++◌, length, arith, zero-le}
use Rattle.op_table.specs.Forms.{forms, form_at}
use Rattle.dis65.proofs.LineLemmas.{passed_fits, none_line, row_line}
use Rattle.dis65.proofs.line.push_line.Goals as goal

pub overflow_sub-result : goal.overflow_sub-result
overflow_sub-result c =
    let row = row_line _ c.args.at c.args.op c.args.behind.now _ _ c.in-Some.ensures in
    omega (arith, c.from.ensures, row.1)

pub returns-in_ok-push_instruction-in-Some : goal.returns-in_ok-push_instruction-in-Some
returns-in_ok-push_instruction-in-Some c =
    let row = row_line _ c.args.at c.args.op c.args.behind.now _ _ c.in-Some.ensures in
    let fits = passed_fits (length c.args.behind.now) (form_at (forms c.args.part) c.args.op) in
    record {
      text = c.in_ok-push_instruction-in-Some.ensures ∙ ap (λ l. c.args.text.now.items ++ l) row.0;
      passed = omega (arith, c.from.ensures, row.2);
      within = omega (arith, c.from.ensures, row.2, fits);
    }

pub returns-in_ok-push_byte-in-None : goal.returns-in_ok-push_byte-in-None
returns-in_ok-push_byte-in-None c =
    let none = none_line _ c.args.at c.args.op c.args.behind.now _ c.in-None.ensures in
    record { text = c.in_ok-push_byte-in-None.ensures ∙ ap (λ l. c.args.text.now.items ++ l) none.0; passed = none.1; within = zero-le }
