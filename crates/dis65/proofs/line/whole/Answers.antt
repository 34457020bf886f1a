use Rattle.std.proofs.Common.{arith}
use Rattle.std.proofs.lemmas.Bool.{le-leb, lt-leb}
use Rattle.op_table.specs.Forms.{forms, form_at}
use Rattle.dis65.proofs.LineLemmas.{row_whole}
use Rattle.dis65.proofs.line.whole.Goals as goal

pub returns-then-from-available : goal.returns-then-from-available
returns-then-from-available c =
    let row = row_whole c.args.part c.args.available (form_at (forms c.args.part) c.args.op) in
    rw (row, ← c.in_ok-row.ensures.form, le-leb c.in_ok-row.row.bytes c.args.available (omega (arith, c.from.ensures)))

pub returns-else-from-available : goal.returns-else-from-available
returns-else-from-available c =
    let row = row_whole c.args.part c.args.available (form_at (forms c.args.part) c.args.op) in
    rw (row, ← c.in_ok-row.ensures.form, lt-leb c.in_ok-row.row.bytes c.args.available (omega (arith, c.from.ensures)))
