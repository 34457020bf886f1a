use Rattle.std.proofs.Common.{sym, ◌∙◌, Some}
use Rattle.op_table.specs.declared.names.Part.TheVariants.{Nmos}
use Rattle.op_table.proofs.FormLemmas.{documented_row-form, spare_row-form, other_row-form, form_row-documented}
use Rattle.op_table.proofs.rows.documented.Goals as goal

pub returns-in-Nmos-clause-form : goal.returns-in-Nmos-clause-form
returns-in-Nmos-clause-form c = rw c.in-Nmos.is (c.nmos.ensures.row ∙ documented_row-form Nmos c.args.op)

pub returns-then-eq-clause-form : goal.returns-then-eq-clause-form
returns-then-eq-clause-form c = spare_row-form _ _ _ c.in-Cmos.is c.cmos-row.ensures.row (sym c.eq.ensures ∙ c.if-eq.true)

pub returns-else-eq-clause-form : goal.returns-else-eq-clause-form
returns-else-eq-clause-form c = other_row-form _ _ _ c.in-Cmos.is c.cmos-row.ensures.row (sym c.eq.ensures ∙ c.if-eq.false)

pub returns-else-eq-clause-documented : goal.returns-else-eq-clause-documented
returns-else-eq-clause-documented c =
    form_row-documented c.args.part c.args.op (Some c.cmos-row.result)
    (other_row-form _ _ _ c.in-Cmos.is c.cmos-row.ensures.row (sym c.eq.ensures ∙ c.if-eq.false))
