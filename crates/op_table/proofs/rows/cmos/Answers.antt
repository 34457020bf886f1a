use Rattle.op_table.proofs.RowTables.{CMOS-at, cmos_row-within}
use Rattle.op_table.proofs.FormLemmas.{cmos_row-Spare}
use Rattle.op_table.proofs.rows.cmos.Goals as goal

pub returns-clause-row : goal.returns-clause-row
returns-clause-row c = CMOS-at c.args.op _ c.ranges.op.fits

pub returns-clause-spare : goal.returns-clause-spare
returns-clause-spare c = rw (CMOS-at c.args.op _ c.ranges.op.fits) (cmos_row-Spare c.args.op)

pub returns-clause-within : goal.returns-clause-within
returns-clause-within c = rw (CMOS-at c.args.op _ c.ranges.op.fits) (cmos_row-within c.args.op c.ranges.op.fits)
