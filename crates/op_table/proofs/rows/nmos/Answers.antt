use Rattle.op_table.proofs.RowTables.{NMOS-at, nmos_row-within}
use Rattle.op_table.proofs.FormLemmas.{nmos_row-IsDocumented}
use Rattle.op_table.proofs.rows.nmos.Goals as goal

pub returns-clause-row : goal.returns-clause-row
returns-clause-row c = NMOS-at c.args.op _ c.ranges.op.fits

pub returns-clause-documented : goal.returns-clause-documented
returns-clause-documented c = rw (NMOS-at c.args.op _ c.ranges.op.fits) (nmos_row-IsDocumented c.args.op)

pub returns-clause-within : goal.returns-clause-within
returns-clause-within c = rw (NMOS-at c.args.op _ c.ranges.op.fits) (nmos_row-within c.args.op c.ranges.op.fits)
