use Rattle.saa5050.proofs.Words.{table, table-low}
use Rattle.saa5050.proofs.dots.doubled.Goals as goal

pub returns-clause-line : goal.returns-clause-line
returns-clause-line c = table c.args.row c.ranges.row.fits

pub returns-clause-bound : goal.returns-clause-bound
returns-clause-bound c = table-low c.args.row c.ranges.row.fits
