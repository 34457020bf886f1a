use Rattle.op_table.specs.declared.names.Part.TheVariants.{Nmos, Cmos}
use Rattle.cpu_core.proofs.StartTables.{table-at}
use Rattle.cpu_core.proofs.starts.start_at.Goals as goal

pub returns-in-Nmos : goal.returns-in-Nmos
returns-in-Nmos c = rw c.in-Nmos.is (table-at Nmos c.args.op _ c.ranges.op.fits)

pub returns-in-Cmos : goal.returns-in-Cmos
returns-in-Cmos c = rw c.in-Cmos.is (table-at Cmos c.args.op _ c.ranges.op.fits)
