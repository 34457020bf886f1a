use Rattle.tube_trace.proofs.HexTables.{PAIRS-at}
use Rattle.tube_trace.proofs.hex.pair.Goals as goal

pub returns : goal.returns
returns c = PAIRS-at c.args.byte _ c.ranges.byte.fits
