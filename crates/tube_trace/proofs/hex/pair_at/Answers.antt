use Rattle.std.proofs.Common.{◌∙◌}
use Rattle.tube_trace.proofs.HexTables.{low_pair}
use Rattle.tube_trace.proofs.hex.pair_at.Goals as goal

pub returns : goal.returns
returns c = c.pair.ensures ∙ low_pair _
