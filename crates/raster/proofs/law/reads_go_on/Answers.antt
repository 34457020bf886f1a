use Rattle.raster.proofs.ReadBytes.{reads_on}
use Rattle.raster.proofs.law.reads_go_on.Goals as goal

pub returns : goal.returns
returns c = reads_on
