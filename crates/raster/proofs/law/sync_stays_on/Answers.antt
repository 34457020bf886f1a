use Rattle.raster.proofs.ReadBytes.{sync_on}
use Rattle.raster.proofs.law.sync_stays_on.Goals as goal

pub returns : goal.returns
returns c = sync_on
