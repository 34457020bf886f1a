use Rattle.raster.proofs.ReadBytes.{unseen}
use Rattle.raster.proofs.law.stores_below_are_unseen.Goals as goal

pub returns : goal.returns
returns c = unseen
