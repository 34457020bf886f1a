use Rattle.law_chips.proofs.Timely.{lost_data_is_told}
use Rattle.law_chips.proofs.discs.lost_data_is_told.Goals as goal

pub returns : goal.returns
returns c = lost_data_is_told
