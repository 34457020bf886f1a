use Rattle.law_chips.proofs.Imaging.{images_keep}
use Rattle.law_chips.proofs.discs.images_keep_their_kind.Goals as goal

pub returns : goal.returns
returns c = images_keep
