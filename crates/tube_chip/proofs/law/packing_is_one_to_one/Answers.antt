use Rattle.tube_chip.proofs.Packed.{packing-one}
use Rattle.tube_chip.proofs.law.packing_is_one_to_one.Goals as goal

pub returns : goal.returns
returns c = packing-one
