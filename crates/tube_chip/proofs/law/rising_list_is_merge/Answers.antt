use Rattle.tube_chip.proofs.Merged.{merge-sides}
use Rattle.tube_chip.proofs.law.rising_list_is_merge.Goals as goal

pub returns : goal.returns
returns c = merge-sides
