use Rattle.keyboard.proofs.AnyLemmas.{all_up, none_is_down, no_columns}
use Rattle.keyboard.proofs.keys.Keys.new.Goals as goal

pub invariant_of-result : goal.invariant_of-result
invariant_of-result c = (none_is_down 128, no_columns)

pub returns : goal.returns
returns c = all_up 128
