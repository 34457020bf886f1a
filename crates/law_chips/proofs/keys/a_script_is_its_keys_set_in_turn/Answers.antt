use Rattle.law_chips.proofs.Typing.{all_typed}
use Rattle.law_chips.proofs.keys.a_script_is_its_keys_set_in_turn.Goals as goal

pub returns : goal.returns
returns c = all_typed
