use Rattle.law_chips.proofs.Flags.{flags_are_shown}
use Rattle.law_chips.proofs.adapters.flags_are_shown.Goals as goal

pub returns : goal.returns
returns c = flags_are_shown
