use Rattle.law_chips.proofs.Flags.{latches_are_bytes}
use Rattle.law_chips.proofs.adapters.latches_are_bytes.Goals as goal

pub returns : goal.returns
returns c = latches_are_bytes
