use Rattle.std.proofs.Common.{◌∙◌}
use Rattle.asm65.proofs.PassLemmas.{looked_up-seen}
use Rattle.asm65.proofs.labels.address_of.Goals as goal

pub returns : goal.returns
returns c = c.copied.ensures ∙ c.get.ensures.value ∙ looked_up-seen c.args.name.now c.args.labels.now.entries
