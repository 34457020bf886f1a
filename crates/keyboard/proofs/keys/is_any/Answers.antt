use Rattle.std.proofs.Common.{◌∙◌}
use Rattle.keyboard.proofs.AnyLemmas.{any_of}
use Rattle.keyboard.proofs.keys.is_any.Goals as goal

pub returns : goal.returns
returns c = c.is_one.ensures ∙ any_of c.args.down.now c.requires
