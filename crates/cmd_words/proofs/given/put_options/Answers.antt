use Rattle.std.proofs.Common.{refl}
use Rattle.cmd_words.specs.Given.{no_values}
use Rattle.cmd_words.specs.Keys.{keys}
use Rattle.cmd_words.proofs.given.put_options.Goals as goal

pub loop-i-init : goal.loop-i-init
unfolding no_values keys
loop-i-init c = (refl, refl, refl)
