use Rattle.std.proofs.Common.{◌∙◌, sym, ap}
use Rattle.std.specs.Int.{div_ceil}
use Rattle.cmd_outcome.proofs.SoundLemmas.{begun_is}
use Rattle.cmd_outcome.proofs.sound.microseconds_below.Goals as goal

pub returns-clause-value : goal.returns-clause-value
returns-clause-value c =
    c.div_ceil.ensures ∙ ap (λ u. div_ceil c.args.n.0 u) c.micro.ensures.value ∙ sym (begun_is c.args.clock c.args.n.0)
