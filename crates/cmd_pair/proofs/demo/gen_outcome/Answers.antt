use Rattle.cmd_pair.specs.Gen.{gen_after}
use Rattle.cmd_outcome.specs.View.{verdict_of}
use Rattle.cmd_pair.proofs.GenLemmas.{no_memory_gives}
use Rattle.cmd_pair.proofs.demo.gen_outcome.Goals as goal

pub returns-in_err-text : goal.returns-in_err-text
returns-in_err-text g c =
    no_memory_gives (verdict_of g.D.BusDevice.plug) c.from_residual-in_err-text.result (gen_after c.args.seed) c.from_residual-in_err-text.ensures.1
