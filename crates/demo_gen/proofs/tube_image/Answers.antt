use Rattle.std.proofs.Common.{rules}
use Rattle.demo_gen.proofs.ImageLemmas.{image_holds}
use Rattle.demo_gen.proofs.tube_image.Goals as goal

pub returns : goal.returns
returns c = search (rules, image_holds)
