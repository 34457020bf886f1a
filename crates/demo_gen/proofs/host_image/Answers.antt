use Rattle.std.proofs.Common.{refl}
use Rattle.demo_gen.specs.Demo.{host_text}
use Rattle.demo_gen.proofs.Assembling.{host_assembles}
use Rattle.demo_gen.proofs.host_image.Goals as goal

pub assembled-requires : goal.assembled-requires
unfolding host_text
assembled-requires c = rw c.as_bytes.ensures.value host_assembles

pub returns : goal.returns
unfolding host_text
returns c = rw (← c.as_bytes.ensures.value, c.in_ok-program.ensures) refl
