use Rattle.demo_gen.specs.Demo.{tube_text}
use Rattle.demo_gen.proofs.Assembling.{tube_assembles}
use Rattle.demo_gen.proofs.tube_program.Goals as goal

pub assembled-requires : goal.assembled-requires
unfolding tube_text
assembled-requires c = rw c.as_bytes.ensures.value tube_assembles

pub returns : goal.returns
unfolding tube_text
returns c = rw (← c.as_bytes.ensures.value) c.assembled.ensures
