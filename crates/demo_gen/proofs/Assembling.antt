-- Both source texts assemble: the checker computes the assembler's definition on each.
use Rattle.std.proofs.Common.{refl, IsOk}
use Rattle.op_table.specs.Names.{mnemonic_of}
use Rattle.op_table.specs.Forms.{find_form}
use Rattle.op_table.specs.declared.Part.TheVariants.{Nmos, Cmos}
use Rattle.asm65.specs.Source.{source}
use Rattle.demo_gen.specs.Demo.{host_text, tube_text}

pub host_assembles : IsOk (source Nmos host_text)
unfolding source host_text mnemonic_of find_form
host_assembles = refl

pub tube_assembles : IsOk (source Cmos tube_text)
unfolding source tube_text mnemonic_of find_form
tube_assembles = refl
