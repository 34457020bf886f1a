use Rattle.op_table.specs.declared.Part.TheVariants.{Cmos}
use Rattle.cpu65c02.proofs.cycles_of_the_table.Goals as goal

pub returns-clause-least : goal.returns-clause-least
returns-clause-least c = c.cycles_of_the_table.ensures.least Cmos
