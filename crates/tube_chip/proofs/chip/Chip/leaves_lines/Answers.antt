use Rattle.std.proofs.Common.{sym, subst}
use Rattle.beeb_bits.specs.declared.Side.{Side}
use Rattle.beeb_bits.specs.declared.Side.TheVariants.{Para}
use Rattle.tube_chip.specs.declared.Op.{Op}
use Rattle.tube_chip.specs.Act.{LeavesLines}
use Rattle.tube_chip.proofs.chip.Chip.leaves_lines.Goals as goal

pub returns-in-Para-Write : goal.returns-in-Para-Write
returns-in-Para-Write c = λ is.
    subst (λ (s : Side). LeavesLines c.args.self.now s c.args.op) (sym c.in-Para-Write.is-0)
    (subst (λ (o : Op). LeavesLines c.args.self.now Para o) (sym c.in-Para-Write.is-1) (c.para_write_leaves_lines.ensures is c.in-Para-Write.field-1-1))
