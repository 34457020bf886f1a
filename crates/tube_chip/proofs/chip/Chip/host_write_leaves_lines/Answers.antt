use Rattle.std.proofs.Common.{ℕ, refl, sym, subst, arith}
use Rattle.beeb_bits.specs.declared.Side.TheVariants.{Host}
use Rattle.tube_chip.specs.declared.Op.TheVariants.{Write}
use Rattle.tube_chip.specs.Act.{LeavesLines}
use Rattle.tube_chip.proofs.Rises.{register_2_written}
use Rattle.tube_chip.proofs.chip.Chip.host_write_leaves_lines.Goals as goal

pub returns-in-3 : goal.returns-in-3
returns-in-3 c = λ is byte. subst (λ (x : ℕ). LeavesLines c.args.self.now Host (Write x byte)) (sym c.in-3.is) (omega arith, register_2_written c.args.self.now byte, refl)
