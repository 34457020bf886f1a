use Rattle.std.proofs.Common.{subst}
use Rattle.tube_chip.specs.Register.{Register}
use Rattle.tube_chip.specs.Packing.{IsRegister}
use Rattle.tube_chip.proofs.Packed.{sound}
use Rattle.tube_chip.proofs.register.Register.short_count.Goals as goal

pub returns-clause-bounds : goal.returns-clause-bounds
returns-clause-bounds g c =
    subst (λ (r : Register). IsRegister g.row.ROOM r) c.self.view_is
    (sound g.row.ROOM c.self.inside.held c.self.inside.bytes c.self.invariant.0 c.self.invariant.1 c.self.told c.short.ensures.bytes)
