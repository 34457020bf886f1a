use Rattle.std.proofs.Common.{◌∙◌, sym, ap, rules}
use Rattle.para_mach.specs.State.{ParaBusState}
use Rattle.para_mach.proofs.AtTube.{passes}
use Rattle.para_mach.proofs.bus.ParaBusTubeBus.asked.Goals as goal

pub returns : goal.returns
returns g c =
    passes c.args.self.now c.args.cycle _ (ap (λ (b : ParaBusState). b.rom_in) (sym c.self.view_is) ∙ sym c.rom_in.ensures ∙ c.if-rom_in.false) (search rules)
