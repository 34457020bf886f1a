use Rattle.law_chips.proofs.Halves.{both_halves}
use Rattle.law_chips.proofs.roms.a_half_rom_stands_twice.Goals as goal

pub returns : goal.returns
returns c = both_halves
