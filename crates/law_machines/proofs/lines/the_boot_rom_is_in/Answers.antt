use Rattle.law_machines.proofs.RomIn.{rom_is_in}
use Rattle.law_machines.proofs.lines.the_boot_rom_is_in.Goals as goal

pub returns : goal.returns
returns c = rom_is_in
