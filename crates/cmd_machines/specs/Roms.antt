-- The images of the host's operating system, its paged ROMs and its font, each with an allowed
-- length.
use Rattle.std.specs.Prelude.{Option, Some, None, Result, Ok, Err}
use Rattle.rom_set.specs.Roms.{Roms, refusal}
use Rattle.rom_set.specs.declared.RomError.{RomError}
use Rattle.rom_set.specs.declared.RomError.TheVariants.{BadOs, BadSlot, BadFont}
use Rattle.cmd_stages.specs.declared.stop.Refusal.{Refusal}
use Rattle.cmd_stages.specs.declared.stop.Refusal.TheVariants as refusals
use Rattle.cmd_status.specs.declared.status.Which.TheVariants.{Os, Rom, Font}
use Rattle.cmd_status.specs.declared.status.Cause.{Cause}
use Rattle.cmd_status.specs.declared.status.Cause.TheVariants.{BadImage}

-- the cause of an image with a length that is not allowed
abbrev pub rom_cause : RomError → Cause
rom_cause (BadOs len) = BadImage Os len
rom_cause (BadSlot slot len) = BadImage (Rom slot) len
rom_cause (BadFont len) = BadImage Font len

abbrev pub unless_refused : Option RomError → Roms → Result Roms (Refusal Cause)
unless_refused None roms = Ok roms
unless_refused (Some error) roms = Err (refusals.Cause (rom_cause error))

-- the images, if none is refused: first the operating system, then the paged ROMs, then the font
unfoldable pub roms_of : Roms → Result Roms (Refusal Cause)
roms_of roms = unless_refused (refusal roms.os roms.slots roms.font) roms
