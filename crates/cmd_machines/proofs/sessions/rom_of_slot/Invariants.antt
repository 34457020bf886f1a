use Rattle.std.proofs.Common.{◌≡◌, drop}
use Rattle.rom_set.specs.Roms.{roms_seen}
use Rattle.cmd_machines.specs.Sessions.{rom_of_slot}
use Rattle.cmd_machines.proofs.sessions.rom_of_slot.Given as goal

abbrev pub invariant-loop-number : goal.invariant-loop-number
invariant-loop-number l = rom_of_slot (roms_seen l.roms) l.slot ≡ rom_of_slot (roms_seen (drop l.number-index l.roms)) l.slot
