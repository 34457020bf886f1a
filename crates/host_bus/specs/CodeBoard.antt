-- The board's fields as contracts see them, and the invariant of the fields.
use Rattle.std.specs.Prelude.{ℕ, List, ◌≡◌, ◌<◌, length}
use Rattle.beeb_bits.specs.declared.clock.Clock.{Clock}
use Rattle.beeb_bits.specs.Clock.{micro}
use Rattle.saa5050.specs.Shapes.{Font}
use Rattle.rom_set.specs.Roms.{Roms}
use Rattle.key_script.specs.declared.Event.{Event}
use Rattle.host_bus.specs.declared.board.Board.TheInside.{Inside}
use Rattle.host_devices.specs.Devices.{Devices}
use Rattle.host_bus.specs.Board.{BoardState, Around, Moving}
use Rattle.host_devices.specs.CodePicture.{drawn}
use Rattle.host_bus.specs.CodeReads.{Shows}
use Rattle.host_devices.specs.CodePlayback.{IsPlayed, IsOnTime}
use Rattle.host_devices.specs.CodeBreaks.{IsNextBreak, breaks_before}
use Rattle.host_devices.specs.Sound.{IsInTime}

abbrev pub board_seen : Inside → BoardState
board_seen b = record {
  clock = b.clock;
  ram = b.ram.items;
  roms = b.glyphs;
  latch = b.latch;
  script = b.playback.script;
  breaks = breaks_before b.breaks.place b.playback.script;
  devices = drawn b.ram.items b.glyphs.font b.devices;
  shots = b.playback.shots.frames;
  sound = b.sound;
  closed = b.closed;
}

-- the inputs of a tick and the state that it changes, by their parts
abbrev pub around_by : Clock → List ℕ → Font → List Event → Around
around_by clock ram font script = record { clock = clock; ram = ram; font = font; script = script }

abbrev pub moving : Devices → List (List ℕ) → Moving
moving devices shots = record { devices = devices; shots = shots }

-- the memories, and the bytes that reads show with the latch
pub record IsStored (ram shown : List ℕ) (roms : Roms) (latch : ℕ) : Type 0 where
  pub memory : length ram ≡ 32768
  pub addresses : length shown ≡ 65536
  pub shows : Shows ram roms.slots latch roms.os shown
  pub slot : latch < 16

pub record IsValid (b : Inside) : Type 0 where
  pub stored : IsStored b.ram.items b.shown.items b.glyphs b.latch
  pub played : IsPlayed b.playback b.closed
  pub on_time : IsOnTime (micro b.clock) b.closed b.playback.event b.next
  pub next_break : IsNextBreak b.breaks b.playback.script
  pub in_time : IsInTime (micro b.clock) b.closed b.sound
