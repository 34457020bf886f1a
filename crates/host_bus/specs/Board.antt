-- The board of the host: memory, devices, script and clock, and all accesses except those of the
-- plugged devices.
use Rattle.std.specs.Prelude.{ℕ, zero, suc, ◌+◌, ◌-◌, ◌%◌, ◌==◌, ◌&&◌, not, max, nat_lt, Bool, List, [], Option, slice_index, slice_set, if◌then◌else◌}
use Rattle.beeb_bits.specs.declared.clock.Clock.{Clock}
use Rattle.beeb_bits.specs.Clock.{micro}
use Rattle.beeb_bits.specs.Zeros.{zeros}
use Rattle.saa5050.specs.Shapes.{Font}
use Rattle.rom_set.specs.Roms.{Roms, rom_byte}
use Rattle.disc_image.specs.Image.{Image}
use Rattle.sn76489.specs.declared.SoundWrite.{SoundWrite}
use Rattle.key_script.specs.declared.Event.{Event}
use Rattle.host_devices.specs.declared.map.Device.TheVariants.{RomLatch, SystemVia}
use Rattle.host_devices.specs.Map.{Place, Ram, PagedRom, OsRom, Plugs, Sheila}
use Rattle.host_devices.specs.Shots.{shot_at}
use Rattle.host_devices.specs.Sound.{moment_at, with_write}
use Rattle.host_devices.specs.Breaks.{breaks_until, break_number}
use Rattle.host_devices.specs.Devices.{Devices, keys_at, levels_at, microsecond, last_frame, register_answer}
use Rattle.host_devices.specs.Devices.{register_read, register_written, sound_line, sound_data, devices_ask, devices_reset, first_devices}

pub record BoardState : Type 0 where
  -- the length of a tick
  pub clock : Clock
  pub ram : List ℕ
  pub roms : Roms
  -- the slot of the paged ROM
  pub latch : ℕ
  -- the key script
  pub script : List Event
  -- the number of the script's breaks that were taken
  pub breaks : ℕ
  -- the state that ticks change: the devices, and the frames that shots took, the oldest first
  pub devices : Devices
  pub shots : List (List ℕ)
  -- the stored writes to the sound chip
  pub sound : List SoundWrite
  -- all ticks below this one are done
  pub closed : ℕ

-- The inputs of a tick: its length, the RAM, the teletext font, and the script.
pub record Around : Type 0 where
  pub clock : Clock
  pub ram : List ℕ
  pub font : Font
  pub script : List Event

-- The state that a tick changes.
pub record Moving : Type 0 where
  pub devices : Devices
  pub shots : List (List ℕ)

-- The shots at tick k take the last finished frame.
abbrev pub shot : ℕ → List Event → Moving → Moving
shot k script m = record m { shots = shot_at k script (last_frame m.devices) m.shots }

-- If a microsecond has u ticks, step m is at tick u m, with the keys and levels of that tick.
abbrev pub beat : Around → ℕ → Devices → Devices
beat a k d = if k % micro a.clock == 0 then microsecond a.ram a.font (keys_at k a.script) (levels_at k a.script) d else d

-- Tick k: its shots are taken, and then its microsecond is done, if there is one.
abbrev pub tick : Around → ℕ → Moving → Moving
tick a k m = let taken = shot k a.script m in record taken { devices = beat a k taken.devices }

-- n ticks, from tick k on
abbrev pub ticks : Around → ℕ → ℕ → Moving → Moving
ticks a zero k m = m
ticks a (suc n) k m = ticks a n (k + 1) (tick a k m)

abbrev pub around : BoardState → Around
around b = record { clock = b.clock; ram = b.ram; font = b.roms.font; script = b.script }

abbrev pub moving_part : BoardState → Moving
moving_part b = record { devices = b.devices; shots = b.shots }

-- the board closed at t, with m after the ticks
abbrev pub closed_with : BoardState → ℕ → Moving → BoardState
closed_with b t m = record b { devices = m.devices; shots = m.shots; closed = t }

-- All ticks below t are done, and all that were done before.
abbrev pub board_closed : BoardState → ℕ → BoardState
board_closed b t = closed_with b (max t b.closed) (ticks (around b) (t - b.closed) b.closed (moving_part b))

-- the answer of a read at tick t
abbrev pub answer_at : Place → BoardState → ℕ → ℕ → ℕ
answer_at Ram b t at = slice_index b.ram at
answer_at PagedRom b t at = rom_byte b.roms.slots b.latch (at - 0x8000)
answer_at OsRom b t at = slice_index b.roms.os (at - 0xC000)
answer_at Plugs b t at = 0xFF
answer_at (Sheila device) b t at = register_answer device at (keys_at t b.script) b.devices

-- the board after a read
abbrev pub read_at : Place → ℕ → BoardState → BoardState
read_at (Sheila device) at b = record b { devices = register_read device at b.devices }
read_at _ at b = b

-- The board with the devices d after a write to the system's 6522. If the write turns bit 0 of the
-- latch from 1 to 0, the sound chip is written.
abbrev pub with_sound : BoardState → Devices → BoardState
with_sound b d =
    let write : SoundWrite = record { moment = moment_at (micro b.clock) b.closed; byte = sound_data d } in
    record b { devices = d; sound = if sound_line b.devices && not (sound_line d) then with_write write b.sound else b.sound }

-- The board after a write. ROMs ignore it.
abbrev pub written_at : Place → ℕ → ℕ → BoardState → BoardState
written_at Ram at v b = record b { ram = slice_set b.ram at v }
written_at (Sheila RomLatch) at v b = record b { latch = v % 16 }
written_at (Sheila SystemVia) at v b = with_sound b (register_written SystemVia at v b.devices)
written_at (Sheila device) at v b = record b { devices = register_written device at v b.devices }
written_at _ at v b = b

-- The lines to the processor: the interrupt request of the devices, and the rises of the NMI line,
-- the disc controller's "DRQ or INTRQ", in microseconds and in accesses.
abbrev pub board_irq : BoardState → Bool
board_irq b = devices_ask b.devices

abbrev pub board_nmis : BoardState → ℕ
board_nmis b = b.devices.disc.nmis

-- A break is pending at tick t if the script has a break with a tick of at most t that was not
-- taken.
abbrev pub break_pending : BoardState → ℕ → Bool
break_pending b t = nat_lt b.breaks (breaks_until t b.script)

-- the tick of the script's first break that was not taken, if there is one; ticks never fall
abbrev pub next_break : BoardState → Option ℕ
next_break b = break_number b.breaks b.script

-- Every break up to tick t is taken. That resets the disc controller and the user's 6522, and
-- changes nothing more on the board.
abbrev pub break_taken : BoardState → ℕ → BoardState
break_taken b t = record b { breaks = breaks_until t b.script; devices = devices_reset b.devices }

-- 32,768 bytes 00
abbrev pub clear_ram : List ℕ
clear_ram = zeros 32768

-- the board at power-on, by its clock, images, discs of both drives, and script
abbrev pub first_board : Clock → Roms → Option Image → Option Image → List Event → BoardState
first_board clock roms d0 d1 script = record {
  clock = clock;
  ram = clear_ram;
  roms = roms;
  latch = 0;
  script = script;
  breaks = 0;
  devices = first_devices d0 d1;
  shots = [];
  sound = [];
  closed = 0;
}
