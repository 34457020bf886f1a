-- The devices of the host that advance by microseconds, and their wiring: the picture, the disc
-- controller, the converter, and the two 6522s. The keyboard and the addressable latch are at the
-- system's 6522. (Acorn, BBC Microcomputer Advanced User Guide, The system VIA, The user/printer
-- VIA, and analogue to digital converter.)
use Rattle.std.specs.Prelude.{ℕ, zero, suc, ◌==◌, ◌||◌, ◌&&◌, ◌%◌, nat_le, Bool, true, false, List, [], ◌∷◌, replicate, Option, if◌then◌else◌}
use Rattle.saa5050.specs.Shapes.{Font}
use Rattle.crtc6845.specs.Registers as crtc
use Rattle.video_ula.specs.State as ula
use Rattle.raster.specs.State as picture
use Rattle.raster.specs.Lending.{with_crtc, with_ula}
use Rattle.raster.specs.Clock as beam
use Rattle.disc_image.specs.Image.{Image}
use Rattle.wd1770.specs.State as disc
use Rattle.wd1770.specs.Commands.{latch_leaves}
use Rattle.wd1770.specs.Registers as controller
use Rattle.wd1770.specs.Step as turn
use Rattle.adc7002.specs.State as adc
use Rattle.adc7002.specs.Registers as converter
use Rattle.adc7002.specs.Step as conversion
use Rattle.via6522.specs.declared.Pins.{Pins}
use Rattle.via6522.specs.State as via
use Rattle.via6522.specs.Registers.{answer_of, read_leaves, write_leaves, asks, out_a, out_b}
use Rattle.via6522.specs.Step.{step}
use Rattle.keyboard.specs.Keys.{Keys}
use Rattle.keyboard.specs.Latch as keyboard
use Rattle.key_script.specs.declared.Event.{Event}
use Rattle.key_script.specs.Keys.{is_down}
use Rattle.key_script.specs.Levels.{level_at}
use Rattle.host_devices.specs.declared.map.Device.{Device}
use Rattle.host_devices.specs.declared.map.Device.TheVariants.{Crtc, Acia, VideoUla, SystemVia, UserVia, DiscLatch, DiscController, Adc}

pub record Devices : Type 0 where
  -- the 6845, the video ULA and the teletext chip, and the frames
  pub video : picture.State
  pub disc : disc.State
  -- the addressable latch's bits, bit 0 first
  pub latch : List Bool
  pub converter : adc.State
  pub system : via.State
  pub user : via.State

-- the keys that are down at tick t, by a script
abbrev pub keys_at : ℕ → List Event → Keys
keys_at t script = λ key. is_down key t script

-- the levels of the converter's four channels at tick t, by a script
abbrev pub levels_at : ℕ → List Event → List ℕ
levels_at t script = level_at 0 t script ∷ level_at 1 t script ∷ level_at 2 t script ∷ level_at 3 t script ∷ []

-- The system's pins: bit 7 of port A and CA2 come from the keyboard, CA1 is vertical sync, and CB1
-- the converter's line. All other pins are 1.
abbrev pub system_pins : Bool → Bool → Keys → Devices → Pins
system_pins vsync cb1 keys d = record {
  a = if keyboard.port_a_bit_7 d.latch (out_a d.system) keys then 0xFF else 0x7F;
  b = 0xFF;
  ca1 = vsync;
  ca2 = keyboard.ca2 d.latch (out_a d.system) keys;
  cb1 = cb1;
  cb2 = true;
}

-- the user's pins are all 1
abbrev pub user_pins : Pins
user_pins = record { a = 0xFF; b = 0xFF; ca1 = true; ca2 = true; cb1 = true; cb2 = true }

-- the picture after a microsecond, from the RAM and by the screen size of the latch
abbrev pub raster_after : List ℕ → Font → Devices → picture.State
raster_after ram font d = beam.microsecond ram (keyboard.screen_size d.latch) font d.video

-- One microsecond of all devices, in order: the picture, from the RAM and by the screen size of the
-- latch; the disc controller; the keyboard's level; the converter, with the levels of its channels;
-- the system's 6522, which sees the new vertical sync and the new level of the converter's line;
-- the user's.
unfoldable pub microsecond : List ℕ → Font → Keys → List ℕ → Devices → Devices
microsecond ram font keys levels d = record d {
  video = raster_after ram font d;
  disc = turn.step d.disc;
  converter = conversion.step levels d.converter;
  system = step (system_pins (beam.vsync_of (raster_after ram font d)) (converter.cb1 (conversion.step levels d.converter)) keys d) d.system;
  user = step user_pins d.user;
}

-- n microseconds, one after another, with unchanged keys and levels
abbrev pub microseconds : List ℕ → Font → Keys → List ℕ → ℕ → Devices → Devices
microseconds ram font keys levels zero d = d
microseconds ram font keys levels (suc n) d = microseconds ram font keys levels n (microsecond ram font keys levels d)

-- the last finished frame, or a black one
unfoldable pub last_frame : Devices → List ℕ
last_frame d = d.video.finished

-- The registers in SHEILA, by their addresses: the answer of a read, by the keys. At the 6845 an
-- even address selects a register, and an odd one is its value, if it can be read. Both 6522s have
-- sixteen registers, the disc controller and the converter four each. Addresses that are only
-- written, and absent devices, read FE. (Acorn, BBC Microcomputer Advanced User Guide, Sheila.)
unfoldable pub register_answer : Device → ℕ → Keys → Devices → ℕ
register_answer Crtc at keys d = if at % 2 == 0 then 0xFE else crtc.answer_of d.video.crtc
register_answer Acia at keys d = if at % 2 == 0 then 0x02 else 0x00
register_answer SystemVia at keys d = answer_of (at % 16) (system_pins (beam.vsync_of d.video) (converter.cb1 d.converter) keys d) d.system
register_answer UserVia at keys d = answer_of (at % 16) user_pins d.user
register_answer DiscController at keys d = controller.answer_of (at % 4) d.disc
register_answer Adc at keys d = converter.answer_of (at % 4) d.converter
register_answer _ at keys d = 0xFE

-- Registers 11 to 14 of a 6522: they do not depend on pins, and a read does not change them.
abbrev pub holds_still : Device → ℕ → Bool
holds_still SystemVia at = nat_le 11 (at % 16) && nat_le (at % 16) 14
holds_still UserVia at = nat_le 11 (at % 16) && nat_le (at % 16) 14
holds_still _ at = false

-- the devices after a read
unfoldable pub register_read : Device → ℕ → Devices → Devices
register_read SystemVia at d = record d { system = read_leaves (at % 16) d.system }
register_read UserVia at d = record d { user = read_leaves (at % 16) d.user }
register_read DiscController at d = record d { disc = controller.read_leaves (at % 4) d.disc }
register_read _ at d = d

-- After a write to register 0 or 2 of the system's 6522 the pins of port B go to the addressable
-- latch.
unfoldable pub after_latch : ℕ → Devices → Devices
after_latch reg d = if reg == 0 || reg == 2 then record d { latch = keyboard.latch_after (out_b d.system) d.latch } else d

-- The devices after a write. An even address of the video ULA is its control byte, and an odd one
-- its palette. Stubs and absent devices ignore writes.
unfoldable pub register_written : Device → ℕ → ℕ → Devices → Devices
register_written Crtc at v d =
    record d { video = with_crtc d.video (if at % 2 == 0 then crtc.select_leaves v d.video.crtc else crtc.set_leaves v d.video.crtc) }
register_written VideoUla at v d =
    record d { video = with_ula d.video (if at % 2 == 0 then ula.control_leaves v d.video.ula else ula.palette_leaves v d.video.ula) }
register_written SystemVia at v d = after_latch (at % 16) (record d { system = write_leaves (at % 16) v d.system })
register_written UserVia at v d = record d { user = write_leaves (at % 16) v d.user }
register_written DiscLatch at v d = record d { disc = latch_leaves v d.disc }
register_written DiscController at v d = record d { disc = controller.write_leaves (at % 4) v d.disc }
register_written Adc at v d = record d { converter = converter.write_leaves (at % 4) v d.converter }
register_written _ at v d = d

-- The sound chip's write line is bit 0 of the latch, active low, and its data are the pins of port
-- A. The chip takes the data when the line falls.
unfoldable pub sound_line : Devices → Bool
sound_line d = keyboard.latch_bit 0 d.latch

unfoldable pub sound_data : Devices → ℕ
sound_data d = out_a d.system

-- BREAK resets the disc latch, which becomes 00, and the user's 6522. (Acorn, BBC Microcomputer
-- Advanced User Guide.)
unfoldable pub devices_reset : Devices → Devices
devices_reset d = record d { disc = latch_leaves 0 d.disc; user = via.power_on }

-- one of both 6522s requests an interrupt
unfoldable pub devices_ask : Devices → Bool
devices_ask d = asks d.system || asks d.user

-- the devices at power-on, with the discs of both drives
unfoldable pub first_devices : Option Image → Option Image → Devices
first_devices d0 d1 = record {
  video = picture.power_on;
  disc = disc.power_on d0 d1;
  latch = replicate 8 false;
  converter = adc.power_on;
  system = via.power_on;
  user = via.power_on;
}
