-- A raster whose character clock changes only vertical sync and the beam's line, unless it finishes
-- a frame.
use Rattle.std.specs.Prelude.{◌+◌, ◌≡◌, true, false, min, if◌then◌else◌}
use Rattle.beeb_bits.specs.Bits.{bit}
use Rattle.crtc6845.specs.Clock.{begins_horizontal_sync}
use Rattle.crtc6845.specs.CodeSteps.{is_quiet}
use Rattle.raster.specs.Text.{first_text}
use Rattle.raster.specs.State.{State, first_cursor}

pub record IsQuiet (s : State) : Type 0 where
  -- the 6845 is quiet
  pub rest : is_quiet s.crtc ≡ true
  -- there is one character clock a microsecond, of 16 dots
  pub clock : bit s.ula.control 4 ≡ false
  -- the beam returns to the dot where it is
  pub x : s.place.x ≡ min ((if begins_horizontal_sync s.crtc then 0 else s.place.x) + 16) 4095
  -- the cursor was on none of the last three characters, and no teletext code was taken
  pub cursor : s.cursor ≡ first_cursor
  pub text : s.text ≡ first_text
