-- The raster: both chips that make the picture, the beam's place, and the frames.
use Rattle.std.specs.Prelude.{ℕ, List, false}
use Rattle.crtc6845.specs.State.{State as CrtcState, power_on as crtc_power_on}
use Rattle.video_ula.specs.State.{State as UlaState, power_on as ula_power_on}
use Rattle.raster.specs.Frame.{black}
use Rattle.raster.specs.Beam.{Place, Cursor}
use Rattle.raster.specs.Text.{Text, first_text}

pub record State : Type 0 where
  pub crtc : CrtcState
  pub ula : UlaState
  pub place : Place
  pub cursor : Cursor
  pub text : Text
  -- the frame in progress, and the last finished one
  pub working : List ℕ
  pub finished : List ℕ

abbrev pub first_place : Place
first_place = record { x = 0; y = 0 }

abbrev pub first_cursor : Cursor
first_cursor = record { one_ago = false; two_ago = false; three_ago = false }

abbrev pub power_on : State
power_on = record {
  crtc = crtc_power_on;
  ula = ula_power_on;
  place = first_place;
  cursor = first_cursor;
  text = first_text;
  working = black;
  finished = black;
}
