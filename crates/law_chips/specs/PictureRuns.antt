-- Runs of the picture.
use Rattle.std.specs.Prelude.{ℕ, List, [], ◌∷◌}
use Rattle.crtc6845.specs.State as crtc
use Rattle.video_ula.specs.State as ula
use Rattle.saa5050.specs.Shapes.{Font}
use Rattle.raster.specs.State.{State}
use Rattle.raster.specs.Clock.{char_clock_leaves, microsecond}
use Rattle.raster.specs.Lending.{with_crtc, with_ula}

-- An event of a raster. A character clock or a microsecond, each with the RAM, the screen's size
-- and the font at this time; or any other 6845 or video ULA takes the place of the present one.
pub data Move : Type 0 where
  clock : (ram : List ℕ) (size : ℕ) (font : Font) → Move
  step : (ram : List ℕ) (size : ℕ) (font : Font) → Move
  new_crtc : (chip : crtc.State) → Move
  new_ula : (chip : ula.State) → Move

abbrev pub after_move : Move → State → State
after_move (clock ram size font) s = char_clock_leaves ram size font s
after_move (step ram size font) s = microsecond ram size font s
after_move (new_crtc chip) s = with_crtc s chip
after_move (new_ula chip) s = with_ula s chip

-- the raster after moves, one after the other
abbrev pub after_moves : List Move → State → State
after_moves [] s = s
after_moves (m ∷ moves) s = after_moves moves (after_move m s)
