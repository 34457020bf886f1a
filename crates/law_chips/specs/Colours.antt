-- The colours of both frames over whole runs of the picture: three bits each. (BBC Microcomputer
-- Advanced User Guide, The Video ULA.)
use Rattle.std.specs.Prelude.{ℕ, ◌<◌, List}
use Rattle.std.specs.List.{All}
use Rattle.raster.specs.State.{power_on}
use Rattle.law_chips.specs.PictureRuns.{Move, after_moves}

-- each dot is a colour from 0 to 7
abbrev pub AreColours : List ℕ → Type 0
AreColours frame = All (λ colour. colour < 8) frame

-- After each run from power-on, each dot of the frame that is drawn, and of the last finished one,
-- is a colour from 0 to 7.
abbrev pub DotsAreColours : Type 0
DotsAreColours =
    (moves : List Move) →
    AreColours (after_moves moves power_on).working × AreColours (after_moves moves power_on).finished
