-- The bits of the 6845's registers over whole runs. (6845 data sheet, Internal Register
-- Assignment.)
use Rattle.std.specs.Prelude.{ℕ, ◌<◌, ⊤, List, [], ◌∷◌}
use Rattle.crtc6845.specs.State.{State, power_on}
use Rattle.crtc6845.specs.Registers.{select_leaves, set_leaves}
use Rattle.crtc6845.specs.Clock.{clock_leaves}
use Rattle.crtc6845.specs.Laws.{HaveTheirBits}
use Rattle.raster.specs.State as raster
use Rattle.law_chips.specs.PictureRuns as picture

-- An event of a 6845: a character clock, the selection of a register, or a write of a byte to the
-- selected one.
pub data Move : Type 0 where
  clock : Move
  select : (v : ℕ) → Move
  write : (v : ℕ) → Move

abbrev pub after_move : Move → State → State
after_move clock c = clock_leaves c
after_move (select v) c = select_leaves v c
after_move (write v) c = set_leaves v c

-- the chip after moves, one after the other
abbrev pub after_moves : List Move → State → State
after_moves [] c = c
after_moves (m ∷ moves) c = after_moves moves (after_move m c)

-- A written value is a byte.
abbrev pub WritesByte : Move → Type 0
WritesByte clock = ⊤
WritesByte (select v) = ⊤
WritesByte (write v) = v < 256

abbrev pub WriteBytes : List Move → Type 0
WriteBytes [] = ⊤
WriteBytes (m ∷ moves) = WritesByte m × WriteBytes moves

-- The registers are within their bits at power-on and after each run from it. Each move keeps this,
-- from any chip on. The laws over whole frames need this.
pub record RegistersHaveTheirBits : Type 0 where
  pub keeps : (m : Move) (c : State) → WritesByte m → HaveTheirBits c.registers →
      HaveTheirBits (after_move m c).registers
  pub reached : (moves : List Move) → WriteBytes moves → HaveTheirBits (after_moves moves power_on).registers

-- the 6845 that a move puts into a raster is within its bits
abbrev pub PutsBits : picture.Move → Type 0
PutsBits (picture.clock ram size font) = ⊤
PutsBits (picture.step ram size font) = ⊤
PutsBits (picture.new_crtc chip) = HaveTheirBits chip.registers
PutsBits (picture.new_ula chip) = ⊤

abbrev pub PutBits : List picture.Move → Type 0
PutBits [] = ⊤
PutBits (m ∷ moves) = PutsBits m × PutBits moves

-- If each 6845 that is put into a raster is within its bits, the raster's 6845 is too, after each
-- run from power-on.
abbrev pub RastersHaveTheirBits : Type 0
RastersHaveTheirBits =
    (moves : List picture.Move) → PutBits moves →
    HaveTheirBits (picture.after_moves moves raster.power_on).crtc.registers
