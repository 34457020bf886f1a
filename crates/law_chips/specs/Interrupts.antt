-- Dx, force interrupt. (WD1770 data sheet, Type IV Commands.)
use Rattle.std.specs.Prelude.{ℕ, ◌/◌, ◌≡◌, ◌==◌, ◌&&◌, ◌||◌, not, Bool, false, List, [], ◌∷◌}
use Rattle.beeb_bits.specs.Bits.{bit}
use Rattle.wd1770.specs.declared.command.Command.TheVariants.{Idle}
use Rattle.wd1770.specs.State.{State}
use Rattle.wd1770.specs.Select.{is_reset}
use Rattle.wd1770.specs.Ends.{is_busy}
use Rattle.wd1770.specs.Registers.{write_leaves}
use Rattle.wd1770.specs.History.{Event, microsecond, read, write, latch, history}
use Rattle.law_chips.specs.LostData.{AllLetGo}

-- the status is read
abbrev pub status_is_read : List Event → Bool
status_is_read [] = false
status_is_read (microsecond ∷ events) = status_is_read events
status_is_read (read reg ∷ events) = (reg == 0) || status_is_read events
status_is_read (write reg v ∷ events) = status_is_read events
status_is_read (latch v ∷ events) = status_is_read events

-- The effect of Dx at once: registers, heads and discs stay as they were. DRQ, lost data and record
-- not found are clear.
pub record LeavesRest (s x : State) : Type 0 where
  pub track : x.track ≡ s.track
  pub sector : x.sector ≡ s.sector
  pub byte : x.byte ≡ s.byte
  pub drive0 : x.drive0 ≡ s.drive0
  pub drive1 : x.drive1 ≡ s.drive1
  pub drq : x.drq ≡ false
  pub lost_data : x.lost_data ≡ false
  pub not_found : x.record_not_found ≡ false
  -- If no command was in progress, the status that follows is of type I, otherwise of the ended
  -- command's type.
  pub status : x.type_one ≡ (s.type_one || not (is_busy s.command))

-- Any command in progress is over at once, and none begins before the next is written. D8 to DF set
-- INTRQ until the status is read; D0 to D7 do not.
pub record InterruptsAreForced : Type 0 where
  pub over : (s : State) (v : ℕ) (events : List Event) → is_reset s.latch ≡ false → v / 16 ≡ 0xD → AllLetGo events →
      (history events (write_leaves 0 v s)).command ≡ Idle
  pub asks : (s : State) (v : ℕ) (events : List Event) → is_reset s.latch ≡ false → v / 16 ≡ 0xD → AllLetGo events →
      (history events (write_leaves 0 v s)).intrq ≡ (bit v 3 && not (status_is_read events))
  pub rest : (s : State) (v : ℕ) → is_reset s.latch ≡ false → v / 16 ≡ 0xD → LeavesRest s (write_leaves 0 v s)
