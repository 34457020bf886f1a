-- The interrupt flags of the 6522: the accesses that clear each, the contents of the flag register,
-- and the interrupt line. (6522 data sheet, Interrupt Flag Register and Interrupt Enable Register.)
use Rattle.std.specs.Prelude.{ℕ, ◌≡◌, ◌==◌, ◌&&◌, ◌||◌, not, Bool, true, false, ⊤, List, [], ◌∷◌, if◌then◌else◌}
use Rattle.std.specs.List.{list_any}
use Rattle.beeb_bits.specs.Bits.{bit}
use Rattle.via6522.specs.declared.Pins.{Pins}
use Rattle.via6522.specs.State.{State, InterruptFlags}
use Rattle.via6522.specs.Registers.{answer_of, asks, read_leaves, write_leaves}
use Rattle.via6522.specs.Step.{step}
use Rattle.law_chips.specs.ViaBytes.{Move, microsecond, read, write, after_move, after_moves}

-- The flags of bits 6 to 0.
pub data Flag : Type 0 where
  timer_1 : Flag
  timer_2 : Flag
  line_cb1 : Flag
  line_cb2 : Flag
  shift_register : Flag
  line_ca1 : Flag
  line_ca2 : Flag

abbrev pub all_flags : List Flag
all_flags = timer_1 ∷ timer_2 ∷ line_cb1 ∷ line_cb2 ∷ shift_register ∷ line_ca1 ∷ line_ca2 ∷ []

abbrev pub bit_of : Flag → ℕ
bit_of timer_1 = 6
bit_of timer_2 = 5
bit_of line_cb1 = 4
bit_of line_cb2 = 3
bit_of shift_register = 2
bit_of line_ca1 = 1
bit_of line_ca2 = 0

abbrev pub is_set : Flag → InterruptFlags → Bool
is_set timer_1 s = s.timer1
is_set timer_2 s = s.timer2
is_set line_cb1 s = s.cb1
is_set line_cb2 s = s.cb2
is_set shift_register s = s.shift
is_set line_ca1 s = s.ca1
is_set line_ca2 s = s.ca2

-- The table of the data sheet. A flag is cleared by a read of T1C-L, T2C-L, ORB, SR or ORA. PCR can
-- make CB2 and CA2 independent; then reads of ORB and ORA do not clear their flags.
abbrev pub cleared_by_read : Flag → ℕ → State → Bool
cleared_by_read timer_1 reg c = reg == 4
cleared_by_read timer_2 reg c = reg == 8
cleared_by_read line_cb1 reg c = reg == 0
cleared_by_read line_cb2 reg c = (reg == 0) && not (bit c.pcr 5)
cleared_by_read shift_register reg c = reg == 10
cleared_by_read line_ca1 reg c = reg == 1
cleared_by_read line_ca2 reg c = (reg == 1) && not (bit c.pcr 1)

-- Each flag is also cleared by a write of T1C-H or T1L-H, T2C-H, ORB, SR, or ORA.
abbrev pub cleared_by_write : Flag → ℕ → State → Bool
cleared_by_write timer_1 reg c = (reg == 5) || (reg == 7)
cleared_by_write timer_2 reg c = reg == 9
cleared_by_write line_cb1 reg c = reg == 0
cleared_by_write line_cb2 reg c = (reg == 0) && not (bit c.pcr 5)
cleared_by_write shift_register reg c = reg == 10
cleared_by_write line_ca1 reg c = reg == 1
cleared_by_write line_ca2 reg c = (reg == 1) && not (bit c.pcr 1)

-- A write to IFR clears each flag whose bit is set in the byte.
abbrev pub is_cleared : Flag → Move → State → Bool
is_cleared f (microsecond pins) c = false
is_cleared f (read reg) c = cleared_by_read f reg c
is_cleared f (write reg v) c = cleared_by_write f reg c || ((reg == 13) && bit v (bit_of f))

-- None of these moves clears the flag.
abbrev pub NoneClears : Flag → List Move → State → Type 0
NoneClears f [] c = ⊤
NoneClears f (m ∷ moves) c = (is_cleared f m c ≡ false) × NoneClears f moves (after_move m c)

-- An access clears those flags, and leaves each other as it was: it sets none. No microsecond
-- clears a flag. A set flag stays set through each list of moves that does not clear it. The shift
-- register never shifts, and sets no flag.
pub record FlagsAreCleared : Type 0 where
  pub by_read : (f : Flag) (reg : ℕ) (c : State) → is_set f (read_leaves reg c).flags ≡ (is_set f c.flags && not (is_cleared f (read reg) c))
  pub by_write : (f : Flag) (reg v : ℕ) (c : State) → is_set f (write_leaves reg v c).flags ≡ (is_set f c.flags && not (is_cleared f (write reg v) c))
  pub stays : (f : Flag) (moves : List Move) (c : State) → is_set f c.flags ≡ true → NoneClears f moves c → is_set f (after_moves moves c).flags ≡ true
  pub no_shift : (pins : Pins) (c : State) → (step pins c).flags.shift ≡ c.flags.shift

-- An enabled flag is set.
abbrev pub some_enabled : State → Bool
some_enabled c = list_any (λ f. is_set f c.flags && is_set f c.enabled) all_flags

-- IFR shows each flag in its bit. Its bit 7 is set, and the interrupt line asserted, if an enabled
-- flag is set. IER shows the enabled flags, with bit 7 set. A write to IER sets or clears, by its
-- bit 7, the flags whose bits are set in the byte, and leaves the others.
pub record FlagsAreShown : Type 0 where
  pub flag : (f : Flag) (pins : Pins) (c : State) → bit (answer_of 13 pins c) (bit_of f) ≡ is_set f c.flags
  pub top : (pins : Pins) (c : State) → bit (answer_of 13 pins c) 7 ≡ some_enabled c
  pub line : (c : State) → asks c ≡ some_enabled c
  pub enabled : (f : Flag) (pins : Pins) (c : State) → bit (answer_of 14 pins c) (bit_of f) ≡ is_set f c.enabled
  pub always : (pins : Pins) (c : State) → bit (answer_of 14 pins c) 7 ≡ true
  pub enabling : (f : Flag) (v : ℕ) (c : State) →
      is_set f (write_leaves 14 v c).enabled ≡ (if bit v (bit_of f) then bit v 7 else is_set f c.enabled)
