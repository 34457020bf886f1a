-- The control lines of the 6522, by the bits of PCR. (6522 data sheet, Peripheral Control
-- Register.)
use Rattle.std.specs.Prelude.{ℕ, ◌&&◌, Bool, not, if◌then◌else◌}
use Rattle.beeb_bits.specs.Bits.{bit}
use Rattle.via6522.specs.declared.Pins.{Pins}
use Rattle.via6522.specs.State.{ControlLines}

-- the line had its active edge: it rose if the active edge is up, otherwise it fell
abbrev pub is_edge : Bool → Bool → Bool → Bool
is_edge up before now = if up then not before && now else before && not now

-- CA1: the active edge is up if bit 0 is set
abbrev pub ca1_edge : ℕ → ControlLines → Pins → Bool
ca1_edge pcr before pins = is_edge (bit pcr 0) before.ca1 pins.ca1

-- CA2 is an input while bit 3 is clear, and its active edge is up if bit 2 is set
abbrev pub ca2_edge : ℕ → ControlLines → Pins → Bool
ca2_edge pcr before pins = not (bit pcr 3) && is_edge (bit pcr 2) before.ca2 pins.ca2

-- CB1: the active edge is up if bit 4 is set
abbrev pub cb1_edge : ℕ → ControlLines → Pins → Bool
cb1_edge pcr before pins = is_edge (bit pcr 4) before.cb1 pins.cb1

-- CB2 is an input while bit 7 is clear, and its active edge is up if bit 6 is set
abbrev pub cb2_edge : ℕ → ControlLines → Pins → Bool
cb2_edge pcr before pins = not (bit pcr 7) && is_edge (bit pcr 6) before.cb2 pins.cb2

-- CA2 is independent if bit 1 is set, and CB2 if bit 5 is set: no access to the port then clears
-- its flag.
abbrev pub is_ca2_independent : ℕ → Bool
is_ca2_independent pcr = bit pcr 1

abbrev pub is_cb2_independent : ℕ → Bool
is_cb2_independent pcr = bit pcr 5

-- the levels of the pins
abbrev pub levels_of : Pins → ControlLines
levels_of pins = record { ca1 = pins.ca1; ca2 = pins.ca2; cb1 = pins.cb1; cb2 = pins.cb2 }
