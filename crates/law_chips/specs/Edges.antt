-- The control lines of the 6522 over whole runs of steps. (6522 data sheet, Peripheral Control
-- Register and Interrupt Flag Register.)
use Rattle.std.specs.Prelude.{◌≡◌, ◌&&◌, ◌||◌, Bool, false, not, List, [], ◌∷◌, map, if◌then◌else◌}
use Rattle.beeb_bits.specs.Bits.{bit}
use Rattle.via6522.specs.declared.Pins.{Pins}
use Rattle.via6522.specs.State.{State}
use Rattle.via6522.specs.Step.{after_steps}

-- The line rises, or falls, between `before` and the first of the levels, or between two successive
-- levels.
abbrev pub rises : Bool → List Bool → Bool
rises before [] = false
rises before (now ∷ levels) = (not before && now) || rises now levels

abbrev pub falls : Bool → List Bool → Bool
falls before [] = false
falls before (now ∷ levels) = (before && not now) || falls now levels

-- the active edge: the rising one if `up`, a bit of PCR, is set
abbrev pub has_active : Bool → Bool → List Bool → Bool
has_active up before levels = if up then rises before levels else falls before levels

-- CA1's flag is set after any steps if it was set before, or if the line had its active edge.
abbrev pub Ca1Sees : Type 0
Ca1Sees =
    (c : State) (pins : List Pins) →
    (after_steps pins c).flags.ca1 ≡ c.flags.ca1 || has_active (bit c.pcr 0) c.levels.ca1 (map (λ p. p.ca1) pins)

-- CA2 has an active edge only while it is an input, with bit 3 clear.
abbrev pub Ca2Sees : Type 0
Ca2Sees =
    (c : State) (pins : List Pins) →
    (after_steps pins c).flags.ca2
    ≡ c.flags.ca2 || (not (bit c.pcr 3) && has_active (bit c.pcr 2) c.levels.ca2 (map (λ p. p.ca2) pins))

abbrev pub Cb1Sees : Type 0
Cb1Sees =
    (c : State) (pins : List Pins) →
    (after_steps pins c).flags.cb1 ≡ c.flags.cb1 || has_active (bit c.pcr 4) c.levels.cb1 (map (λ p. p.cb1) pins)

-- CB2 is an input if bit 7 is clear.
abbrev pub Cb2Sees : Type 0
Cb2Sees =
    (c : State) (pins : List Pins) →
    (after_steps pins c).flags.cb2
    ≡ c.flags.cb2 || (not (bit c.pcr 7) && has_active (bit c.pcr 6) c.levels.cb2 (map (λ p. p.cb2) pins))
