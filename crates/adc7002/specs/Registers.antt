-- The registers of the uPD7002. (uPD7002 data sheet, Register Description; BBC Microcomputer
-- Advanced User Guide, analogue to digital converter.)
use Rattle.std.specs.Prelude.{ℕ, ◌+◌, ◌*◌, ◌/◌, ◌%◌, ◌==◌, Bool, false, not, if◌then◌else◌}
use Rattle.beeb_bits.specs.Bits.{bit}
use Rattle.adc7002.specs.State.{State}

-- Bits 1 and 0 select the channel, and bit 3 a conversion to 12 bits.
abbrev pub channel : ℕ → ℕ
channel v = v % 4

abbrev pub has_12_bits : ℕ → Bool
has_12_bits v = bit v 3

-- the number of steps of a conversion
abbrev pub duration : ℕ → ℕ
duration v = if has_12_bits v then 10000 else 4000

-- A write to register 0 begins a conversion, and stops one that is in progress. Other writes do
-- nothing.
abbrev pub write_leaves : ℕ → ℕ → State → State
write_leaves reg v a = if reg == 0 then record a { kept = v % 16; left = duration v; has_ended = false } else a

-- bit 7 during a conversion, otherwise bit 6; the result's two highest bits in bits 5 and 4; and
-- the four stored bits
abbrev pub status : State → ℕ
status a = (if a.left == 0 then 0x40 else 0x80) + 16 * (a.high / 64) + a.kept

-- The answer of a read.
abbrev pub answer_of : ℕ → State → ℕ
answer_of reg a =
    if reg == 0 then status a
    else if reg == 1 then a.high
    else if reg == 2 then a.low
    else 0xFE

-- The line to CB1 of the system VIA is low from a conversion's end to the next write to register 0.
abbrev pub cb1 : State → Bool
cb1 a = not a.has_ended
