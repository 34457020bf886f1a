-- The value of a port of the 6522 that is read. (6522 data sheet, Port A and Port B registers. This
-- project's profile: ACR bits 0 and 1 latch no inputs, and no timer drives PB7.)
use Rattle.std.specs.Prelude.{ℕ, ◌≡◌, ◌<◌, ◌==◌, ◌||◌, true, if◌then◌else◌}
use Rattle.beeb_bits.specs.Bits.{bit}
use Rattle.via6522.specs.declared.Pins.{Pins}
use Rattle.via6522.specs.State.{State}
use Rattle.via6522.specs.Registers.{answer_of, out_a, out_b}

-- A bit of a port is that of its output register if its direction register has a 1, and the pin if
-- it has a 0. Port B is register 0, and port A registers 1 and 15. The chip drives a 1 at each
-- input.
pub record PortsShowTheirBits : Type 0 where
  pub port_b : (n : ℕ) (pins : Pins) (c : State) → n < 8 → c.ddrb < 256 →
      bit (answer_of 0 pins c) n ≡ (if bit c.ddrb n then bit c.orb n else bit pins.b n)
  pub port_a : (n reg : ℕ) (pins : Pins) (c : State) → n < 8 → c.ddra < 256 → ((reg == 1) || (reg == 15)) ≡ true →
      bit (answer_of reg pins c) n ≡ (if bit c.ddra n then bit c.ora n else bit pins.a n)
  pub out_of_b : (n : ℕ) (c : State) → n < 8 → c.ddrb < 256 → bit (out_b c) n ≡ (if bit c.ddrb n then bit c.orb n else true)
  pub out_of_a : (n : ℕ) (c : State) → n < 8 → c.ddra < 256 → bit (out_a c) n ≡ (if bit c.ddra n then bit c.ora n else true)
