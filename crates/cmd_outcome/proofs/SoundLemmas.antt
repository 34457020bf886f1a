-- The number of microseconds that begin below a tick, by division.
use Rattle.std.proofs.Common.{◌≡◌, refl, ℕ, zero, suc, arith}
use Rattle.std.proofs.lemmas.Bool.Decides.{nat_tests}
use Rattle.std.specs.Int.{div_ceil}
use Rattle.beeb_bits.specs.declared.clock.Clock.{Clock}
use Rattle.beeb_bits.specs.declared.clock.Clock.TheVariants.{Three, Four}
use Rattle.beeb_bits.specs.Clock.{micro}
use Rattle.cmd_outcome.specs.Sound.{microseconds_below}

pub begun_is : (clock : Clock) (n : ℕ) → microseconds_below (micro clock) n ≡ div_ceil n (micro clock)
begun_is Three zero = refl
begun_is Four zero = refl
begun_is Three (suc n) = grind (arith, nat_tests, begun_is Three n)
begun_is Four (suc n) = grind (arith, nat_tests, begun_is Four n)
