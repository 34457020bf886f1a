-- The cycles of both machines in ticks. The host runs at 2 MHz. The second processor runs at 3 MHz,
-- and a tick is 1/6 microsecond, or at 4 MHz, and a tick is 1/12 microsecond. (Acorn, 6502 Second
-- Processor User Guide; Application Note 004; the ticks are this project's.)
use Rattle.std.specs.Prelude.{ℕ, ◌≡◌, ◌≤◌, ◌*◌, refl}
use Rattle.std.proofs.Common.{arith}
use Rattle.beeb_bits.specs.declared.clock.Clock.{Clock}
use Rattle.beeb_bits.specs.declared.clock.Clock.TheVariants.{Three, Four}

-- a cycle of the host
abbrev pub host : Clock → ℕ
host Three = 3
host Four = 6

-- a cycle of the second processor
abbrev pub para : Clock → ℕ
para Three = 2
para Four = 3

-- a microsecond
abbrev pub micro : Clock → ℕ
micro Three = 6
micro Four = 12

-- a microsecond is two cycles of the host
pub micro-is-two : (c : Clock) → micro c ≡ 2 * host c
micro-is-two Three = refl
micro-is-two Four = refl

-- bounds of both cycles
pub some-host : (c : Clock) → 3 ≤ host c
some-host Three = omega arith
some-host Four = omega arith

pub few-host : (c : Clock) → host c ≤ 6
few-host Three = omega arith
few-host Four = omega arith

pub some-para : (c : Clock) → 2 ≤ para c
some-para Three = omega arith
some-para Four = omega arith

pub few-para : (c : Clock) → para c ≤ 3
few-para Three = omega arith
few-para Four = omega arith
