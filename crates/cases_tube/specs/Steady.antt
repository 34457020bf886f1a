-- The state, in contracts, of a party that does an access every six ticks.
use Rattle.std.specs.Prelude.{ℕ}

pub record SideAndLog : Type 0 where
  pub due : ℕ
  -- the ticks from its closed part to the next step
  pub lag : ℕ

-- The state, in contracts, of a party that reads a status register every two ticks, after `looks`
-- looks.
pub record Polling : Type 0 where
  pub due : ℕ
  -- the ticks from its closed part to the next step
  pub lag : ℕ
  pub looks : ℕ
