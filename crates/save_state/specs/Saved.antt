-- The contents of a session file.
use Rattle.std.specs.Prelude.{ℕ, Bool, List, Option}
use Rattle.beeb_bits.specs.declared.clock.Clock.{Clock}
use Rattle.tube_trace.specs.declared.Entry.{Entry}
use Rattle.save_state.specs.declared.Saved.{Saved}

-- A session as plain values: the clock and the tick of the moment, the number of plugged devices,
-- the parts in their order, which of the two discs are double-sided, and the accesses to the Tube
-- below the moment.
pub record Session : Type 0 where
  pub clock : Clock
  pub ticks : ℕ
  pub plugs : ℕ
  pub parts : List (Option (List ℕ))
  pub dsd : List Bool
  pub entries : List Entry

abbrev pub session : Saved → Session
session s = record {
  clock = s.clock;
  ticks = (s.ticks).0;
  plugs = s.plugs;
  parts = s.parts.items;
  dsd = s.dsd;
  entries = s.entries.items;
}
