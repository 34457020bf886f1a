-- One side at the cell.
use Rattle.tube_cell.specs.Passes.{PassState}
use Rattle.tube_party.specs.declared.log.Log.{Log}
use Rattle.session.specs.declared.half.Half.{Half}

-- The state of a side's machine, and its pass.
pub record Place (S : Type 0) : Type 0 where
  pub state : S
  pub pass : PassState

abbrev pub place : {S : Type 0} → S → PassState → Place S
place s p = record { state = s; pass = p }

-- A side's state at the cell, and the log of its accesses.
pub record SideAndLog (S : Type 0) : Type 0 where
  pub at : Place S
  pub log : Log

-- that of a half, whose machine's state `state` gives
abbrev pub side_and_log : {M S : Type 0} → (M → S) → Half M → SideAndLog S
side_and_log state half = record { at = place (state half.machine) half.pass; log = half.log }
