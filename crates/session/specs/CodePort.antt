-- Reads of status registers that a port answers.
use Rattle.std.specs.Prelude.{ℕ, ◌≡◌, ◌<◌, Some, List, [], ◌∷◌}
use Rattle.beeb_bits.specs.declared.Side.{Side}
use Rattle.tube_chip.specs.declared.Op.{Op}
use Rattle.tube_party.specs.declared.log.Log.{Log}
use Rattle.tube_party.specs.CodePassing.{passed_entry}
use Rattle.tube_party.specs.Logs.{HasNoted}
use Rattle.session.specs.declared.port.StatusPort.{StatusPort}
use Rattle.session.specs.CodeSight.{byte_seen}

-- A side's status registers, which keep their bytes below a tick, and the log of its accesses.
pub record Shown : Type 0 where
  pub side : Side
  pub status : List ℕ
  pub below : ℕ
  pub log : Log

abbrev pub shown : StatusPort → Shown
shown d = record { side = d.side; status = d.status; below = (d.below).0; log = d.log }

-- A status register was read below tick `below`, and the read was noted.
pub record IsRead (old : Shown) (tick : ℕ) (op : Op) (byte : ℕ) (new : Shown) : Type 0 where
  pub early : tick < old.below
  pub byte_is : byte_seen old.status op ≡ Some byte
  pub noted : HasNoted (passed_entry old.side tick op byte ∷ []) old.log new.log
  pub side_is : new.side ≡ old.side
  pub status_is : new.status ≡ old.status
  pub below_is : new.below ≡ old.below
