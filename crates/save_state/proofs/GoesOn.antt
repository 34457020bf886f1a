-- What continues from there is what was played from the start.
use Rattle.std.proofs.Common.{ℕ, ◌≡◌, List, Option, None}
use Rattle.beeb_bits.specs.declared.Side.{Side}
use Rattle.beeb_bits.specs.declared.Side.TheVariants.{Host, Para}
use Rattle.tube_chip.specs.Events.{Event, of_side}
use Rattle.tube_trace.specs.declared.Entry.{Entry}
use Rattle.tube_trace.specs.Entries.{accesses}
use Rattle.tube_party.specs.declared.replaying.Doing.{Doing}
use Rattle.tube_party.specs.Replay.{Ended}
use Rattle.tube_party.specs.OneThread.{IsKept, Played, IsPlayed}
use Rattle.tube_party.specs.Reference.{World}
use Rattle.tube_party.specs.GoingOn.{IsLike}

pub ended : {S : Type 0} {e : Ended S} {u : S} {place : Option (ℕ × Option Doing)} → u ≡ e.machine → place ≡ e.place → place ≡ None → e ≡ record { machine = u; place = None }
ended at same none = rw (at, ← none, same)

kept_alike : {side : Side} {l m : List Event} {keep : ℕ} {list : List Entry} {count : ℕ} → accesses (of_side side m) ≡ accesses (of_side side l) → IsKept side l keep list count
    → IsKept side m keep list count
kept_alike same k = record { list_is = rw same k.list_is; count_is = rw same k.count_is }

pub played_alike : {S T : Type 0} {w v : World S T} {keep : ℕ} {d : Played S T} → IsLike w v → IsPlayed v keep d → IsPlayed w keep d
played_alike like played = record {
  host_is = rw like.host played.host_is;
  para_is = rw like.para played.para_is;
  chip_is = rw like.chip played.chip_is;
  host_kept = kept_alike (like.listed Host) played.host_kept;
  para_kept = kept_alike (like.listed Para) played.para_kept;
}
