-- `follow SIDE TRACE TICKS OUT` and options: the instructions that a machine starts, listed against
-- a trace.
use Rattle.std.specs.Prelude.{ℕ, Bool, List, ◌++◌, Option, Some, None, Result, Ok, Err, codes}
use Rattle.std.specs.Fmt.{decimal}
use Rattle.beeb_bits.specs.declared.Side.{Side}
use Rattle.beeb_bits.specs.declared.Side.TheVariants.{Host, Para}
use Rattle.op_table.specs.declared.names.Part.{Part}
use Rattle.op_table.specs.declared.names.Part.TheVariants.{Nmos, Cmos}
use Rattle.tube_trace.specs.declared.Entry.{Entry}
use Rattle.tube_trace.specs.FirstWrong.{wrong}
use Rattle.tube_party.specs.declared.Doing.{Doing}
use Rattle.tube_party.specs.Transitions.{Transitions}
use Rattle.tube_party.specs.Replay.{replay_of}
use Rattle.follow.specs.declared.Choice.{Choice}
use Rattle.follow.specs.declared.PointsError.{PointsError}
use Rattle.follow.specs.declared.PointsError.TheVariants as points_errors
use Rattle.follow.specs.Points.{points}
use Rattle.follow.specs.Sight.{Sight}
use Rattle.follow.specs.Machines.{host_sight, para_sight}
use Rattle.follow.specs.Listing.{ListingState, replay_listing}
use Rattle.host_mach.specs.State.{HostState}
use Rattle.host_mach.specs.Step.{host_transitions}
use Rattle.para_mach.specs.State.{ParaState}
use Rattle.para_mach.specs.Step.{para_transitions}
use Rattle.cmd_stages.specs.Plan.{Verdict, ◌>>=◌}
use Rattle.cmd_stages.specs.declared.stop.Refusal.{Refusal}
use Rattle.cmd_stages.specs.declared.stop.Refusal.TheVariants as refusals
use Rattle.cmd_status.specs.declared.status.Ending.{Ending}
use Rattle.cmd_status.specs.declared.status.Cause.{Cause}
use Rattle.cmd_status.specs.declared.status.Cause.TheVariants.{BadPoints}
use Rattle.cmd_machines.specs.Inputs.{Inputs}
use Rattle.cmd_machines.specs.Setup.{Setup}
use Rattle.cmd_outcome.specs.Verdicts.{listing_verdict}
use Rattle.cmd_replayed.specs.Made.{host_of, para_of}
use Rattle.cmd_replayed.specs.Replay.{verdict_of_place, unless_wrong}

-- `listed N of M` and a line feed
unfoldable pub listed_text : ℕ → ℕ → List ℕ
listed_text listed chosen = codes "listed " ++ (decimal listed ++ (codes " of " ++ (decimal chosen ++ codes "\n")))

-- the file of the listing; that of the counts, if they are written; and the numbers of instructions
-- listed and chosen
abbrev pub listed_verdict : List ℕ → ListingState → Verdict Ending
listed_verdict out l = listing_verdict out l.text l.counts (listed_text l.listed l.chosen)

-- the verdict of a replay that ended at a place, with its listing: the listing, or the place where
-- machine and trace differ
unfoldable pub listed_by : List ℕ → Option (ℕ × Option Doing) → ListingState → Verdict Ending
listed_by out place listing = verdict_of_place (λ (l : ListingState). listed_verdict out l) listing place

-- the verdict of a machine and the entries that were read with it: the trace's answers are checked
-- first
abbrev pub listed_ended : {S : Type 0} → Transitions S → (S → Sight) → Part → Side → ℕ → Choice → List ℕ → List Entry × S → Verdict Ending
listed_ended m sights part side ticks choice out x =
    unless_wrong (wrong x.0) (listed_by out (replay_of m side x.0 ticks x.1).place (replay_listing m sights part side x.0 ticks choice x.1))

-- the refusal for an error in a file of addresses
abbrev pub points_refusal : PointsError → Refusal Cause
points_refusal (points_errors.BadLine line) = refusals.Cause (BadPoints line 1)
points_refusal (points_errors.BadOrder line) = refusals.Cause (BadPoints line 2)
points_refusal points_errors.NoMemory = refusals.NoMemory

-- the addresses of a file, if one is given
abbrev pub points_read : Result (List Bool) PointsError → Result (Option (List Bool)) (Refusal Cause)
points_read (Ok marked) = Ok (Some marked)
points_read (Err error) = Err (points_refusal error)

abbrev pub points_of : Option (List ℕ) → Result (Option (List Bool)) (Refusal Cause)
points_of None = Ok None
points_of (Some bytes) = points_read (points bytes)

abbrev pub with_points : Choice → Option (List Bool) → Choice
with_points choice points = record { from = choice.from; at = choice.at; points = points; watch = choice.watch; counts = choice.counts }

-- a choice with the addresses of a file, if one is given
unfoldable pub chosen_with : Choice → Option (List ℕ) → Result Choice (Refusal Cause)
chosen_with choice bytes = points_of bytes >>= λ points. Ok (with_points choice points)

-- the verdict of a choice, or the refusal of the choice
abbrev pub verdict_of_choice : Result Choice (Refusal Cause) → (Choice → Verdict Ending) → Result (Verdict Ending) (Refusal Cause)
verdict_of_choice stage verdict = stage >>= λ chosen. Ok (verdict chosen)

-- the verdict of a side's machine with its entries and a choice, or the first refusal: first the
-- machine's, then the choice's
abbrev pub host_verdict : Result (List Entry × HostState) (Refusal Cause) → Result Choice (Refusal Cause) → ℕ → List ℕ → Result (Verdict Ending) (Refusal Cause)
host_verdict made stage ticks out = made >>= λ m. verdict_of_choice stage (λ c. listed_ended host_transitions host_sight Nmos Host ticks c out m)

abbrev pub para_verdict : Result (List Entry × ParaState) (Refusal Cause) → Result Choice (Refusal Cause) → ℕ → List ℕ → Result (Verdict Ending) (Refusal Cause)
para_verdict made stage ticks out = made >>= λ m. verdict_of_choice stage (λ c. listed_ended para_transitions para_sight Cmos Para ticks c out m)

-- The inputs and the refusals are those of `replay`. The file of addresses is refused after them,
-- and before the trace's answers are checked.
unfoldable pub follow_after : Setup → Side → ℕ → Choice → List ℕ → Inputs → Result (Verdict Ending) (Refusal Cause)
follow_after set Host ticks choice out i = host_verdict (host_of set i) (chosen_with choice i.points) ticks out
follow_after set Para ticks choice out i = para_verdict (para_of set.clock i) (chosen_with choice i.points) ticks out
