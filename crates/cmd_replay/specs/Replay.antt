-- `replay SIDE TRACE TICKS OUT` and options: a machine replayed against a trace.
use Rattle.std.specs.Prelude.{ℕ, ◌+◌, ◌&&◌, nat_lt, List, [], ◌∷◌, Option, None, Result, Ok, if◌then◌else◌}
use Rattle.beeb_bits.specs.declared.clock.Clock.{Clock}
use Rattle.beeb_bits.specs.declared.Side.{Side}
use Rattle.beeb_bits.specs.declared.Side.TheVariants.{Host, Para}
use Rattle.tube_chip.specs.Events.{is_side}
use Rattle.tube_trace.specs.declared.Entry.{Entry}
use Rattle.tube_trace.specs.FirstWrong.{wrong}
use Rattle.tube_party.specs.Transitions.{Transitions}
use Rattle.tube_party.specs.Replay.{Ended, replay_of}
use Rattle.host_mach.specs.State.{HostState}
use Rattle.host_mach.specs.Step.{host_transitions}
use Rattle.para_mach.specs.State.{ParaState}
use Rattle.para_mach.specs.Step.{para_transitions}
use Rattle.cmd_stages.specs.Plan.{Verdict, ◌>>=◌}
use Rattle.cmd_stages.specs.declared.stop.Refusal.{Refusal}
use Rattle.cmd_status.specs.declared.status.Ending.{Ending}
use Rattle.cmd_status.specs.declared.status.Cause.{Cause}
use Rattle.cmd_machines.specs.Inputs.{Inputs}
use Rattle.cmd_machines.specs.Setup.{Setup}
use Rattle.cmd_outcome.specs.Left.{Left}
use Rattle.cmd_outcome.specs.Names.{Names}
use Rattle.cmd_outcome.specs.Verdicts.{machine_verdict, host_left, para_left}
use Rattle.cmd_replayed.specs.Made.{host_of, para_of}
use Rattle.cmd_replayed.specs.Replay.{verdict_of_place, unless_wrong}

-- the number of a side's entries below a tick
abbrev pub side_count : Side → ℕ → List Entry → ℕ
side_count side n [] = 0
side_count side n (x ∷ entries) = if is_side side x.side && nat_lt (x.tick).0 n then 1 + side_count side n entries else side_count side n entries

abbrev pub verdict_of_end : {S : Type 0} → (S → Verdict Ending) → Ended S → Verdict Ending
verdict_of_end done e = verdict_of_place done e.machine e.place

-- The verdict of a machine and the entries that were read with it. left makes the final state from
-- the number of accesses and the machine. The trace's answers are checked before the machine runs.
unfoldable pub replayed : {S : Type 0} → Transitions S → Side → ℕ → (ℕ → S → Left) → List Entry × S → Verdict Ending
replayed transitions side ticks left m =
    unless_wrong (wrong m.0) (verdict_of_end (λ s. machine_verdict (left (side_count side ticks m.0) s)) (replay_of transitions side m.0 ticks m.1))

unfoldable pub replay_after : Setup → Side → ℕ → Names → Inputs → Result (Verdict Ending) (Refusal Cause)
replay_after set Host ticks names i = host_of set i >>= λ m. Ok (replayed host_transitions Host ticks (λ tube. host_left set.clock ticks tube names) m)
replay_after set Para ticks names i = para_of set.clock i >>= λ m. Ok (replayed para_transitions Para ticks (λ tube. para_left set.clock ticks tube names) m)

-- the final state of a replay with its machine
abbrev pub left_of : Clock → ℕ → ℕ → Names → Option HostState × Option ParaState → Left
left_of clock ticks tube names parts =
    record { names = names; clock = clock; ticks = ticks; tube = tube; host = parts.0; para = parts.1; kept = None; saved = None; counts = None; bytes = [] }
