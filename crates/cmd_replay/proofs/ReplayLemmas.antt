-- The outcome of a replay that does not differ, of one that differs, and of a trace with a wrong
-- answer.
use Rattle.std.proofs.Common.{◌≡◌, ℕ, ◌+◌, List, [], Option, Some, None}
use Rattle.beeb_bits.specs.declared.clock.Clock.{Clock}
use Rattle.beeb_bits.specs.declared.Side.{Side}
use Rattle.tube_trace.specs.declared.Entry.{Entry}
use Rattle.tube_trace.specs.FirstWrong.{wrong}
use Rattle.tube_party.specs.declared.Doing.{Doing}
use Rattle.tube_party.specs.Transitions.{Transitions}
use Rattle.tube_party.specs.Replay.{replay_of}
use Rattle.cmd_status.specs.declared.status.Ending.TheVariants.{Differs}
use Rattle.host_mach.specs.State.{HostState}
use Rattle.para_mach.specs.State.{ParaState}
use Rattle.cmd_outcome.specs.Left.{Left}
use Rattle.cmd_outcome.specs.Names.{Names}
use Rattle.cmd_outcome.specs.Trace.{wrong_verdict}
use Rattle.cmd_outcome.specs.Verdicts.{machine_verdict, said_verdict}
use Rattle.cmd_replay.specs.Replay.{left_of, replayed, side_count}
use Rattle.cmd_replayed.specs.Replay.{differs_text}

module _ {S : Type 0} (transitions : Transitions S) (side : Side) (ticks : ℕ) (left : ℕ → S → Left) (entries : List Entry) (s : S) where
  pub done_is : (l : Left) (tube : ℕ) (last : S) → wrong entries ≡ None → (replay_of transitions side entries ticks s).place ≡ None →
      last ≡ (replay_of transitions side entries ticks s).machine → tube ≡ side_count side ticks entries → l ≡ left tube last →
      machine_verdict l ≡ replayed transitions side ticks left (entries, s)
  unfolding replayed
  done_is l tube last right none same counted is = rw (right, none, is, same, counted)

  pub differs_is : (line : ℕ) (doing : Option Doing) → wrong entries ≡ None → (replay_of transitions side entries ticks s).place ≡ Some (line, doing) →
      said_verdict (Differs line doing) (differs_text line doing) ≡ replayed transitions side ticks left (entries, s)
  unfolding replayed
  differs_is line doing right some = rw (right, some)

  pub wrong_is : (at byte : ℕ) → wrong entries ≡ Some (at, byte) → wrong_verdict (at + 1) byte ≡ replayed transitions side ticks left (entries, s)
  unfolding replayed
  wrong_is at byte is = rw is

-- the final state of a machine, without other bytes
pub left_is : (clock : Clock) (ticks tube : ℕ) (names : Names) (bytes : List ℕ) (parts shown : Option HostState × Option ParaState) → bytes ≡ [] → parts ≡ shown →
    record { names = names; clock = clock; ticks = ticks; tube = tube; host = parts.0; para = parts.1; kept = None; saved = None; counts = None; bytes = bytes }
    ≡ left_of clock ticks tube names shown
left_is clock ticks tube names bytes parts shown none same = rw (none, same)
