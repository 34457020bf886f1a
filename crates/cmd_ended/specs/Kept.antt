-- The verdict of both machines after a run.
use Rattle.std.specs.Prelude.{ℕ, nat_le, List, length, take, Option, option_map}
use Rattle.beeb_bits.specs.declared.clock.Clock.{Clock}
use Rattle.tube_chip.specs.Events.{Event}
use Rattle.tube_trace.specs.declared.Entry.{Entry}
use Rattle.tube_trace.specs.Entries.{accesses}
use Rattle.tube_trace.specs.Text.{text_of}
use Rattle.tube_party.specs.Reference.{World}
use Rattle.host_mach.specs.State as host
use Rattle.para_mach.specs.State as para
use Rattle.cmd_stages.specs.Plan.{Verdict}
use Rattle.cmd_status.specs.declared.status.Ending.{Ending}
use Rattle.save_state.specs.Saved.{Session}
use Rattle.save_state.specs.File.{file_of}
use Rattle.cmd_outcome.specs.Names.{Names}
use Rattle.cmd_outcome.specs.Left.{Kept}
use Rattle.cmd_outcome.specs.Verdicts.{machine_verdict, both_left}
use Rattle.cmd_ended.specs.Save.{saved_of}

-- the accesses kept: their number, and their trace, by the clock of the machines
abbrev pub kept_of : Clock → List Entry → Kept
kept_of clock kept = record { count = length kept; trace = text_of clock kept }

-- the session file of a run with the beginning begun, if it is saved; the first `keep` accesses are
-- kept
abbrev pub saved_file : Option Session → ℕ → ℕ → List Event → Option (List ℕ)
saved_file begun ticks keep list =
    option_map (λ (b : Session). file_of (saved_of b ticks (nat_le (length (accesses list)) keep) (take keep (accesses list)))) begun

-- The verdict of the world after a run. The first `keep` accesses in their common order are kept.
-- begun is the beginning of the run, if its session is saved.
unfoldable pub kept_verdict : Clock → Option Session → ℕ → ℕ → Names → World host.HostState para.ParaState → Verdict Ending
kept_verdict clock begun ticks keep names w =
    machine_verdict (both_left clock ticks (length (accesses w.list)) names w.host w.para (kept_of clock (take keep (accesses w.list)))
    (saved_file begun ticks keep w.list))
