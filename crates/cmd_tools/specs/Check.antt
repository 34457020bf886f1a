-- `check TRACE`: compares the answers of a trace with those of the Tube chip.
use Rattle.std.specs.Prelude.{ℕ, ◌+◌, List, ◌++◌, length, Option, Some, None, Result, Ok, codes}
use Rattle.std.specs.Fmt.{decimal}
use Rattle.tube_trace.specs.declared.Entry.{Entry}
use Rattle.tube_trace.specs.FirstWrong.{wrong}
use Rattle.cmd_stages.specs.Plan.{Verdict, ◌>>=◌}
use Rattle.cmd_stages.specs.declared.stop.Refusal.{Refusal}
use Rattle.cmd_status.specs.declared.status.Ending.{Ending}
use Rattle.cmd_status.specs.declared.status.Ending.TheVariants.{Done}
use Rattle.cmd_status.specs.declared.status.Cause.{Cause}
use Rattle.cmd_outcome.specs.Trace.{trace_of, wrong_verdict}
use Rattle.cmd_outcome.specs.Verdicts.{said_verdict}

-- `ok N` and a line feed
unfoldable pub ok_text : ℕ → List ℕ
ok_text n = codes "ok " ++ decimal n ++ codes "\n"

-- The verdict on the entries: the number of lines, or the first line whose answer is not the
-- chip's, and the chip's byte.
abbrev pub check_verdict : List Entry → Option (ℕ × ℕ) → Verdict Ending
check_verdict entries None = said_verdict Done (ok_text (length entries))
check_verdict entries (Some w) = wrong_verdict (w.0 + 1) w.1

-- a trace of either clock
unfoldable pub check_after : List ℕ → Result (Verdict Ending) (Refusal Cause)
check_after bytes = trace_of bytes >>= λ t. Ok (check_verdict t.1 (wrong t.1))
