-- The trace that a command reads, and the result of a line whose answer is not the chip's.
use Rattle.std.specs.Prelude.{ℕ, Bool, true, false, List, ◌++◌, Result, Ok, Err, if◌then◌else◌, codes}
use Rattle.std.specs.Fmt.{decimal}
use Rattle.beeb_bits.specs.declared.clock.Clock.{Clock}
use Rattle.beeb_bits.specs.declared.clock.Clock.TheVariants.{Three, Four}
use Rattle.tube_trace.specs.declared.Entry.{Entry}
use Rattle.tube_trace.specs.declared.TraceError.{TraceError}
use Rattle.tube_trace.specs.declared.TraceError.TheVariants as trace_errors
use Rattle.tube_trace.specs.Trace.{trace}
use Rattle.digits.specs.Hexadecimal.{hex_digits}
use Rattle.cmd_stages.specs.Plan.{Verdict, ◌>>=◌, or_refusal}
use Rattle.cmd_stages.specs.declared.stop.Refusal.{Refusal}
use Rattle.cmd_stages.specs.declared.stop.Refusal.TheVariants as refusals
use Rattle.cmd_status.specs.declared.status.Ending.{Ending}
use Rattle.cmd_status.specs.declared.status.Ending.TheVariants.{Wrong}
use Rattle.cmd_status.specs.declared.status.Cause.{Cause}
use Rattle.cmd_status.specs.declared.status.Cause.TheVariants.{BadTrace}
use Rattle.cmd_outcome.specs.Verdicts.{said_verdict}

-- the refusal for an error in a trace
abbrev pub refusal_of : TraceError → Refusal Cause
refusal_of (trace_errors.BadLine line) = refusals.Cause (BadTrace line 1)
refusal_of (trace_errors.BadOrder line) = refusals.Cause (BadTrace line 2)
refusal_of trace_errors.NoMemory = refusals.NoMemory

-- a trace: its clock and its entries
unfoldable pub trace_of : List ℕ → Result (Clock × List Entry) (Refusal Cause)
trace_of bytes = or_refusal refusal_of (trace bytes)

-- true if two clocks are the same
abbrev pub is_same : Clock → Clock → Bool
is_same Three Three = true
is_same Three Four = false
is_same Four Three = false
is_same Four Four = true

-- the entries of a trace if it has the given clock
abbrev pub if_same : Clock → Clock × List Entry → Result (List Entry) (Refusal Cause)
if_same clock t = if is_same clock t.0 then Ok t.1 else Err (refusals.Cause (BadTrace 1 4))

-- The entries of a trace with the given clock. A trace with the other clock is refused after its
-- text was found well-formed.
unfoldable pub entries_of : Clock → List ℕ → Result (List Entry) (Refusal Cause)
entries_of clock bytes = trace_of bytes >>= if_same clock

-- `wrong LINE XX` and a line feed
unfoldable pub wrong_text : ℕ → ℕ → List ℕ
wrong_text line byte = codes "wrong " ++ decimal line ++ codes " " ++ hex_digits 2 byte ++ codes "\n"

-- The chip gives byte in place of the answer on the line.
abbrev pub wrong_verdict : ℕ → ℕ → Verdict Ending
wrong_verdict line byte = said_verdict (Wrong line byte) (wrong_text line byte)
