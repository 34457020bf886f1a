-- A machine replayed against a trace: the text if they differ.
use Rattle.std.specs.Prelude.{ℕ, ◌+◌, List, ◌++◌, Option, Some, None, codes}
use Rattle.std.specs.Fmt.{decimal}
use Rattle.tube_trace.specs.Text.{access_text, asked_byte}
use Rattle.tube_party.specs.declared.Doing.{Doing}
use Rattle.cmd_stages.specs.Plan.{Verdict}
use Rattle.cmd_status.specs.declared.status.Ending.{Ending}
use Rattle.cmd_status.specs.declared.status.Ending.TheVariants.{Differs}
use Rattle.cmd_outcome.specs.Verdicts.{said_verdict}
use Rattle.cmd_outcome.specs.Trace.{wrong_verdict}

-- the access of a machine: `-` for none, or an access in the trace's form, with `--` for the byte
-- of a read
unfoldable pub doing_text : Option Doing → List ℕ
doing_text None = codes "-"
doing_text (Some d) = access_text (d.tick).0 d.side d.op (asked_byte d.op)

-- `differs LINE`, the machine's access there, and a line feed
unfoldable pub differs_text : ℕ → Option Doing → List ℕ
differs_text line doing = codes "differs " ++ decimal line ++ codes " " ++ doing_text doing ++ codes "\n"

-- the place where a machine differs, if it does; otherwise the verdict of the machine at its end
abbrev pub verdict_of_place : {S : Type 0} → (S → Verdict Ending) → S → Option (ℕ × Option Doing) → Verdict Ending
verdict_of_place done s None = done s
verdict_of_place done s (Some place) = said_verdict (Differs place.0 place.1) (differs_text place.0 place.1)

-- The trace is checked first, as in `check`.
abbrev pub unless_wrong : Option (ℕ × ℕ) → Verdict Ending → Verdict Ending
unless_wrong None replay = replay
unless_wrong (Some w) replay = wrong_verdict (w.0 + 1) w.1
