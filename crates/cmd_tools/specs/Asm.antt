-- `asm PART SOURCE OUT` and `dis PART IMAGE ORIGIN OUT`.
use Rattle.std.specs.Prelude.{ℕ, ◌+◌, nat_lt, List, length, Result, Ok, Err, if◌then◌else◌}
use Rattle.op_table.specs.declared.Part.{Part}
use Rattle.asm65.specs.declared.AsmError.{AsmError}
use Rattle.asm65.specs.declared.AsmError.TheVariants as asm_errors
use Rattle.asm65.specs.Source.{source}
use Rattle.dis65.specs.Listing.{decode}
use Rattle.cmd_status.specs.declared.status.Which.TheVariants.{Image}
use Rattle.cmd_stages.specs.declared.stop.Refusal.{Refusal}
use Rattle.cmd_stages.specs.declared.stop.Refusal.TheVariants as refusals
use Rattle.cmd_stages.specs.Plan.{Verdict, ◌>>=◌, or_refusal}
use Rattle.cmd_status.specs.declared.status.Ending.{Ending}
use Rattle.cmd_status.specs.declared.status.Cause.{Cause}
use Rattle.cmd_status.specs.declared.status.Cause.TheVariants.{BadImage, BadSource}
use Rattle.cmd_outcome.specs.Verdicts.{file_verdict}

-- the refusal for an error of the assembler
abbrev pub refusal_of : AsmError → Refusal Cause
refusal_of (asm_errors.Syntax line) = refusals.Cause (BadSource line 1)
refusal_of (asm_errors.NoSuchForm line) = refusals.Cause (BadSource line 2)
refusal_of (asm_errors.UnknownLabel line) = refusals.Cause (BadSource line 3)
refusal_of (asm_errors.Repeated line) = refusals.Cause (BadSource line 4)
refusal_of (asm_errors.OutOfRange line) = refusals.Cause (BadSource line 5)
refusal_of (asm_errors.TooLong line) = refusals.Cause (BadSource line 6)
refusal_of asm_errors.NoMemory = refusals.NoMemory

-- the image of a source text
unfoldable pub asm_after : Part → List ℕ → List ℕ → Result (Verdict Ending) (Refusal Cause)
asm_after part out text = or_refusal refusal_of (source part text) >>= λ program. Ok (file_verdict out program.1)

-- the text of an image, which must not pass the end of memory
unfoldable pub dis_after : Part → ℕ → List ℕ → List ℕ → Result (Verdict Ending) (Refusal Cause)
dis_after part origin out bytes =
    if nat_lt 65536 (origin + length bytes) then Err (refusals.Cause (BadImage Image (length bytes))) else Ok (file_verdict out (decode part bytes origin))
