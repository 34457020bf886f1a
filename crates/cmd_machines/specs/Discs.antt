-- The discs in drive 0 and drive 1, made from the files that were read.
use Rattle.std.specs.Prelude.{ℕ, nat_lt, List, length, Option, Some, None, Result, Ok, Err, if◌then◌else◌}
use Rattle.disc_image.specs.declared.Kind.{Kind}
use Rattle.disc_image.specs.Image.{Image, largest}
use Rattle.cmd_stages.specs.Plan.{◌>>=◌}
use Rattle.cmd_stages.specs.declared.stop.Refusal.{Refusal}
use Rattle.cmd_stages.specs.declared.stop.Refusal.TheVariants as refusals
use Rattle.cmd_status.specs.declared.status.Which.TheVariants.{Disc}
use Rattle.cmd_status.specs.declared.status.Cause.{Cause}
use Rattle.cmd_status.specs.declared.status.Cause.TheVariants.{BadImage}

-- The disc in a drive, if one is given. Its image may have up to the largest size of its kind.
unfoldable pub disc_of : ℕ → Kind → Option (List ℕ) → Result (Option Image) (Refusal Cause)
disc_of drive kind None = Ok None
disc_of drive kind (Some bytes) =
    if nat_lt (largest kind) (length bytes) then Err (refusals.Cause (BadImage (Disc drive) (length bytes))) else Ok (Some (record { kind = kind; bytes = bytes }))

-- the discs of both drives, by their kinds and their images
unfoldable pub discs_of : Kind × Kind → Option (List ℕ) → Option (List ℕ) → Result (Option Image × Option Image) (Refusal Cause)
discs_of kinds disc0 disc1 = disc_of 0 kinds.0 disc0 >>= λ d0. disc_of 1 kinds.1 disc1 >>= λ d1. Ok (d0, d1)
