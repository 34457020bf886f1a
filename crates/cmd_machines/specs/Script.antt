-- The key script that a command reads, if one is given.
use Rattle.std.specs.Prelude.{ℕ, List, [], Option, Some, None, Result, Ok}
use Rattle.key_script.specs.declared.Event.{Event}
use Rattle.key_script.specs.declared.ScriptError.{ScriptError}
use Rattle.key_script.specs.declared.ScriptError.TheVariants as script_errors
use Rattle.key_script.specs.Text.{script}
use Rattle.cmd_stages.specs.Plan.{or_refusal}
use Rattle.cmd_stages.specs.declared.stop.Refusal.{Refusal}
use Rattle.cmd_stages.specs.declared.stop.Refusal.TheVariants as refusals
use Rattle.cmd_status.specs.declared.status.Cause.{Cause}
use Rattle.cmd_status.specs.declared.status.Cause.TheVariants.{BadScript}

-- the refusal for an error in a script
abbrev pub script_refusal : ScriptError → Refusal Cause
script_refusal (script_errors.BadLine line) = refusals.Cause (BadScript line 1)
script_refusal (script_errors.BadOrder line) = refusals.Cause (BadScript line 2)
script_refusal (script_errors.TooManyShots line) = refusals.Cause (BadScript line 3)
script_refusal script_errors.NoMemory = refusals.NoMemory

-- the events of a script, none if there is no script
unfoldable pub script_of : Option (List ℕ) → Result (List Event) (Refusal Cause)
script_of None = Ok []
script_of (Some bytes) = or_refusal script_refusal (script bytes)
