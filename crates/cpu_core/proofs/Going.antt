-- A phase that continues is no halt.
use Rattle.std.proofs.Common.{◌<◌, ℕ, arith}
use denote.Enum.Declared.{tag_of}
use Rattle.op_table.specs.declared.names.Part.{Part}
use Rattle.cpu_core.specs.contracts.progress.Phase.{the_type}
use Rattle.cpu_core.specs.declared.progress.Progress.{Progress}
use Rattle.cpu_core.specs.declared.progress.Phase.{Phase}
use Rattle.cpu_core.specs.declared.progress.Phase.TheVariants.{Halted}
use Rattle.cpu_core.specs.CodePhases.{is_stuck}
use Rattle.cpu_core.specs.CodeTies.{GoesOn, StepsWhere, Steps}

steps_in : {part : Part} {m then : Progress} {b : ℕ} (k : Phase) → tag_of the_type k < 60 → GoesOn part m b then → StepsWhere (is_stuck k) part m b then
steps_in Halted low goes_on = absurd (omega arith)
steps_in _ low goes_on = goes_on

-- a phase that is not among the last
pub steps-below : {part : Part} {m then : Progress} {b : ℕ} → GoesOn part m b then → tag_of the_type m.phase < 60 → Steps part m b then
steps-below {m = m} goes_on low = steps_in m.phase low goes_on
