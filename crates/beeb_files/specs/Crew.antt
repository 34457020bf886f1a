-- The counts of a crew.
use Rattle.std.specs.Prelude.{ℕ, ◌≤◌}
use Rattle.beeb_files.specs.Counts.{one_more}

-- the faults, and the pairs of jobs that were worked
pub record Counts : Type 0 where
  pub faults : ℕ
  pub pairs : ℕ

abbrev pub no_counts : Counts
no_counts = record { faults = 0; pairs = 0 }

-- one more fault, up to the last value
abbrev pub with_fault : Counts → Counts
with_fault c = record c { faults = one_more c.faults }

-- one more pair worked
abbrev pub with_pair : Counts → Counts
with_pair c = record c { pairs = one_more c.pairs }

-- neither count fell
abbrev pub Grows : Counts → Counts → Type 0
Grows before now = (before.faults ≤ now.faults) × (before.pairs ≤ now.pairs)
