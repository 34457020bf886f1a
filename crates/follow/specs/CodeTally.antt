-- The counts as the code updates them, start by start.
use Rattle.std.specs.Prelude.{ℕ, ◌≡◌, ◌+◌, ◌-◌, ◌^◌, ◌||◌, min, List, [], ◌∷◌, ◌++◌, replicate}
use Rattle.std.specs.Prelude.{slice_index_or, slice_set, Bool, true, false, Option, None, Some, IsSomeAnd, if◌then◌else◌}
use Rattle.follow.specs.declared.count.Count.{Count}
use Rattle.follow.specs.declared.tally.Last.{Last}
use Rattle.follow.specs.declared.tally.Tally.{Tally}
use Rattle.follow.specs.Start.{StartState}
use Rattle.follow.specs.Counts.{condition_at, is_branch, is_taken, count_line}

-- the counts of each address, and the last start, whose ticks the table does not contain yet
pub record Tallied : Type 0 where
  pub table : List Count
  pub last : Option Last

abbrev pub tallied : List Count → Option Last → Tallied
tallied table last = record { table = table; last = last }

abbrev pub tally_seen : Tally → Tallied
tally_seen t = tallied t.table.items t.last

abbrev pub no_count : Count
no_count = record { starts = 0; ticks = 0; branches = false; taken = 0 }

-- the counts before the first start
unfoldable pub none_counted : List Count
none_counted = replicate 65536 no_count

abbrev pub none_tallied : Tallied
none_tallied = tallied none_counted None

-- Sums saturate at the largest number of 64 bits. No run reaches it.
abbrev pub sum_of : ℕ → ℕ → ℕ
sum_of a b = min (a + b) (2 ^ 64 - 1)

abbrev pub with_ticks : Count → ℕ → Count
with_ticks c ticks = record { starts = c.starts; ticks = sum_of c.ticks ticks; branches = c.branches; taken = c.taken }

abbrev pub with_start : Count → Option Bool → Count
with_start c holds = record {
  starts = sum_of c.starts 1;
  ticks = c.ticks;
  branches = c.branches || is_branch holds;
  taken = sum_of c.taken (if is_taken holds then 1 else 0);
}

-- the table after the last start has ended at tick `tick`
abbrev pub ended_at : List Count → Option Last → ℕ → List Count
ended_at table None tick = table
ended_at table (Some last) tick = slice_set table last.pc (with_ticks (slice_index_or table last.pc no_count) (tick - last.tick))

-- the table after start `s` was counted, and the counts after it
abbrev pub begun_at : List Count → StartState → List Count
begun_at table s = slice_set table s.regs.pc (with_start (slice_index_or table s.regs.pc no_count) (condition_at s.code s.regs))

abbrev pub last_of : StartState → Last
last_of s = record { pc = s.regs.pc; tick = s.tick }

abbrev pub tally : Tallied → StartState → Tallied
tally t s = tallied (begun_at (ended_at t.table t.last s.tick) s) (Some (last_of s))

abbrev pub tally_all : Tallied → List StartState → Tallied
tally_all t [] = t
tally_all t (s ∷ starts) = tally_all (tally t s) starts

-- the lines of a table whose first entry is that of address `pc`
abbrev pub table_lines : ℕ → List Count → List ℕ
table_lines pc [] = []
table_lines pc (c ∷ table) = count_line pc c ++ table_lines (pc + 1) table

-- the text of the counts if the run ends at tick `n`
abbrev pub tallied_text : ℕ → Tallied → List ℕ
tallied_text n t = table_lines 0 (ended_at t.table t.last n)

-- If counts are requested, `t` has the counts of these starts.
abbrev pub IsTallied : Bool → Option Tally → List StartState → Type 0
IsTallied counts t starts = counts ≡ true → IsSomeAnd t (λ t. tally_seen t ≡ tally_all none_tallied starts)

abbrev pub text_if : Bool → ℕ → List StartState → Option (List ℕ)
text_if counts n starts = if counts then Some (tallied_text n (tally_all none_tallied starts)) else None
