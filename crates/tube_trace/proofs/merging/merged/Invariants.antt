use Rattle.std.proofs.Common.{◌≡◌, length}
use Rattle.tube_trace.proofs.MergeLemmas.{MergedSoFar}
use Rattle.tube_trace.proofs.merging.merged.Given as goal

abbrev pub invariant-loop : goal.invariant-loop
invariant-loop l = record {
  so_far : MergedSoFar l.fn.host l.fn.para l.keep l.entries.items l.host l.para;
  count : length l.entries.items ≡ l.counter;
}
