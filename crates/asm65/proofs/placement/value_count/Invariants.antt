use Rattle.std.proofs.Common.{◌≡◌, ◌+◌, ◌≤◌, length}
use Rattle.asm_lines.specs.Code.{seen_list, length_left}
use Rattle.asm65.proofs.placement.value_count.Given as goal

abbrev pub invariant-loop-others : goal.invariant-loop-others
invariant-loop-others l = record {
  so_far : length (seen_list l.values) ≡ l.count + length (seen_list l.rest);
  few : l.count ≤ 65536;
}

abbrev pub decreases-loop-others : goal.decreases-loop-others
decreases-loop-others l = length_left l.rest
