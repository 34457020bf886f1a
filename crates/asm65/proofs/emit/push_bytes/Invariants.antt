use Rattle.std.proofs.Common.{◌≡◌, ◌++◌, map, false}
use Rattle.std.specs.List.{list_any}
use Rattle.asm65.specs.Source.{value_in, is_out}
use Rattle.asm_lines.specs.Code.{seen_list, length_left}
use Rattle.asm65.specs.CodeLabels.{labels_in}
use Rattle.asm65.proofs.emit.push_bytes.Given as goal

abbrev pub invariant-loop-value : goal.invariant-loop-value
invariant-loop-value l = record {
  so_far : l.bytes.items ++ map (value_in (labels_in l.labels)) (seen_list l.rest)
      ≡ l.fn.bytes.items ++ map (value_in (labels_in l.labels)) (seen_list l.values);
  in_range : list_any (is_out (labels_in l.labels) 256) (seen_list l.rest) ≡ false;
}

abbrev pub decreases-loop-value : goal.decreases-loop-value
decreases-loop-value l = length_left l.rest
