use Rattle.std.proofs.Common.{◌≡◌}
use Rattle.std.specs.List.{list_any}
use Rattle.asm65.specs.Source.{is_out}
use Rattle.asm_lines.specs.Code.{seen_list, length_left}
use Rattle.asm65.specs.CodeLabels.{labels_in}
use Rattle.asm65.proofs.encode.any_out.Given as goal

abbrev pub invariant-loop-value : goal.invariant-loop-value
invariant-loop-value l =
    list_any (is_out (labels_in l.labels) l.limit) (seen_list l.values) ≡ list_any (is_out (labels_in l.labels) l.limit) (seen_list l.rest)

abbrev pub decreases-loop-value : goal.decreases-loop-value
decreases-loop-value l = length_left l.rest
