use Rattle.std.proofs.Common.{◌≡◌, nat_lt}
use Rattle.std.specs.List.{list_any}
use Rattle.asm65.specs.Placement.{values_numbers}
use Rattle.asm_lines.specs.Code.{seen_list, length_left}
use Rattle.asm65.proofs.placement.any_large_number.Given as goal

abbrev pub invariant-loop-value : goal.invariant-loop-value
invariant-loop-value l =
    list_any (λ n. nat_lt 65535 n) (values_numbers (seen_list l.values)) ≡ list_any (λ n. nat_lt 65535 n) (values_numbers (seen_list l.rest))

abbrev pub decreases-loop-value : goal.decreases-loop-value
decreases-loop-value l = length_left l.rest
