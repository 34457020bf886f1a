use Rattle.std.proofs.Common.{◌≡◌, ◌+◌, ◌*◌, ◌≤◌, ◌^◌, drop}
use Rattle.tube_trace.proofs.HexTables.{sum_after}
use Rattle.tube_trace.proofs.hex.number.Given as goal

abbrev pub invariant-loop-b : goal.invariant-loop-b
invariant-loop-b l = record {
  so_far : sum_after 0 l.digits ≡ sum_after l.number (drop l.b-index l.digits);
  bound : l.number + 1048576 ≤ 1048576 * 16 ^ l.b-index;
}
