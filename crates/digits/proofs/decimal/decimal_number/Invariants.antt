use Rattle.std.proofs.Common.{◌≡◌, ◌≤◌, drop}
use Rattle.digits.specs.Decimal.{decimal_value_after}
use Rattle.digits.proofs.decimal.decimal_number.Given as goal

abbrev pub invariant-loop-b : goal.invariant-loop-b
invariant-loop-b l = record {
  so_far : decimal_value_after 0 l.text ≡ decimal_value_after l.number (drop l.b-index l.text);
  bound : l.number ≤ l.most;
}
