use Rattle.std.proofs.Common.{◌≡◌, ◌<◌, ◌^◌, drop}
use Rattle.digits.specs.Decimal.{decimal_value_after}
use Rattle.digits.proofs.decimal.decimal_value.Given as goal

abbrev pub invariant-loop-b : goal.invariant-loop-b
invariant-loop-b l = record {
  so_far : decimal_value_after 0 l.digits ≡ decimal_value_after l.value (drop l.b-index l.digits);
  bound : l.value < 10 ^ l.b-index;
}
