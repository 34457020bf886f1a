use Rattle.std.proofs.Common.{◌≡◌, ◌<◌, ◌^◌, drop}
use Rattle.digits.specs.Hexadecimal.{hex_number_after}
use Rattle.digits.proofs.hexadecimal.hex_number.Given as goal

abbrev pub invariant-loop-b : goal.invariant-loop-b
invariant-loop-b l = record {
  so_far : hex_number_after 0 l.digits ≡ hex_number_after l.number (drop l.b-index l.digits);
  bound : l.number < 16 ^ l.b-index;
}
