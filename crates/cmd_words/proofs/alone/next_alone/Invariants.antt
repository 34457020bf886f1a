use Rattle.std.proofs.Common.{◌≡◌, map, drop, string_bytes, false}
use Rattle.cmd_words.specs.Alone.{alone}
use Rattle.cmd_words.proofs.alone.next_alone.Given as goal

abbrev pub invariant-loop-i : goal.invariant-loop-i
invariant-loop-i l = alone false (map string_bytes l.words) ≡ alone l.skip (map string_bytes (drop l.i l.words))
