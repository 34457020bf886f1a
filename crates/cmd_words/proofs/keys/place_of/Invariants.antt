use Rattle.std.proofs.Common.{◌≡◌, ◌+◌, drop, option_map}
use Rattle.cmd_words.specs.Keys.{keys, place_in}
use Rattle.cmd_words.proofs.keys.place_of.Given as goal

abbrev pub invariant-loop-i : goal.invariant-loop-i
invariant-loop-i l = place_in keys l.word ≡ option_map (λ p. p + l.i) (place_in (drop l.i keys) l.word)
