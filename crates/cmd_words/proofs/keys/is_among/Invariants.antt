use Rattle.std.proofs.Common.{◌≡◌, map, drop}
use Rattle.cmd_words.specs.Keys.{is_among}
use Rattle.cmd_words.specs.View.{seen_word}
use Rattle.cmd_words.proofs.keys.is_among.Given as goal

abbrev pub invariant-loop-one : goal.invariant-loop-one
invariant-loop-one l = is_among (map seen_word l.words) l.word ≡ is_among (map seen_word (drop l.one-index l.words)) l.word
