use Rattle.std.proofs.Common.{◌≡◌, ◌++◌, map, drop}
use Rattle.cmd_words.specs.Keys.{keys}
use Rattle.cmd_words.specs.Reads.{files_of}
use Rattle.cmd_words.specs.View.{seen_given, seen_want}
use Rattle.cmd_words.proofs.files.with_options.Given as goal

abbrev pub invariant-loop-i : goal.invariant-loop-i
invariant-loop-i l =
    map seen_want l.wants.items ++ files_of (drop l.i keys) (drop l.i (seen_given l.given)) ≡ map seen_want l.fn.files.items ++ files_of keys (seen_given l.given)
