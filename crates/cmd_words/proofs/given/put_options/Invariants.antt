use Rattle.std.proofs.Common.{◌≡◌, map, drop, string_bytes, None, false, option_copied}
use Rattle.std.specs.Option.{is_some}
use Rattle.cmd_words.specs.Given.{options, is_closed, put_options, no_values}
use Rattle.cmd_words.specs.View.{seen_given}
use Rattle.cmd_words.proofs.given.put_options.Given as goal

abbrev pub invariant-loop-i : goal.invariant-loop-i
invariant-loop-i l =
    (l.given.words.now ≡ l.words)
    × (is_closed false (map string_bytes l.words) ≡ is_closed (is_some l.key) (map string_bytes (drop l.i l.words)))
    × (put_options l.command_kind (options None (map string_bytes l.words)) no_values
    ≡ put_options l.command_kind (options (option_copied l.key) (map string_bytes (drop l.i l.words))) (seen_given l.given))
