-- The program's values, as the definitions see them.
use Rattle.std.specs.Prelude.{ℕ, List, [], Option, map, option_map, option_and_then, slice_get, slice_index_or, string_bytes}
use Rattle.std.specs.Borrow.{Bor}
use Rattle.std.specs.declared.string.String.{String}
use Rattle.std.specs.declared.alloc.Global.{Global}
use Rattle.cmd_words.specs.declared.command.Command.{Command}
use Rattle.cmd_words.specs.declared.command.Command.TheVariants.{Check, Asm, Dis, Replay, Solo, Run, Resume, Follow, Gen}
use Rattle.cmd_words.specs.declared.given.Given.{Given}
use Rattle.cmd_words.specs.declared.keys.Key.{Key}
use Rattle.cmd_words.specs.declared.keys.Value.{Value}
use Rattle.cmd_words.specs.declared.keys.Value.TheVariants.{File, Output, Number, OneOf, FourDigits}
use Rattle.cmd_words.specs.declared.words.Both.{Both}
use Rattle.cmd_words.specs.declared.words.Sided.{Sided}
use Rattle.cmd_words.specs.declared.keys.InputKind.{InputKind}
use Rattle.cmd_words.specs.Command as commands
use Rattle.cmd_words.specs.Given.{Values}
use Rattle.cmd_words.specs.Keys as keys
use Rattle.cmd_words.specs.Words as words

-- the bytes of a word
abbrev pub word_at : List (String Global) → ℕ → List ℕ
word_at words i = slice_index_or (map string_bytes words) i []

-- the word at a place, if there is one
abbrev pub value_of : List (String Global) → Option ℕ → Option (List ℕ)
value_of words at = option_map string_bytes (option_and_then (slice_get words) at)

-- the values of the options
abbrev pub seen_given : Given → Values
seen_given g = map (value_of g.words.now) g.places

abbrev pub seen_command : Command → commands.Command
seen_command (Check trace) = commands.check trace.now
seen_command (Asm part source out) = commands.asm part source.now out.now
seen_command (Dis part image origin out) = commands.dis part image.now origin out.now
seen_command (Replay side trace ticks out given) = commands.replay side trace.now ticks out.now (seen_given given)
seen_command (Solo ticks out keep given) = commands.solo ticks out.now keep (seen_given given)
seen_command (Run ticks out keep given) = commands.run ticks out.now keep (seen_given given)
seen_command (Resume state ticks out keep given) = commands.resume state.now ticks out.now keep (seen_given given)
seen_command (Follow side trace ticks out given) = commands.follow side trace.now ticks out.now (seen_given given)
seen_command (Gen seed) = commands.gen seed

-- a word of a row
abbrev pub seen_word : Bor (List ℕ) → List ℕ
seen_word w = w.now

abbrev pub seen_value : Value → keys.Value
seen_value (File slot) = keys.file slot
seen_value Output = keys.output
seen_value (Number least most) = keys.numeric least most
seen_value (OneOf words) = keys.one_of (map seen_word words.now)
seen_value FourDigits = keys.four_digits

abbrev pub seen_key : Key → keys.Key
seen_key k = keys.key k.word.now k.command_set (seen_value k.value)

-- the slot of a file, its name and its largest size
abbrev pub seen_want : InputKind × Bor (List ℕ) × ℕ → InputKind × List ℕ × ℕ
seen_want w = (w.0, w.1.now, w.2)

abbrev pub seen_sided : Sided → words.Sided
seen_sided s = record { side = s.side; trace = s.trace.now; ticks = s.ticks; out = s.out.now; given = seen_given s.given }

abbrev pub seen_both : Both → words.Both
seen_both b = record { ticks = b.ticks; out = b.out.now; keep = b.keep; given = seen_given b.given }
