-- The grammar of the words on the command line.
use Rattle.std.specs.Prelude.{ℕ, ◌&&◌, false, List, [], ◌∷◌, Option, Some, None, option_map, option_and_then, if◌then◌else◌, codes}
use Rattle.std.specs.Str.{bytes_eq}
use Rattle.op_table.specs.declared.Part.{Part}
use Rattle.op_table.specs.declared.Part.TheVariants.{Nmos, Cmos}
use Rattle.beeb_bits.specs.declared.Side.{Side}
use Rattle.beeb_bits.specs.declared.Side.TheVariants.{Host, Para}
use Rattle.cmd_words.specs.declared.keys.CommandKind.{CommandKind}
use Rattle.cmd_words.specs.declared.keys.CommandKind.TheVariants as command_set
use Rattle.cmd_words.specs.Keys.{address_of}
use Rattle.cmd_words.specs.Command.{Command, check, asm, dis, replay, solo, run, resume, follow, gen}
use Rattle.cmd_words.specs.Alone.{is_name, alone, two, three, four}
use Rattle.cmd_words.specs.Given.{options_of, keep_of, Values}
use Rattle.digits.specs.Decimal.{decimal_number}

-- the words after `check`: TRACE
abbrev pub check_words : List (List ℕ) → Option Command
check_words (trace ∷ []) = if is_name trace then Some (check trace) else None
check_words words = None

-- PART: `6502` or `65c02`
abbrev pub part_of : List ℕ → Option Part
part_of word = if bytes_eq word (codes "6502") then Some Nmos else if bytes_eq word (codes "65c02") then Some Cmos else None

abbrev pub asm_with : Option Part → List ℕ → List ℕ → Option Command
asm_with None source out = None
asm_with (Some part) source out = if is_name source && is_name out then Some (asm part source out) else None

-- the words after `asm`: PART SOURCE OUT
abbrev pub asm_words : List (List ℕ) → Option Command
asm_words (part ∷ source ∷ out ∷ []) = asm_with (part_of part) source out
asm_words words = None

abbrev pub dis_with : Option Part → List ℕ → Option ℕ → List ℕ → Option Command
dis_with (Some part) image (Some origin) out = if is_name image && is_name out then Some (dis part image origin out) else None
dis_with part image origin out = None

-- the words after `dis`: PART IMAGE ORIGIN OUT; ORIGIN is four upper-case hexadecimal digits
abbrev pub dis_words : List (List ℕ) → Option Command
dis_words (part ∷ image ∷ origin ∷ out ∷ []) = dis_with (part_of part) image (address_of origin) out
dis_words words = None

-- SIDE: `host` or `para`
abbrev pub side_of : List ℕ → Option Side
side_of word = if bytes_eq word (codes "host") then Some Host else if bytes_eq word (codes "para") then Some Para else None

-- host or para, by the side
abbrev pub by_side : CommandKind → CommandKind → Side → CommandKind
by_side host para Host = host
by_side host para Para = para

-- the arguments of `replay` and `follow`: the side, the name of the trace, the ticks, the name of
-- the outputs, and the options
pub record Sided : Type 0 where
  pub side : Side
  pub trace : List ℕ
  pub ticks : ℕ
  pub out : List ℕ
  pub given : Values

abbrev pub sided_given : Side → List ℕ → ℕ → List ℕ → Values → Sided
sided_given side trace ticks out given = record { side = side; trace = trace; ticks = ticks; out = out; given = given }

abbrev pub sided_with : CommandKind → CommandKind → List ℕ → List ℕ → List (List ℕ) → Side → ℕ → Option Sided
sided_with host para trace out words side ticks =
    if is_name trace && is_name out then option_map (sided_given side trace ticks out) (options_of (by_side host para side) words) else None

-- SIDE TRACE TICKS OUT
abbrev pub sided_by : CommandKind → CommandKind → List (List ℕ) → List ℕ × List ℕ × List ℕ × List ℕ → Option Sided
sided_by host para words w =
    option_and_then (λ side. option_and_then (sided_with host para w.1 w.3 words side) (decimal_number 1073741824 w.2)) (side_of w.0)

-- SIDE TRACE TICKS OUT, with options in any place among them; the side chooses the command host or
-- para
abbrev pub sided_words : CommandKind → CommandKind → List (List ℕ) → Option Sided
sided_words host para words = option_and_then (sided_by host para words) (four (alone false words))

-- the words after `replay`
abbrev pub replay_words : List (List ℕ) → Option Command
replay_words words =
    option_map (λ (s : Sided). replay s.side s.trace s.ticks s.out s.given) (sided_words command_set.ReplayHost command_set.ReplayPara words)

-- the words after `follow`
abbrev pub follow_words : List (List ℕ) → Option Command
follow_words words =
    option_map (λ (s : Sided). follow s.side s.trace s.ticks s.out s.given) (sided_words command_set.FollowHost command_set.FollowPara words)

-- the arguments of `solo` and `run`: the ticks, the name of the outputs, the number of accesses to
-- keep, and the options
pub record Both : Type 0 where
  pub ticks : ℕ
  pub out : List ℕ
  pub keep : ℕ
  pub given : Values

abbrev pub both_given : ℕ → List ℕ → Values → Both
both_given ticks out given = record { ticks = ticks; out = out; keep = keep_of given; given = given }

abbrev pub both_with : CommandKind → List ℕ → List (List ℕ) → ℕ → Option Both
both_with command_kind out words ticks = if is_name out then option_map (both_given ticks out) (options_of command_kind words) else None

-- TICKS OUT
abbrev pub both_by : CommandKind → List (List ℕ) → List ℕ × List ℕ → Option Both
both_by command_kind words w = option_and_then (both_with command_kind w.1 words) (decimal_number 1073741824 w.0)

-- the words after `solo` and `run`: TICKS OUT, with options in any place among them
abbrev pub both_words : CommandKind → List (List ℕ) → Option Both
both_words command_kind words = option_and_then (both_by command_kind words) (two (alone false words))

abbrev pub solo_words : List (List ℕ) → Option Command
solo_words words = option_map (λ (b : Both). solo b.ticks b.out b.keep b.given) (both_words command_set.Solo words)

abbrev pub run_words : List (List ℕ) → Option Command
run_words words = option_map (λ (b : Both). run b.ticks b.out b.keep b.given) (both_words command_set.Run words)

-- the command that resumes a session
abbrev pub resume_given : List ℕ → ℕ → List ℕ → Values → Command
resume_given state ticks out given = resume state ticks out (keep_of given) given

abbrev pub resume_with : List ℕ → List ℕ → List (List ℕ) → ℕ → Option Command
resume_with state out words ticks =
    if is_name state && is_name out then option_map (resume_given state ticks out) (options_of command_set.Resume words) else None

-- STATE TICKS OUT
abbrev pub resume_by : List (List ℕ) → List ℕ × List ℕ × List ℕ → Option Command
resume_by words w = option_and_then (resume_with w.0 w.2 words) (decimal_number 1073741824 w.1)

-- the words after `resume`: STATE TICKS OUT, with options in any place among them
abbrev pub resume_words : List (List ℕ) → Option Command
resume_words words = option_and_then (resume_by words) (three (alone false words))

-- the words after `gen`: SEED, below 2^64
abbrev pub gen_words : List (List ℕ) → Option Command
gen_words (seed ∷ []) = option_map gen (decimal_number 18446744073709551615 seed)
gen_words words = None

-- the command that the words spell, if any
unfoldable pub command : List (List ℕ) → Option Command
command [] = None
command (word ∷ words) =
    if bytes_eq word (codes "check") then check_words words
    else if bytes_eq word (codes "asm") then asm_words words
    else if bytes_eq word (codes "dis") then dis_words words
    else if bytes_eq word (codes "replay") then replay_words words
    else if bytes_eq word (codes "solo") then solo_words words
    else if bytes_eq word (codes "run") then run_words words
    else if bytes_eq word (codes "resume") then resume_words words
    else if bytes_eq word (codes "follow") then follow_words words
    else if bytes_eq word (codes "gen") then gen_words words
    else None
