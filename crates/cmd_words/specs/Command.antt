-- The commands that words can spell.
use Rattle.std.specs.Prelude.{ℕ, Bool, true, false, List}
use Rattle.op_table.specs.declared.Part.{Part}
use Rattle.beeb_bits.specs.declared.Side.{Side}
use Rattle.cmd_words.specs.Given.{Values}

-- Names are lists of bytes.
pub data Command : Type 0 where
  -- `check TRACE`
  check : (trace : List ℕ) → Command
  -- `asm PART SOURCE OUT`
  asm : (part : Part) (source : List ℕ) (out : List ℕ) → Command
  -- `dis PART IMAGE ORIGIN OUT`
  dis : (part : Part) (image : List ℕ) (origin : ℕ) (out : List ℕ) → Command
  -- `replay SIDE TRACE TICKS OUT` and options
  replay : (side : Side) (trace : List ℕ) (ticks : ℕ) (out : List ℕ) (given : Values) → Command
  -- `solo TICKS OUT` and options, with the number of accesses to keep
  solo : (ticks : ℕ) (out : List ℕ) (keep : ℕ) (given : Values) → Command
  -- `run TICKS OUT` and options, with the number of accesses to keep
  run : (ticks : ℕ) (out : List ℕ) (keep : ℕ) (given : Values) → Command
  -- `resume STATE TICKS OUT` and options, with the number of accesses to keep
  resume : (state : List ℕ) (ticks : ℕ) (out : List ℕ) (keep : ℕ) (given : Values) → Command
  -- `follow SIDE TRACE TICKS OUT` and options
  follow : (side : Side) (trace : List ℕ) (ticks : ℕ) (out : List ℕ) (given : Values) → Command
  -- `gen SEED`
  gen : (seed : ℕ) → Command

-- the ticks of a command's run
abbrev pub ticks_of : Command → ℕ
ticks_of (replay side trace ticks out given) = ticks
ticks_of (solo ticks out keep given) = ticks
ticks_of (run ticks out keep given) = ticks
ticks_of (resume state ticks out keep given) = ticks
ticks_of (follow side trace ticks out given) = ticks
ticks_of (gen seed) = 1000000
ticks_of (check trace) = 0
ticks_of (asm part source out) = 0
ticks_of (dis part image origin out) = 0

-- the most accesses that a command keeps
abbrev pub keep_of : Command → ℕ
keep_of (solo ticks out keep given) = keep
keep_of (run ticks out keep given) = keep
keep_of (resume state ticks out keep given) = keep
keep_of (replay side trace ticks out given) = 0
keep_of (follow side trace ticks out given) = 0
keep_of (gen seed) = 0
keep_of (check trace) = 0
keep_of (asm part source out) = 0
keep_of (dis part image origin out) = 0

-- true if a crew works a pair of jobs for the command
abbrev pub is_paired : Command → Bool
is_paired (run ticks out keep given) = true
is_paired (replay side trace ticks out given) = false
is_paired (solo ticks out keep given) = false
is_paired (resume state ticks out keep given) = false
is_paired (follow side trace ticks out given) = false
is_paired (gen seed) = false
is_paired (check trace) = false
is_paired (asm part source out) = false
is_paired (dis part image origin out) = false
