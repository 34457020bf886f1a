-- The bytes that a command read, by their purpose.
use Rattle.std.specs.Prelude.{ℕ, ◌==◌, List, [], ◌∷◌, ◌++◌, Option, Some, None, if◌then◌else◌}
use Rattle.cmd_words.specs.declared.keys.InputKind.{InputKind}
use Rattle.cmd_words.specs.declared.keys.InputKind.TheVariants.{Trace, Source, Image, State, Os, Tube, Font, Disc, Keys, Points}
use Rattle.cmd_words.specs.declared.keys.InputKind.TheVariants as slots
use Rattle.rom_set.specs.Roms.{Rom}

-- A required field is empty if its file wasn't read.
pub record Inputs : Type 0 where
  pub trace : List ℕ
  pub source : List ℕ
  pub image : List ℕ
  -- a session file
  pub state : List ℕ
  pub os : List ℕ
  pub tube : List ℕ
  -- the paged ROMs
  pub roms : List Rom
  pub font : Option (List ℕ)
  pub disc0 : Option (List ℕ)
  pub disc1 : Option (List ℕ)
  pub keys : Option (List ℕ)
  -- the addresses whose instructions are listed
  pub points : Option (List ℕ)

abbrev pub no_inputs : Inputs
no_inputs = record {
  trace = [];
  source = [];
  image = [];
  state = [];
  os = [];
  tube = [];
  roms = [];
  font = None;
  disc0 = None;
  disc1 = None;
  keys = None;
  points = None;
}

abbrev pub with_input : InputKind → List ℕ → Inputs → Inputs
with_input Trace bytes i = record i { trace = bytes }
with_input Source bytes i = record i { source = bytes }
with_input Image bytes i = record i { image = bytes }
with_input State bytes i = record i { state = bytes }
with_input Os bytes i = record i { os = bytes }
with_input Tube bytes i = record i { tube = bytes }
with_input (slots.Rom n) bytes i = record i { roms = i.roms ++ record { slot = n; bytes = bytes } ∷ [] }
with_input Font bytes i = record i { font = Some bytes }
with_input (Disc n) bytes i = if n == 0 then record i { disc0 = Some bytes } else record i { disc1 = Some bytes }
with_input Keys bytes i = record i { keys = Some bytes }
with_input Points bytes i = record i { points = Some bytes }

abbrev pub with_inputs : List (InputKind × List ℕ) → Inputs → Inputs
with_inputs [] i = i
with_inputs (one ∷ more) i = with_inputs more (with_input one.0 one.1 i)

unfoldable pub inputs_of : List (InputKind × List ℕ) → Inputs
inputs_of list = with_inputs list no_inputs
