-- A run in a session file: its beginning, and the inputs of a session's machines.
use Rattle.std.specs.Prelude.{◌≡◌, ◌≤◌, ℕ, ◌==◌, Bool, true, false, List, [], ◌∷◌, ◌++◌, length, find, map, take, Option, Some, None, option_map, IfSome, Ok, if◌then◌else◌}
use Rattle.std.specs.List.{range_with_len}
use Rattle.disc_image.specs.declared.Kind.{Kind}
use Rattle.disc_image.specs.declared.Kind.TheVariants.{Ssd, Dsd}
use Rattle.bus_plug.specs.Plug.{Plug}
use Rattle.rom_set.specs.Roms.{Rom}
use Rattle.cmd_words.specs.declared.keys.InputKind.{InputKind}
use Rattle.cmd_words.specs.declared.keys.InputKind.TheVariants.{Os, Tube, Font, Disc, Keys, Trace, Source, Image, State, Points}
use Rattle.cmd_words.specs.declared.keys.InputKind.TheVariants as slots
use Rattle.host_mach.specs.State.{HostState}
use Rattle.para_mach.specs.State.{ParaState}
use Rattle.save_state.specs.Saved.{Session}
use Rattle.save_state.specs.File.{is_dsd, IsSession}
use Rattle.cmd_machines.specs.Inputs.{Inputs, inputs_of}
use Rattle.cmd_machines.specs.Setup.{Setup, setup}
use Rattle.cmd_machines.specs.Machines.{machines_of}

-- the purposes of a session's parts, in order
unfoldable pub part_slots : List InputKind
part_slots = Os ∷ Tube ∷ map slots.Rom (range_with_len 0 16) ++ Font ∷ Disc 0 ∷ Disc 1 ∷ Keys ∷ []

-- the ROM of a slot; if two have the same slot, the first
abbrev pub rom_of_slot : List Rom → ℕ → Option (List ℕ)
rom_of_slot roms slot = option_map (λ (rom : Rom). rom.bytes) (find (λ (rom : Rom). rom.slot == slot) roms)

-- the bytes of a part, if they were read
abbrev pub part_of : Inputs → InputKind → Option (List ℕ)
part_of i Os = Some i.os
part_of i Tube = Some i.tube
part_of i (slots.Rom n) = rom_of_slot i.roms n
part_of i Font = i.font
part_of i (Disc n) = if n == 0 then i.disc0 else i.disc1
part_of i Keys = i.keys
part_of i Trace = None
part_of i Source = None
part_of i Image = None
part_of i State = None
part_of i Points = None

-- true if a disc is present and its kind has two sides
abbrev pub has_two_sides : Kind → Option (List ℕ) → Bool
has_two_sides kind None = false
has_two_sides Ssd (Some bytes) = false
has_two_sides Dsd (Some bytes) = true

-- The beginning of a run: a session of no ticks, with the images, the script and the discs as they
-- were read. Its number of plugged devices is the number asked for.
unfoldable pub begun : Setup → Inputs → Session
begun set i = record {
  clock = set.clock;
  ticks = 0;
  plugs = set.number;
  parts = map (part_of i) part_slots;
  dsd = has_two_sides set.kinds.0 i.disc0 ∷ has_two_sides set.kinds.1 i.disc1 ∷ [];
  entries = [];
}

-- the beginning of a run, if its session is saved under a name
abbrev pub begun_if : Option (List ℕ) → Setup → Inputs → Option Session
begun_if save set i = option_map (λ (name : List ℕ). begun set i) save

-- a part with its purpose, if it is present
abbrev pub if_there : InputKind → Option (List ℕ) → List (InputKind × List ℕ)
if_there slot None = []
if_there slot (Some bytes) = (slot, bytes) ∷ []

-- the parts that are present, each with its purpose
abbrev pub there : List InputKind → List (Option (List ℕ)) → List (InputKind × List ℕ)
there [] parts = []
there (slot ∷ slots) [] = []
there (slot ∷ slots) (part ∷ parts) = if_there slot part ++ there slots parts

-- the inputs of a session's machines
unfoldable pub inputs_in : Session → Inputs
inputs_in s = inputs_of (there part_slots s.parts)

abbrev pub kind_by : Bool → Kind
kind_by false = Ssd
kind_by true = Dsd

-- The setup of a session's machines. The first s.plugs of the given devices are plugged, or all if
-- they are fewer.
unfoldable pub setup_in : Session → List Plug → Setup
setup_in s plugs = setup s.clock (kind_by (is_dsd s 0), kind_by (is_dsd s 1)) s.plugs (take s.plugs plugs) true

-- A run whose machines can be made, and whose script is within a session's limit, begins as a
-- session that keeps the rules.
abbrev pub BegunIsSession : Type 0
BegunIsSession =
    (set : Setup) (i : Inputs) (m : HostState × ParaState) → machines_of set i ≡ Ok m → set.number ≤ 8 →
    IfSome i.keys (λ keys. length keys ≤ 1048576) → IsSession (begun set i)
