-- The files that a command reads.
use Rattle.std.specs.Prelude.{ℕ, ◌+◌, ◌≤◌, ◌&&◌, nat_le, nat_lt, Bool, true, IsTrue, List, [], ◌∷◌, ◌++◌, map, Option, Some, None}
use Rattle.std.specs.List.{filter_map}
use Rattle.cmd_words.specs.declared.keys.InputKind.{InputKind}
use Rattle.cmd_words.specs.declared.keys.InputKind.TheVariants.{Trace, Source, Image, State, Os, Tube, Rom, Font, Disc, Keys, Points}
use Rattle.cmd_words.specs.Keys.{Value, file, output, numeric, one_of, four_digits, Key, keys}
use Rattle.cmd_words.specs.Given.{Values}
use Rattle.cmd_words.specs.Command.{Command, check, asm, dis, replay, solo, run, resume, follow, gen, ticks_of, keep_of}

-- the most bytes of a file that an option names
abbrev pub cap_of : InputKind → ℕ
cap_of Points = 327680
cap_of Trace = 1048576
cap_of Source = 1048576
cap_of Image = 1048576
cap_of State = 1048576
cap_of Os = 1048576
cap_of Tube = 1048576
cap_of (Rom number) = 1048576
cap_of Font = 1048576
cap_of (Disc number) = 1048576
cap_of Keys = 1048576

-- the file that an option names
abbrev pub file_of : Value → Option (List ℕ) → List (InputKind × List ℕ × ℕ)
file_of (file slot) (Some name) = (slot, name, cap_of slot) ∷ []
file_of (file slot) None = []
file_of output given = []
file_of (numeric least most) given = []
file_of (one_of words) given = []
file_of four_digits given = []

-- the files that the options name, in the order of their keys
abbrev pub files_of : List Key → Values → List (InputKind × List ℕ × ℕ)
files_of [] values = []
files_of (k ∷ ks) [] = []
files_of (k ∷ ks) (v ∷ vs) = file_of k.value v ++ files_of ks vs

-- The files that a command reads, in order: the slot, the name and the largest size of each.
abbrev pub reads : Command → List (InputKind × List ℕ × ℕ)
reads (check trace) = (Trace, trace, 100663296) ∷ []
reads (asm part source out) = (Source, source, 4194304) ∷ []
reads (dis part image origin out) = (Image, image, 1048576) ∷ []
reads (replay side trace ticks out given) = (Trace, trace, 100663296) ∷ files_of keys given
reads (solo ticks out keep given) = files_of keys given
reads (run ticks out keep given) = files_of keys given
reads (resume state ticks out keep given) = (State, state, 33554432) ∷ []
reads (follow side trace ticks out given) = (Trace, trace, 100663296) ∷ files_of keys given
reads (gen seed) = []

-- the number of a paged ROM's slot
abbrev pub rom_slot : InputKind → Option ℕ
rom_slot (Rom number) = Some number
rom_slot Trace = None
rom_slot Source = None
rom_slot Image = None
rom_slot State = None
rom_slot Os = None
rom_slot Tube = None
rom_slot Font = None
rom_slot (Disc number) = None
rom_slot Keys = None
rom_slot Points = None

-- the numbers of a command are within their limits
abbrev pub IsLimited : Command → Type 0
IsLimited c = (ticks_of c ≤ 1073741824) × (keep_of c ≤ 4194304)

-- true if the numbers rise, from low on, and are below 16
abbrev pub rise_from : ℕ → List ℕ → Bool
rise_from low [] = true
rise_from low (n ∷ ns) = nat_le low n && nat_lt n 16 && rise_from (n + 1) ns

-- the paged ROMs among the files have different slots below 16
abbrev pub HaveRomSlots : List InputKind → Type 0
HaveRomSlots slots = IsTrue (rise_from 0 (filter_map rom_slot slots))

-- the numbers of a command and its ROM slots are within their limits
pub record IsWithin (c : Command) : Type 0 where
  pub ticks : ticks_of c ≤ 1073741824
  pub keep : keep_of c ≤ 4194304
  pub roms : HaveRomSlots (map (λ w. w.0) (reads c))
