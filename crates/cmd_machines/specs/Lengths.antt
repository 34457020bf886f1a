-- The image that is refused: the first in order whose length is outside its set.
use Rattle.std.specs.Prelude.{◌≡◌, ℕ, ◌==◌, ◌||◌, nat_lt, Bool, not, List, [], ◌∷◌, ◌++◌, map, length, Option, Some, None, option_map, Result, Ok, Err, if◌then◌else◌}
use Rattle.disc_image.specs.declared.Kind.{Kind}
use Rattle.disc_image.specs.Image.{Image, largest}
use Rattle.rom_set.specs.Roms.{Rom, Roms}
use Rattle.host_mach.specs.State as host
use Rattle.para_mach.specs.State as para
use Rattle.cmd_stages.specs.Plan.{Verdict, ◌>>=◌}
use Rattle.cmd_stages.specs.declared.stop.Refusal.{Refusal}
use Rattle.cmd_stages.specs.declared.stop.Refusal.TheVariants as refusals
use Rattle.cmd_status.specs.declared.status.Ending.{Ending}
use Rattle.cmd_status.specs.declared.status.Which.{Which}
use Rattle.cmd_status.specs.declared.status.Which.TheVariants as places
use Rattle.cmd_status.specs.declared.status.Cause.{Cause}
use Rattle.cmd_status.specs.declared.status.Cause.TheVariants.{BadImage}
use Rattle.cmd_machines.specs.Inputs.{Inputs}
use Rattle.cmd_machines.specs.Setup.{Setup}
use Rattle.cmd_machines.specs.Script.{script_of}
use Rattle.cmd_machines.specs.Roms.{roms_of}
use Rattle.cmd_machines.specs.Discs.{discs_of}
use Rattle.cmd_machines.specs.Machines.{rom_of, machines_of}

-- an image: its place, its length, and true if it may have that length
pub record Sized : Type 0 where
  pub place : Which
  pub len : ℕ
  pub fits : Bool

-- the operating system has 16,384 bytes
abbrev pub os_image : List ℕ → Sized
os_image bytes = record { place = places.Os; len = length bytes; fits = length bytes == 16384 }

-- the second processor's boot ROM has 2,048 bytes
abbrev pub tube_image : List ℕ → Sized
tube_image bytes = record { place = places.Tube; len = length bytes; fits = length bytes == 2048 }

-- a paged ROM has 8,192 or 16,384 bytes
abbrev pub rom_image : Rom → Sized
rom_image rom = record { place = places.Rom rom.slot; len = length rom.bytes; fits = length rom.bytes == 8192 || length rom.bytes == 16384 }

-- a font has 960 bytes
abbrev pub font_images : Option (List ℕ) → List Sized
font_images None = []
font_images (Some bytes) = record { place = places.Font; len = length bytes; fits = length bytes == 960 } ∷ []

-- a disc has at most the largest size of its kind
abbrev pub disc_images : ℕ → Kind → Option (List ℕ) → List Sized
disc_images drive kind None = []
disc_images drive kind (Some bytes) = record { place = places.Disc drive; len = length bytes; fits = not (nat_lt (largest kind) (length bytes)) } ∷ []

-- the host's images except the operating system, in the order in which they are read
abbrev pub further_images : Kind × Kind → Inputs → List Sized
further_images kinds i = map rom_image i.roms ++ (font_images i.font ++ (disc_images 0 kinds.0 i.disc0 ++ disc_images 1 kinds.1 i.disc1))

abbrev pub host_images : Kind × Kind → Inputs → List Sized
host_images kinds i = os_image i.os ∷ further_images kinds i

abbrev pub para_images : Inputs → List Sized
para_images i = tube_image i.tube ∷ []

abbrev pub both_images : Kind × Kind → Inputs → List Sized
both_images kinds i = os_image i.os ∷ tube_image i.tube ∷ further_images kinds i

-- the first image in order whose length is outside its set
abbrev pub first_misfit : List Sized → Option Cause
first_misfit [] = None
first_misfit (s ∷ images) = if s.fits then first_misfit images else Some (BadImage s.place s.len)

abbrev pub unless_caused : {A : Type 0} → Option Cause → Result A (Refusal Cause) → Result A (Refusal Cause)
unless_caused None next = next
unless_caused (Some cause) next = Err (refusals.Cause cause)

-- the next step if all of them fit; otherwise the first that does not is refused
abbrev pub if_fit : {A : Type 0} → List Sized → Result A (Refusal Cause) → Result A (Refusal Cause)
if_fit images next = unless_caused (first_misfit images) next

-- a disc, if its image was read
abbrev pub disc_in : Kind → Option (List ℕ) → Option Image
disc_in kind bytes = option_map (λ (b : List ℕ). record { kind = kind; bytes = b }) bytes

abbrev pub roms_in : Inputs → Roms
roms_in i = record { os = i.os; slots = i.roms; font = i.font }

-- The machines of a run, of a replay of the host and of one of the second processor: lengths are
-- tested first, before any next step.
pub record LengthsComeFirst : Type 0 where
  pub both : (set : Setup) (i : Inputs) →
      machines_of set i
      ≡ if_fit (both_images set.kinds i) (script_of i.keys >>= λ script.
      Ok (host.power_on set.clock (roms_in i) (disc_in set.kinds.0 i.disc0) (disc_in set.kinds.1 i.disc1) script set.plugs, para.power_on set.clock i.tube))
  pub host : (kinds : Kind × Kind) (i : Inputs) (next : Roms → Option Image × Option Image → Result (Verdict Ending) (Refusal Cause)) →
      (roms_of (roms_in i) >>= λ roms. discs_of kinds i.disc0 i.disc1 >>= λ discs. next roms discs)
      ≡ if_fit (host_images kinds i) (next (roms_in i) (disc_in kinds.0 i.disc0, disc_in kinds.1 i.disc1))
  pub para : (i : Inputs) (next : List ℕ → Result (Verdict Ending) (Refusal Cause)) →
      (rom_of i.tube >>= next) ≡ if_fit (para_images i) (next i.tube)
