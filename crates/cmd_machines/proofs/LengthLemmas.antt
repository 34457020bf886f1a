-- The first image in order whose length is outside its set.
use Rattle.std.proofs.Common.{◌≡◌, ◌∙◌, refl, ℕ, ◌==◌, nat_lt, Bool, true, false, not, List, [], ◌∷◌, ◌++◌, map, length, find, Option, Some, None, Result, Ok, Err, if◌then◌else◌}
use Rattle.std.specs.Option.{option_or}
use Rattle.disc_image.specs.declared.Kind.{Kind}
use Rattle.disc_image.specs.Image.{Image, largest}
use Rattle.rom_set.specs.Roms.{Rom, Roms, fits, bad_slot, bad_font}
use Rattle.rom_set.specs.declared.RomError.{RomError}
use Rattle.rom_set.specs.declared.RomError.TheVariants.{BadFont}
use Rattle.host_mach.specs.State as host
use Rattle.para_mach.specs.State as para
use Rattle.cmd_stages.specs.Plan.{◌>>=◌}
use Rattle.cmd_stages.specs.declared.stop.Refusal.{Refusal}
use Rattle.cmd_stages.specs.declared.stop.Refusal.TheVariants as refusals
use Rattle.cmd_status.specs.declared.status.Which.TheVariants as places
use Rattle.cmd_status.specs.declared.status.Cause.{Cause}
use Rattle.cmd_status.specs.declared.status.Cause.TheVariants.{BadImage}
use Rattle.cmd_machines.specs.Inputs.{Inputs}
use Rattle.cmd_machines.specs.Script.{script_of}
use Rattle.cmd_machines.specs.Roms.{unless_refused, roms_of}
use Rattle.cmd_machines.specs.Discs.{disc_of, discs_of}
use Rattle.cmd_machines.specs.Machines.{rom_of, os_of, machines_of}
use Rattle.cmd_machines.specs.Lengths.{Sized, rom_image, font_images, disc_images, further_images, host_images, first_misfit, unless_caused, if_fit, disc_in, roms_in, LengthsComeFirst}

module _ {A B : Type 0} where
  -- one test, and the next step
  step : (b : Bool) (x : A) (cause : Cause) (f : A → Result B (Refusal Cause)) (m : Option Cause) (next : Result B (Refusal Cause)) →
      (b ≡ true → f x ≡ unless_caused m next) →
      ((if b then Ok x else Err (refusals.Cause cause)) >>= f) ≡ unless_caused (if b then m else Some cause) next
  step true x cause f m next go = go refl
  step false x cause f m next go = refl

  -- one test for a length that is too large
  step_not : (b : Bool) (x : A) (cause : Cause) (f : A → Result B (Refusal Cause)) (m : Option Cause) (next : Result B (Refusal Cause)) →
      f x ≡ unless_caused m next →
      ((if b then Err (refusals.Cause cause) else Ok x) >>= f) ≡ unless_caused (if not b then m else Some cause) next
  step_not true x cause f m next go = refl
  step_not false x cause f m next go = go

module _ {B : Type 0} (roms : Roms) (f : Roms → Result B (Refusal Cause)) (next : Result B (Refusal Cause)) where
  one_slot : (b : Bool) (r : Rom) (found : Option Rom) (e : Option RomError) (m : Option Cause) →
      (unless_refused (option_or (bad_slot found) e) roms >>= f) ≡ unless_caused m next →
      (unless_refused (option_or (bad_slot (if not b then Some r else found)) e) roms >>= f)
      ≡ unless_caused (if b then m else Some (BadImage (places.Rom r.slot) (length r.bytes))) next
  one_slot true r found e m go = go
  one_slot false r found e m go = refl

  -- the paged ROMs, and the refusals after them
  slots : (rs : List Rom) (e : Option RomError) (images : List Sized) → (unless_refused e roms >>= f) ≡ if_fit images next →
      (unless_refused (option_or (bad_slot (find (λ rom. not (fits rom)) rs)) e) roms >>= f) ≡ if_fit (map rom_image rs ++ images) next
  slots [] e images go = go
  slots (r ∷ rs) e images go = one_slot (fits r) r (find (λ rom. not (fits rom)) rs) e (first_misfit (map rom_image rs ++ images)) (slots rs e images go)

  font_by : (b : Bool) (bytes : List ℕ) (images : List Sized) → f roms ≡ if_fit images next →
      (unless_refused (if b then None else Some (BadFont (length bytes))) roms >>= f)
      ≡ unless_caused (if b then first_misfit images else Some (BadImage places.Font (length bytes))) next
  font_by true bytes images go = go
  font_by false bytes images go = refl

  font : (o : Option (List ℕ)) (images : List Sized) → f roms ≡ if_fit images next → (unless_refused (bad_font o) roms >>= f) ≡ if_fit (font_images o ++ images) next
  font None images go = go
  font (Some bytes) images go = font_by (length bytes == 960) bytes images go

module _ {B : Type 0} (next : Result B (Refusal Cause)) where
  disc : (drive : ℕ) (kind : Kind) (bytes : Option (List ℕ)) (f : Option Image → Result B (Refusal Cause)) (images : List Sized) →
      f (disc_in kind bytes) ≡ if_fit images next → (disc_of drive kind bytes >>= f) ≡ if_fit (disc_images drive kind bytes ++ images) next
  unfolding disc_of
  disc drive kind None f images go = go
  disc drive kind (Some bytes) f images go =
      step_not (nat_lt (largest kind) (length bytes)) _ _ f (first_misfit images) next go

-- the last disc, after which nothing is tested
disc_last : {B : Type 0} (kind : Kind) (bytes : Option (List ℕ)) (f : Option Image → Result B (Refusal Cause)) (next : Result B (Refusal Cause)) →
    f (disc_in kind bytes) ≡ next → (disc_of 1 kind bytes >>= f) ≡ if_fit (disc_images 1 kind bytes) next
unfolding disc_of
disc_last kind None f next go = go
disc_last kind (Some bytes) f next go = step_not (nat_lt (largest kind) (length bytes)) _ _ f None next go

bound : {A B C : Type 0} (r : Result A (Refusal Cause)) (f : A → Result B (Refusal Cause)) (g : B → Result C (Refusal Cause)) →
    ((r >>= f) >>= g) ≡ (r >>= λ x. f x >>= g)
bound (Ok x) f g = refl
bound (Err e) f g = refl

discs : {B : Type 0} (kinds : Kind × Kind) (disc0 disc1 : Option (List ℕ)) (f : Option Image × Option Image → Result B (Refusal Cause)) (next : Result B (Refusal Cause)) →
    f (disc_in kinds.0 disc0, disc_in kinds.1 disc1) ≡ next →
    (discs_of kinds disc0 disc1 >>= f) ≡ if_fit (disc_images 0 kinds.0 disc0 ++ disc_images 1 kinds.1 disc1) next
unfolding discs_of
discs kinds disc0 disc1 f next go =
    bound (disc_of 0 kinds.0 disc0) _ f
    ∙ disc next 0 kinds.0 disc0 _ (disc_images 1 kinds.1 disc1)
    (bound (disc_of 1 kinds.1 disc1) _ f ∙ disc_last kinds.1 disc1 (λ d1. f (disc_in kinds.0 disc0, d1)) next go)

-- the paged ROMs, the font and the discs, if the operating system fits
further : {B : Type 0} (kinds : Kind × Kind) (i : Inputs) (f : Roms → Option Image × Option Image → Result B (Refusal Cause)) (next : Result B (Refusal Cause)) →
    (length i.os == 16384) ≡ true → f (roms_in i) (disc_in kinds.0 i.disc0, disc_in kinds.1 i.disc1) ≡ next →
    (roms_of (roms_in i) >>= λ roms. discs_of kinds i.disc0 i.disc1 >>= f roms) ≡ if_fit (further_images kinds i) next
unfolding roms_of
further kinds i f next os go =
    rw os (slots (roms_in i) (λ roms. discs_of kinds i.disc0 i.disc1 >>= f roms) next i.roms (bad_font i.font) _
    (font (roms_in i) (λ roms. discs_of kinds i.disc0 i.disc1 >>= f roms) next i.font _ (discs kinds i.disc0 i.disc1 (f (roms_in i)) next go)))

-- an operating system of another length is refused before all others
os_misfit : {B : Type 0} (i : Inputs) (f : Roms → Result B (Refusal Cause)) → (length i.os == 16384) ≡ false →
    (roms_of (roms_in i) >>= f) ≡ Err (refusals.Cause (BadImage places.Os (length i.os)))
unfolding roms_of
os_misfit i f os = rw os refl

by_os : {B : Type 0} (b : Bool) (kinds : Kind × Kind) (i : Inputs) (f : Roms → Option Image × Option Image → Result B (Refusal Cause)) → (length i.os == 16384) ≡ b →
    (roms_of (roms_in i) >>= λ roms. discs_of kinds i.disc0 i.disc1 >>= f roms)
    ≡ unless_caused (if b then first_misfit (further_images kinds i) else Some (BadImage places.Os (length i.os))) (f (roms_in i) (disc_in kinds.0 i.disc0, disc_in kinds.1 i.disc1))
by_os true kinds i f os = further kinds i f _ os refl
by_os false kinds i f os = os_misfit i _ os

from_os : {B : Type 0} (kinds : Kind × Kind) (i : Inputs) (f : Roms → Option Image × Option Image → Result B (Refusal Cause)) →
    (roms_of (roms_in i) >>= λ roms. discs_of kinds i.disc0 i.disc1 >>= f roms)
    ≡ if_fit (host_images kinds i) (f (roms_in i) (disc_in kinds.0 i.disc0, disc_in kinds.1 i.disc1))
from_os kinds i f = by_os (length i.os == 16384) kinds i f refl

pub lengths_come_first : LengthsComeFirst
unfolding machines_of os_of rom_of
lengths_come_first = record {
  both = λ set i.
      step (length i.os == 16384) i.os _ _ _ _ (λ os.
      step (length i.tube == 2048) i.tube _ _ _ _ (λ tube.
      further set.kinds i (λ roms discs. script_of i.keys >>= λ script. Ok (host.power_on set.clock roms discs.0 discs.1 script set.plugs, para.power_on set.clock i.tube)) _ os refl));
  host = λ kinds i next. from_os kinds i next;
  para = λ i next. step (length i.tube == 2048) i.tube _ next None _ (λ fit. refl);
}
