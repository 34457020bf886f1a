-- The beginning of a run keeps the rules of a session, if its machines can be made.
use Rattle.std.proofs.Common.{◌≡◌, ◌∙◌, sym, refl, ℕ, ◌≤◌, true, List, [], ◌∷◌, ◌++◌, length, map, replicate, zero, suc, ◌+◌}
use Rattle.std.proofs.Common.{Option, Some, None, option_map, IfSome, Result, Ok, arith}
use Rattle.std.proofs.lemmas.List.Elements.{All-nil}
use Rattle.std.proofs.lemmas.Bool.Decides.{nat_tests}
use Rattle.disc_image.specs.declared.Kind.{Kind}
use Rattle.std.specs.List.{range_with_len}
use Rattle.rom_set.specs.Roms.{Rom}
use Rattle.cmd_words.specs.declared.keys.InputKind.TheVariants as slots
use Rattle.save_state.specs.declared.Kind.TheVariants as parts
use Rattle.save_state.specs.File.{ArePartsOf, IsPart, IsDisc, IsSession}
use Rattle.cmd_stages.specs.declared.stop.Refusal.{Refusal}
use Rattle.cmd_status.specs.declared.status.Cause.{Cause}
use Rattle.std.specs.declared.vec.Vec.{Vec}
use Rattle.std.specs.declared.alloc.Global.{Global}
use Rattle.host_mach.specs.State.{HostState}
use Rattle.para_mach.specs.State.{ParaState}
use Rattle.cmd_machines.specs.View.{items}
use Rattle.cmd_machines.specs.Inputs.{Inputs}
use Rattle.cmd_machines.specs.Setup.{Setup}
use Rattle.cmd_machines.specs.Machines.{machines_of}
use Rattle.cmd_machines.specs.Lengths.{Sized, os_image, tube_image, rom_image, font_images, disc_images, further_images, both_images, first_misfit, unless_caused}
use Rattle.save_state.specs.declared.Saved.{Saved}
use Rattle.save_state.specs.Saved.{session}
use Rattle.cmd_machines.specs.Sessions.{part_slots, part_of, rom_of_slot, has_two_sides, begun, begun_if, BegunIsSession}
use Rattle.cmd_machines.proofs.LengthLemmas.{lengths_come_first}

none_caused : {A : Type 0} (o : Option Cause) (next : Result A (Refusal Cause)) (x : A) → unless_caused o next ≡ Ok x → o ≡ None
none_caused None next x is = refl
none_caused (Some cause) next x is = cc

fits_first : (s : Sized) (images : List Sized) → first_misfit (s ∷ images) ≡ None → (s.fits ≡ true) × (first_misfit images ≡ None)
fits_first s images is = grind arith

fit_both : (xs ys : List Sized) → first_misfit (xs ++ ys) ≡ None → (first_misfit xs ≡ None) × (first_misfit ys ≡ None)
fit_both [] ys is = (refl, is)
fit_both (x ∷ xs) ys is = grind (arith, fit_both xs ys)

slot_fits : (roms : List Rom) (n : ℕ) → first_misfit (map rom_image roms) ≡ None → IsPart parts.Rom (rom_of_slot roms n)
slot_fits [] n is = refl
slot_fits (r ∷ roms) n is = let head = fits_first (rom_image r) (map rom_image roms) is in grind (arith, slot_fits roms n head.1)

font_fits : (font : Option (List ℕ)) → first_misfit (font_images font) ≡ None → IsPart parts.Font font
font_fits None is = refl
font_fits (Some bytes) is = (fits_first _ [] is).0

disc_fits : (drive : ℕ) (kind : Kind) (disc : Option (List ℕ)) → first_misfit (disc_images drive kind disc) ≡ None → IsDisc disc (has_two_sides kind disc)
disc_fits drive kind None is = refl
disc_fits drive kind (Some bytes) is = grind (arith, nat_tests)

keys_fit : (keys : Option (List ℕ)) → IfSome keys (λ bytes. length bytes ≤ 1048576) → IsPart parts.Keys keys
keys_fit None few = refl
keys_fit (Some bytes) few = grind (arith, nat_tests)

-- the paged ROMs of a range of slots, and the font
slots_fit : (i : Inputs) → first_misfit (map rom_image i.roms) ≡ None → IsPart parts.Font i.font → (count low : ℕ) →
    ArePartsOf (replicate count parts.Rom ++ parts.Font ∷ []) (map (part_of i) (map slots.Rom (range_with_len low count)) ++ i.font ∷ [])
slots_fit i roms font zero low = (font, tt)
slots_fit i roms font (suc count) low = (slot_fits i.roms low roms, slots_fit i roms font count (low + 1))

pub begun_is : BegunIsSession
unfolding begun part_slots
begun_is set i m made few short =
    let all : first_misfit (both_images set.kinds i) ≡ None = none_caused (first_misfit (both_images set.kinds i)) _ m (sym (lengths_come_first.both set i) ∙ made) in
    let d1 : List Sized = disc_images 1 set.kinds.1 i.disc1 in
    let d0 : List Sized = disc_images 0 set.kinds.0 i.disc0 in
    let os = fits_first (os_image i.os) (tube_image i.tube ∷ further_images set.kinds i) all in
    let tube = fits_first (tube_image i.tube) (further_images set.kinds i) os.1 in
    let roms = fit_both (map rom_image i.roms) (font_images i.font ++ (d0 ++ d1)) tube.1 in
    let font = fit_both (font_images i.font) (d0 ++ d1) roms.1 in
    let discs = fit_both d0 d1 font.1 in
    record {
      ticks = omega arith;
      plugs = few;
      many = refl;
      both = refl;
      first = (os.0, (tube.0, slots_fit i roms.0 (font_fits i.font font.0) 16 0));
      disc0 = disc_fits 0 set.kinds.0 i.disc0 discs.0;
      disc1 = disc_fits 1 set.kinds.1 i.disc1 discs.1;
      keys = keys_fit i.keys short;
      few = omega arith;
      lines = All-nil _;
      below = All-nil _;
      rises = tt;
    }

by_name : (save : Option (List ℕ)) (b : Option Saved) (set : Setup) (i : Inputs) → option_map session b ≡ begun_if save set i → IsSession (begun set i) →
    IfSome b (λ (s : Saved). IsSession (session s))
by_name None None set i is keeps = tt
by_name None (Some b) set i is keeps = cc
by_name (Some name) None set i is keeps = cc
by_name (Some name) (Some b) set i is keeps = let same : session b ≡ begun set i = cc in rw same keeps

pub keys_short : (keys : Option (Vec ℕ Global)) → IfSome keys (λ bytes. length bytes.items ≤ 1048576) → IfSome (option_map items keys) (λ bytes. length bytes ≤ 1048576)
keys_short None short = tt
keys_short (Some bytes) short = short

-- the beginning of a run that is saved keeps the rules
pub begun_keeps : (law : BegunIsSession) (save : Option (List ℕ)) (b : Option Saved) (set : Setup) (i : Inputs) (m : HostState × ParaState) → machines_of set i ≡ Ok m → set.number ≤ 8 →
    IfSome i.keys (λ keys. length keys ≤ 1048576) → option_map session b ≡ begun_if save set i → IfSome b (λ (s : Saved). IsSession (session s))
begun_keeps law save b set i m made few short is = by_name save b set i is (law set i m made few short)
