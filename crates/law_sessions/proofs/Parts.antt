-- The parts of a session are what was read.
use Rattle.std.proofs.Common.{◌≡◌, ◌∙◌, sym, refl, ap, subst, ℕ, zero, suc, ◌+◌, ◌<◌, ◌≤◌, ◌==◌, Bool, true, false, List, [], ◌∷◌, ◌++◌, map, IsTrue}
use Rattle.std.proofs.Common.{Option, Some, None, arith, append_assoc, append-nil}
use Rattle.std.proofs.lemmas.Bool.Decides.{nat_tests}
use Rattle.std.specs.List.{range_with_len}
use Rattle.disc_image.specs.declared.Kind.{Kind}
use Rattle.disc_image.specs.declared.Kind.TheVariants.{Ssd, Dsd}
use Rattle.rom_set.specs.Roms.{Rom}
use Rattle.cmd_words.specs.declared.keys.InputKind.{InputKind}
use Rattle.cmd_words.specs.declared.keys.InputKind.TheVariants as slots
use Rattle.cmd_words.specs.Reads.{rise_from}
use Rattle.save_state.specs.Saved.{Session}
use Rattle.cmd_machines.specs.Inputs.{Inputs, no_inputs, with_input, with_inputs, inputs_of}
use Rattle.cmd_machines.specs.Setup.{Setup, setup}
use Rattle.cmd_machines.specs.Discs.{disc_of, discs_of}
use Rattle.cmd_machines.specs.Machines.{machines_of}
use Rattle.cmd_machines.specs.Sessions.{part_slots, rom_of_slot, part_of, has_two_sides, begun, if_there, there, inputs_in, kind_by, setup_in}
use Rattle.law_sessions.specs.OneRun.{MachinesAreMadeAgain}

-- ---- paged ROMs, slot by slot

abbrev RisesFrom : ℕ → List Rom → Type 0
RisesFrom low roms = IsTrue (rise_from low (map (λ (rom : Rom). rom.slot) roms))

rest_rises : (low : ℕ) (r : Rom) (roms : List Rom) → RisesFrom low (r ∷ roms) → RisesFrom (r.slot + 1) roms
rest_rises low r roms rises = grind (arith, nat_tests)

-- no ROM is in a slot below those that exist
none_in : (slot low : ℕ) (roms : List Rom) → slot < low → RisesFrom low roms → rom_of_slot roms slot ≡ None
none_in slot low [] h rises = refl
none_in slot low (r ∷ roms) h rises =
    let other : (r.slot == slot) ≡ false = grind (arith, nat_tests) in
    let later : RisesFrom (r.slot + 1) roms = rest_rises low r roms rises in
    let further : slot < r.slot + 1 = grind (arith, nat_tests) in
    rw other (none_in slot (r.slot + 1) roms further later)

-- those of a range of slots, and then more
abbrev these : ℕ → ℕ → List InputKind → List InputKind
these low count more = map slots.Rom (range_with_len low count) ++ more

module _ (i : Inputs) (more : List InputKind) where
  abbrev Reads : ℕ → ℕ → Inputs → Inputs → Type 0
  Reads low count x y =
      with_inputs (there (these low count more) (map (part_of i) (these low count more))) x ≡ with_inputs (there more (map (part_of i) more)) y

  abbrev Stand : ℕ → List Rom → Type 0
  Stand low roms = (n : ℕ) → low ≤ n → rom_of_slot i.roms n ≡ rom_of_slot roms n

  abbrev with_roms : Inputs → List Rom → Inputs
  with_roms x roms = record x { roms = x.roms ++ roms }

  found : (low : ℕ) (r : Rom) (roms : List Rom) → Stand low (r ∷ roms) → r.slot ≡ low → rom_of_slot i.roms low ≡ Some r.bytes
  found low r roms stand is =
      let same : (r.slot == low) ≡ true = grind (arith, nat_tests) in
      let least : low ≤ low = omega arith in
      stand low least ∙ rw same refl

  behind : (low : ℕ) (r : Rom) (roms : List Rom) → Stand low (r ∷ roms) → r.slot ≡ low → Stand (low + 1) roms
  behind low r roms stand is n le =
      let other : (r.slot == n) ≡ false = grind (arith, nat_tests) in
      let least : low ≤ n = omega (arith, le) in
      stand n least ∙ rw other refl

  put : (low : ℕ) (r : Rom) (roms : List Rom) (x : Inputs) → r.slot ≡ low → with_roms (with_input (slots.Rom low) r.bytes x) roms ≡ with_roms x (r ∷ roms)
  put low r roms x is =
      ap (λ (k : ℕ). record x { roms = (x.roms ++ record { slot = k; bytes = r.bytes } ∷ []) ++ roms }) (sym is)
      ∙ ap (λ (all : List Rom). record x { roms = all }) (append_assoc x.roms (r ∷ []) roms)

  no_more : (x : Inputs) → with_roms x [] ≡ x
  no_more x = ap (λ (all : List Rom). record x { roms = all }) (append-nil x.roms)

  -- a slot and those after it, if the first remaining ROM is in it and if not
  one_slot : (b : Bool) (count low : ℕ) (r : Rom) (roms : List Rom) (x : Inputs) → (r.slot == low) ≡ b → RisesFrom low (r ∷ roms) → Stand low (r ∷ roms) →
      (RisesFrom (low + 1) roms → Stand (low + 1) roms → Reads (low + 1) count (with_input (slots.Rom low) r.bytes x) (with_roms (with_input (slots.Rom low) r.bytes x) roms)) →
      (RisesFrom (low + 1) (r ∷ roms) → Stand (low + 1) (r ∷ roms) → Reads (low + 1) count x (with_roms x (r ∷ roms))) →
      Reads low (suc count) x (with_roms x (r ∷ roms))
  one_slot true count low r roms x is rises stand here later =
      let same : r.slot ≡ low = grind (arith, nat_tests) in
      let rest : RisesFrom (low + 1) roms = subst (λ (k : ℕ). RisesFrom (k + 1) roms) same (rest_rises low r roms rises) in
      rw (found low r roms stand same)
      (subst (Reads (low + 1) count (with_input (slots.Rom low) r.bytes x)) (put low r roms x same) (here rest (behind low r roms stand same)))
  one_slot false count low r roms x is rises stand here later =
      let rest : RisesFrom (low + 1) (r ∷ roms) = grind (arith, nat_tests) in
      let least : low ≤ low = omega arith in
      let less : low < low + 1 = omega arith in
      rw (stand low least ∙ none_in low (low + 1) (r ∷ roms) less rest)
      (later rest (λ n le. stand n (omega (arith, le))))

  read_roms : (count low : ℕ) (left : List Rom) (x : Inputs) → low + count ≡ 16 → RisesFrom low left → Stand low left → Reads low count x (with_roms x left)
  read_roms zero low [] x sum rises stand = ap (with_inputs (there more (map (part_of i) more))) (sym (no_more x))
  read_roms zero low (r ∷ roms) x sum rises stand = absurd (grind (arith, nat_tests))
  read_roms (suc count) low [] x sum rises stand =
      let least : low ≤ low = omega arith in
      rw (stand low least)
      (read_roms count (low + 1) [] x (omega (arith, sum)) refl (λ n le. stand n (omega (arith, le))))
  read_roms (suc count) low (r ∷ roms) x sum rises stand =
      one_slot (r.slot == low) count low r roms x refl rises stand
      (read_roms count (low + 1) roms (with_input (slots.Rom low) r.bytes x) (omega (arith, sum)))
      (read_roms count (low + 1) (r ∷ roms) x (omega (arith, sum)))

-- ---- the other parts

-- the inputs that the machines of a run are made of, and no others
abbrev pub made_of : List ℕ → List ℕ → List Rom → Option (List ℕ) → Option (List ℕ) → Option (List ℕ) → Option (List ℕ) → Inputs
made_of os tube roms font disc0 disc1 keys = record no_inputs {
  os = os;
  tube = tube;
  roms = roms;
  font = font;
  disc0 = disc0;
  disc1 = disc1;
  keys = keys;
}

module _ (os tube : List ℕ) (roms : List Rom) where
  read_keys : (font disc0 disc1 p : Option (List ℕ)) →
      with_inputs (if_there slots.Keys p ++ []) (made_of os tube roms font disc0 disc1 None) ≡ made_of os tube roms font disc0 disc1 p
  read_keys font disc0 disc1 None = refl
  read_keys font disc0 disc1 (Some bytes) = refl

  read_disc1 : (font disc0 p : Option (List ℕ)) (more : List (InputKind × List ℕ)) →
      with_inputs (if_there (slots.Disc 1) p ++ more) (made_of os tube roms font disc0 None None) ≡ with_inputs more (made_of os tube roms font disc0 p None)
  read_disc1 font disc0 None more = refl
  read_disc1 font disc0 (Some bytes) more = refl

  read_disc0 : (font p : Option (List ℕ)) (more : List (InputKind × List ℕ)) →
      with_inputs (if_there (slots.Disc 0) p ++ more) (made_of os tube roms font None None None) ≡ with_inputs more (made_of os tube roms font p None None)
  read_disc0 font None more = refl
  read_disc0 font (Some bytes) more = refl

  read_font : (p : Option (List ℕ)) (more : List (InputKind × List ℕ)) →
      with_inputs (if_there slots.Font p ++ more) (made_of os tube roms None None None None) ≡ with_inputs more (made_of os tube roms p None None None)
  read_font None more = refl
  read_font (Some bytes) more = refl

abbrev last_slots : List InputKind
last_slots = slots.Font ∷ slots.Disc 0 ∷ slots.Disc 1 ∷ slots.Keys ∷ []

read_last : (i : Inputs) (roms : List Rom) →
    with_inputs (there last_slots (map (part_of i) last_slots)) (made_of i.os i.tube roms None None None None) ≡ made_of i.os i.tube roms i.font i.disc0 i.disc1 i.keys
read_last i roms =
    let keys : List (InputKind × List ℕ) = if_there slots.Keys i.keys ++ [] in
    let disc1 : List (InputKind × List ℕ) = if_there (slots.Disc 1) i.disc1 ++ keys in
    let disc0 : List (InputKind × List ℕ) = if_there (slots.Disc 0) i.disc0 ++ disc1 in
    read_font i.os i.tube roms i.font disc0
    ∙ read_disc0 i.os i.tube roms i.font i.disc0 disc1
    ∙ read_disc1 i.os i.tube roms i.font i.disc0 i.disc1 keys
    ∙ read_keys i.os i.tube roms i.font i.disc0 i.disc1 i.keys

-- the inputs that were read, without those that no machine is made of
abbrev pub files_of : Inputs → Inputs
files_of i = made_of i.os i.tube i.roms i.font i.disc0 i.disc1 i.keys

pub read_again : (i : Inputs) → RisesFrom 0 i.roms → inputs_of (there part_slots (map (part_of i) part_slots)) ≡ files_of i
unfolding inputs_of part_slots
read_again i rises =
    read_roms i last_slots 16 0 i.roms (made_of i.os i.tube [] None None None None) refl rises (λ n le. refl) ∙ read_last i i.roms

-- ---- the kinds of discs

disc_kept : (drive : ℕ) (kind : Kind) (p : Option (List ℕ)) → disc_of drive (kind_by (has_two_sides kind p)) p ≡ disc_of drive kind p
unfolding disc_of
disc_kept drive kind None = refl
disc_kept drive Ssd (Some bytes) = refl
disc_kept drive Dsd (Some bytes) = refl

discs_kept : (kinds : Kind × Kind) (disc0 disc1 : Option (List ℕ)) →
    discs_of (kind_by (has_two_sides kinds.0 disc0), kind_by (has_two_sides kinds.1 disc1)) disc0 disc1 ≡ discs_of kinds disc0 disc1
unfolding discs_of
discs_kept kinds disc0 disc1 = rw (disc_kept 0 kinds.0 disc0, disc_kept 1 kinds.1 disc1)

sides_kept : (kind : Kind) (p : Option (List ℕ)) → has_two_sides (kind_by (has_two_sides kind p)) p ≡ has_two_sides kind p
sides_kept kind None = refl
sides_kept Ssd (Some bytes) = refl
sides_kept Dsd (Some bytes) = refl

-- ---- both machines

-- the setup of the machines that a session of a run gives
abbrev set_again : Setup → Inputs → Setup
set_again set i = setup set.clock (kind_by (has_two_sides set.kinds.0 i.disc0), kind_by (has_two_sides set.kinds.1 i.disc1)) set.number set.plugs true

machines_kept : (set : Setup) (i : Inputs) → machines_of (set_again set i) (files_of i) ≡ machines_of set i
unfolding machines_of
machines_kept set i = rw (discs_kept set.kinds i.disc0 i.disc1)

begun_kept : (set : Setup) (i : Inputs) → begun (set_again set i) (files_of i) ≡ begun set i
unfolding begun part_slots
begun_kept set i = rw (sides_kept set.kinds.0 i.disc0, sides_kept set.kinds.1 i.disc1)

pub made_again : MachinesAreMadeAgain
unfolding begun setup_in inputs_in
made_again set i plugs n list plugged roms =
    let s : Session = record (begun set i) { ticks = n; entries = list } in
    let set_is : setup_in s plugs ≡ set_again set i = rw plugged in
    let files_are : inputs_in s ≡ files_of i = read_again i roms in (
      rw (set_is, files_are) (machines_kept set i),
      ap (λ (a : Setup). begun a (inputs_in s)) set_is ∙ ap (begun (set_again set i)) files_are ∙ begun_kept set i,
    )
