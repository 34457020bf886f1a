-- The inputs of the files that a command read: the slots of its paged ROMs, and the length of its
-- script.
use Rattle.std.proofs.Common.{◌≡◌, ◌∙◌, sym, refl, subst, ℕ, ◌≤◌, List, [], ◌∷◌, ◌++◌, map, length, Bool, true, false, ◌==◌, Option, Some, None, IfSome, arith, append_assoc, append-nil, if◌then◌else◌}
use Rattle.std.proofs.lemmas.List.{map-append}
use Rattle.std.specs.List.{filter_map, cons_option}
use Rattle.rom_set.specs.Roms.{Rom}
use Rattle.cmd_words.specs.declared.keys.InputKind.{InputKind}
use Rattle.cmd_words.specs.declared.keys.InputKind.TheVariants as slots
use Rattle.cmd_words.specs.Keys.{Value, file, Key}
use Rattle.cmd_words.specs.Given.{Values}
use Rattle.cmd_words.specs.Reads.{file_of, files_of, rom_slot}
use Rattle.cmd_stages.specs.Plan.{Want, Inputs, AreWithin}
use Rattle.cmd_machines.specs.Inputs as inputs

-- ---- the slots of the paged ROMs

abbrev pub numbers_of : List Rom → List ℕ
numbers_of roms = map (λ (r : Rom). r.slot) roms

-- the slots of some inputs are those of the files to read
pub same_slots : (ws : List (Want InputKind)) (is : Inputs InputKind) → AreWithin ws is → map (λ (i : InputKind × List ℕ). i.0) is ≡ map (λ (w : Want InputKind). w.0) ws
same_slots [] [] fits = refl
same_slots [] (i ∷ is) fits = absurd fits
same_slots (w ∷ ws) [] fits = absurd fits
same_slots (w ∷ ws) (i ∷ is) fits = rw (fits.0, same_slots ws is fits.2)

-- a disc leaves the paged ROMs and the script unchanged
disc_leaves : (first : Bool) (bytes : List ℕ) (i : inputs.Inputs) →
    let j : inputs.Inputs = if first then record i { disc0 = Some bytes } else record i { disc1 = Some bytes } in (j.roms ≡ i.roms) × (j.keys ≡ i.keys)
disc_leaves true bytes i = (refl, refl)
disc_leaves false bytes i = (refl, refl)

one_more : (slot : InputKind) (bytes : List ℕ) (i : inputs.Inputs) → numbers_of (inputs.with_input slot bytes i).roms ≡ numbers_of i.roms ++ cons_option (rom_slot slot) []
one_more (slots.Rom n) bytes i = map-append (λ (r : Rom). r.slot) i.roms (record { slot = n; bytes = bytes } ∷ [])
one_more (slots.Disc n) bytes i = rw (disc_leaves (n == 0) bytes i).0 (sym (append-nil (numbers_of i.roms)))
one_more slot bytes i = sym (append-nil (numbers_of i.roms))

seam : (ns ms : List ℕ) (o : Option ℕ) → (ns ++ cons_option o []) ++ ms ≡ ns ++ cons_option o ms
seam ns ms None = rw append-nil
seam ns ms (Some n) = append_assoc ns (n ∷ []) ms

pub numbers_read : (list : Inputs InputKind) (i : inputs.Inputs) →
    numbers_of (inputs.with_inputs list i).roms ≡ numbers_of i.roms ++ filter_map rom_slot (map (λ (one : InputKind × List ℕ). one.0) list)
numbers_read [] i = sym (append-nil (numbers_of i.roms))
numbers_read (one ∷ more) i =
    numbers_read more (inputs.with_input one.0 one.1 i)
    ∙ rw (one_more one.0 one.1 i) (seam (numbers_of i.roms) (filter_map rom_slot (map (λ (one : InputKind × List ℕ). one.0) more)) (rom_slot one.0))

-- ---- the length of the key script

-- a script to read is at most of this length
abbrev pub IsCapped : InputKind → ℕ → Type 0
IsCapped slots.Keys cap = cap ≤ 1048576
IsCapped slot cap = Unit {0}

abbrev pub AreCapped : List (Want InputKind) → Type 0
AreCapped [] = Unit {0}
AreCapped (w ∷ ws) = IsCapped w.0 w.2 × AreCapped ws

abbrev pub ShortKeys : inputs.Inputs → Type 0
ShortKeys i = IfSome i.keys (λ keys. length keys ≤ 1048576)

one_short : (slot : InputKind) (bytes : List ℕ) (cap : ℕ) (i : inputs.Inputs) → IsCapped slot cap → length bytes ≤ cap → ShortKeys i → ShortKeys (inputs.with_input slot bytes i)
one_short slots.Keys bytes cap i capped fits short = omega (arith, capped, fits)
one_short (slots.Disc n) bytes cap i capped fits short = rw (disc_leaves (n == 0) bytes i).1 short
one_short slot bytes cap i capped fits short = short

pub all_short : (ws : List (Want InputKind)) (list : Inputs InputKind) (i : inputs.Inputs) → AreWithin ws list → AreCapped ws → ShortKeys i → ShortKeys (inputs.with_inputs list i)
all_short [] [] i fits capped short = short
all_short [] (x ∷ list) i fits capped short = absurd fits
all_short (w ∷ ws) [] i fits capped short = absurd fits
all_short (w ∷ ws) (x ∷ list) i fits capped short =
    all_short ws list (inputs.with_input x.0 x.1 i) fits.2 capped.1 (one_short x.0 x.1 w.2 i (subst (λ (slot : InputKind). IsCapped slot w.2) (sym fits.0) capped.0) fits.1 short)

one_file : (value : Value) (v : Option (List ℕ)) (ws : List (Want InputKind)) → AreCapped ws → AreCapped (file_of value v ++ ws)
one_file (file slot) None ws capped = capped
one_file (file slots.Keys) (Some name) ws capped = (omega arith, capped)
one_file (file slot) (Some name) ws capped = (tt, capped)
one_file value v ws capped = capped

pub files_capped : (ks : List Key) (vs : Values) → AreCapped (files_of ks vs)
files_capped [] vs = tt
files_capped (k ∷ ks) [] = tt
files_capped (k ∷ ks) (v ∷ vs) = one_file k.value v (files_of ks vs) (files_capped ks vs)
