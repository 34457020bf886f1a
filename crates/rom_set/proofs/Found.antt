-- The ROM of a slot is at the stored place.
use Rattle.std.proofs.Common.{ℕ, zero, suc, ◌≡◌, ◌≤◌, ◌<◌, ◌+◌, ◌-◌, refl, ap, sym, ◌∙◌, Bool, true, false, not, List, [], ◌∷◌, Option, Some}
use Rattle.std.proofs.Common.{None, length, get_or, ◌==◌, ◌||◌, ◌⊎◌, inl, inr, if◌then◌else◌, arith}
use Rattle.std.proofs.lemmas.Bool.{cases_Bool}
use Rattle.std.proofs.lemmas.Grind.{common_steps}
use Rattle.std.specs.Prelude.{Vec, find, slice_index}
use Rattle.std.specs.List.{position_from}
use Rattle.std.specs.Option.{option_or}
use Rattle.std.specs.declared.alloc.Global.{Global}
use Rattle.rom_set.specs.declared.RomError.TheVariants.{BadOs, BadSlot}
use Rattle.rom_set.specs.Roms.{Rom, rom_seen, roms_seen, in_slot, byte_in, rom_byte, fits, bad_slot, first_refused, bad_font, refusal}
use Rattle.rom_set.specs.Places.{in_this}

-- The meaning of a place for the list from its number i on.
pub record IsAt (t : Rom → Bool) (roms : List Rom) (i place : ℕ) : Type 0 where
  pub low : i ≤ place
  pub within : place - i < length roms
  pub found : (d : Rom) → find t roms ≡ Some (get_or roms (place - i) d)

found : (t : Rom → Bool) (roms : List Rom) (i place : ℕ) → position_from t i roms ≡ Some place → IsAt t roms i place
found t [] i place e = let no : None ≡ Some place = e in cc
found t (r ∷ roms) i place e = elim (cases_Bool (t r)) [
  | inl is ↦
      let here : Some i ≡ Some place = rw is at e in
      let same : i ≡ place = cc in
      let none : place - i ≡ 0 = omega (arith, same) in
      record { low = omega (arith, same); within = omega (arith, same); found = λ d. rw (is, none) }
  | inr is ↦
      let h = found t roms (i + 1) place (rw is at e) in
      let next : place - i ≡ suc (place - (i + 1)) = omega (arith, h.low) in
      record { low = omega (arith, h.low); within = omega (arith, h.low, h.within); found = λ d. rw (is, next) (h.found d) }
]

pub kept : (slots : List (ℕ × Vec ℕ Global)) (slot : ℕ) {p : Option ℕ} {place : ℕ} → p ≡ position_from (in_this slot) 0 (roms_seen slots) → p ≡ Some place →
    IsAt (in_this slot) (roms_seen slots) 0 place
kept slots slot at is = found (in_this slot) (roms_seen slots) 0 _ (sym at ∙ is)

pub absent : (t : Rom → Bool) (roms : List Rom) (i : ℕ) → position_from t i roms ≡ None → find t roms ≡ None
absent t [] i e = refl
absent t (r ∷ roms) i e = elim (cases_Bool (t r)) [
  | inl is ↦ let no : Some i ≡ None = rw is at e in cc
  | inr is ↦ rw is (absent t roms (i + 1) (rw is at e))
]

-- if none passes, each fails
all-more : (t : Rom → Bool) (r : Rom) (roms : List Rom) → find t (r ∷ roms) ≡ None → (t r ≡ false) × (find t roms ≡ None)
all-more t r roms e = elim (cases_Bool (t r)) [ inl is ↦ let no : Some r ≡ None = rw is at e in cc | inr is ↦ (is, rw is at e) ]

none-passes : (t : Rom → Bool) (roms : List Rom) (k : ℕ) (d : Rom) → find t roms ≡ None → k < length roms → t (get_or roms k d) ≡ false
none-passes t [] k d e low = absurd (omega (arith, low))
none-passes t (r ∷ roms) zero d e low = (all-more t r roms e).0
none-passes t (r ∷ roms) (suc k) d e low = none-passes t roms k d (all-more t r roms e).1 (omega (arith, low))

-- the bytes of the ROM at the stored place
rom-at : (slots : List (ℕ × Vec ℕ Global)) (place : ℕ) (d : ℕ × Vec ℕ Global) → place < length slots → get_or (roms_seen slots) place (rom_seen d) ≡ rom_seen (get_or slots place d)
rom-at [] place d low = absurd (omega (arith, low))
rom-at (s ∷ slots) zero d low = refl
rom-at (s ∷ slots) (suc place) d low = rom-at slots place d (omega (arith, low))

as-long : (slots : List (ℕ × Vec ℕ Global)) → length (roms_seen slots) ≡ length slots
as-long [] = refl
as-long (s ∷ slots) = ap suc (as-long slots)

-- the ROM has one of both lengths
long-by : (n : ℕ) → not (n == 8192 || n == 16384) ≡ false → (n ≡ 8192) ⊎ (n ≡ 16384)
long-by n e = grind (arith, common_steps)

fits-by : (os : List ℕ) (roms : List Rom) (font : Option (List ℕ)) → refusal os roms font ≡ None → find (λ rom. not (fits rom)) roms ≡ None
fits-by os roms font e = by-length (length os == 16384) e
  where
    by-found : (o : Option Rom) → option_or (bad_slot o) (bad_font font) ≡ None → o ≡ None
    by-found None e = refl
    by-found (Some rom) e = let no : Some (BadSlot rom.slot (length rom.bytes)) ≡ None = e in cc

    by-length : (b : Bool) → (if b then option_or (first_refused roms) (bad_font font) else Some (BadOs (length os))) ≡ None → find (λ rom. not (fits rom)) roms ≡ None
    by-length true e = by-found (find (λ rom. not (fits rom)) roms) e
    by-length false e = let no : Some (BadOs (length os)) ≡ None = e in cc

pub long : (os : List ℕ) (slots : List (ℕ × Vec ℕ Global)) (font : Option (List ℕ)) (t : Rom → Bool) (place : ℕ) (d : ℕ × Vec ℕ Global)
    (bytes : List ℕ) → refusal os (roms_seen slots) font ≡ None → IsAt t (roms_seen slots) 0 place → d ≡ get_or slots place d → bytes ≡ d.1.items →
    (length bytes ≡ 8192) ⊎ (length bytes ≡ 16384)
long os slots font t place d bytes none here is value =
    let low : place < length slots = omega (arith, here.within, as-long slots) in
    let same : get_or (roms_seen slots) place (rom_seen d) ≡ rom_seen d = rom-at slots place d low ∙ ap rom_seen (sym is) in
    let test : not (fits (rom_seen d)) ≡ false = ap (λ rom. not (fits rom)) (sym same) ∙ none-passes (λ rom. not (fits rom)) (roms_seen slots) place
    (rom_seen d) (fits-by os (roms_seen slots) font none) (omega (arith, here.within)) in
    long-by (length bytes) (ap (λ xs. not (length xs == 8192 || length xs == 16384)) value ∙ test)

pub shown : (slots : List (ℕ × Vec ℕ Global)) (slot at place : ℕ) (d : ℕ × Vec ℕ Global) (bytes : List ℕ)
    → IsAt (in_this slot) (roms_seen slots) 0 place → d ≡ get_or slots place d → bytes ≡ d.1.items →
    slice_index (in_slot bytes) at ≡ rom_byte (roms_seen slots) slot at
shown slots slot at place d bytes here is value =
    let low : place < length slots = omega (arith, here.within, as-long slots) in
    let same : get_or (roms_seen slots) place (rom_seen d) ≡ rom_seen d = rom-at slots place d low ∙ ap rom_seen (sym is) in
    let whole : place - 0 ≡ place = omega arith in
    ap (λ xs. slice_index (in_slot xs) at) value
    ∙ sym (ap (λ o. byte_in o at) (here.found (rom_seen d) ∙ ap (λ k. Some (get_or (roms_seen slots) k (rom_seen d))) whole ∙ ap Some same))

pub held : (slots : List (ℕ × Vec ℕ Global)) (t : Rom → Bool) (place : ℕ) → IsAt t (roms_seen slots) 0 place → place < length slots
held slots t place here = omega (arith, here.within, as-long slots)
