-- The samples of sixteen colours at once.
use Rattle.std.proofs.Common.{◌≡◌, ◌∙◌, ap, refl, ℕ, ◌+◌, ◌*◌, ◌<◌, ◌≤◌, ◌==◌, List, [], ◌∷◌, ◌++◌, length, take, drop, replicate, append_assoc, bit_and, w8, Fits, arith}
use Rattle.std.specs.Prelude.{flat_map, if◌then◌else◌}
use Rattle.std.specs.List.{range_with_len}
use Rattle.std.specs.Simd.Lanes.{zip2, sel_l, pick_l, Each1}
use Rattle.std.proofs.lemmas.Simd.{pick_l_left, pick_l_whole}
use Rattle.std.proofs.lemmas.Bool.{agree_below_at}
use Rattle.std.proofs.lemmas.List.{take-append-drop, take-take, drop-drop, drop-take}
use Rattle.std.proofs.lemmas.Grind.{flat_map-append}
use Rattle.beeb_bits.specs.Bits.{bit}
use Rattle.frame_out.specs.Pixmap.{pixel}

-- a sample by the bit itself
abbrev lit : ℕ → ℕ → ℕ
lit colour m = if bit_and colour m == m then 255 else 0

abbrev lit_pixel : ℕ → List ℕ
lit_pixel colour = lit colour 1 ∷ lit colour 2 ∷ lit colour 4 ∷ []

lit_is : (colour : ℕ) → colour < 256 → lit_pixel colour ≡ pixel colour
lit_is colour fits =
    let a : (bit_and colour 1 == 1) ≡ bit colour 0 = agree_below_at (λ c. bit_and c 1 == 1) (λ c. bit c 0) 256 colour refl fits in
    let b : (bit_and colour 2 == 2) ≡ bit colour 1 = agree_below_at (λ c. bit_and c 2 == 2) (λ c. bit c 1) 256 colour refl fits in
    let c : (bit_and colour 4 == 4) ≡ bit colour 2 = agree_below_at (λ c. bit_and c 4 == 4) (λ c. bit c 2) 256 colour refl fits in
    rw (a, b, c) refl

all_lit : (xs : List ℕ) → Each1 (Fits w8) xs → flat_map lit_pixel xs ≡ flat_map pixel xs
all_lit [] fits = refl
all_lit (x ∷ xs) fits = ap (λ (p : List ℕ). p ++ flat_map lit_pixel xs) (lit_is x fits.0.fits) ∙ ap (λ (ps : List ℕ). pixel x ++ ps) (all_lit xs fits.1)

-- the samples of sixteen colours, one by one
abbrev listed : List ℕ → List ℕ
listed v = flat_map lit_pixel (pick_l 0 v (range_with_len 0 16))

listed_are : (v : List ℕ) → length v ≡ 16 → Each1 (Fits w8) v → listed v ≡ flat_map pixel v
listed_are v long fits = ap (λ (xs : List ℕ). flat_map lit_pixel xs) (pick_l_whole 0 v 16 long) ∙ all_lit v fits

abbrev pub picked : List ℕ → List ℕ → List ℕ
picked colours bits = sel_l (zip2 (λ a b. a == b) (zip2 bit_and colours bits) bits) (replicate 16 255) (replicate 16 0)

-- the colours of the samples of sixteen, and the bit of each
abbrev first_places : List ℕ
first_places = 0 ∷ 0 ∷ 0 ∷ 1 ∷ 1 ∷ 1 ∷ 2 ∷ 2 ∷ 2 ∷ 3 ∷ 3 ∷ 3 ∷ 4 ∷ 4 ∷ 4 ∷ 5 ∷ []

abbrev first_bits : List ℕ
first_bits = 1 ∷ 2 ∷ 4 ∷ 1 ∷ 2 ∷ 4 ∷ 1 ∷ 2 ∷ 4 ∷ 1 ∷ 2 ∷ 4 ∷ 1 ∷ 2 ∷ 4 ∷ 1 ∷ []

abbrev next_places : List ℕ
next_places = 5 ∷ 5 ∷ 6 ∷ 6 ∷ 6 ∷ 7 ∷ 7 ∷ 7 ∷ 8 ∷ 8 ∷ 8 ∷ 9 ∷ 9 ∷ 9 ∷ 10 ∷ 10 ∷ []

abbrev next_bits : List ℕ
next_bits = 2 ∷ 4 ∷ 1 ∷ 2 ∷ 4 ∷ 1 ∷ 2 ∷ 4 ∷ 1 ∷ 2 ∷ 4 ∷ 1 ∷ 2 ∷ 4 ∷ 1 ∷ 2 ∷ []

abbrev last_places : List ℕ
last_places = 10 ∷ 11 ∷ 11 ∷ 11 ∷ 12 ∷ 12 ∷ 12 ∷ 13 ∷ 13 ∷ 13 ∷ 14 ∷ 14 ∷ 14 ∷ 15 ∷ 15 ∷ 15 ∷ []

abbrev last_bits : List ℕ
last_bits = 4 ∷ 1 ∷ 2 ∷ 4 ∷ 1 ∷ 2 ∷ 4 ∷ 1 ∷ 2 ∷ 4 ∷ 1 ∷ 2 ∷ 4 ∷ 1 ∷ 2 ∷ 4 ∷ []

module _ (v : List ℕ) (long : length v ≡ 16) (fits : Each1 (Fits w8) v) where
  -- a part of the samples, with the colour and the bit of each
  part_is : (part : List ℕ → List ℕ) (places bits : List ℕ) → pick_l 0 (v ++ v) places ≡ pick_l 0 v places → picked (pick_l 0 v places) bits ≡ part (listed v)
      → picked (pick_l 0 (v ++ v) places) bits ≡ part (flat_map pixel v)
  part_is part places bits left each = ap (λ (ds : List ℕ). picked ds bits) left ∙ each ∙ ap part (listed_are v long fits)

  -- the first sixteen samples, the next and the last
  pub first_are : picked (pick_l 0 (v ++ v) first_places) first_bits ≡ take 16 (flat_map pixel v)
  first_are = part_is (take 16) first_places first_bits (pick_l_left 0 v v 16 first_places long tt) refl

  pub next_are : picked (pick_l 0 (v ++ v) next_places) next_bits ≡ take 16 (drop 16 (flat_map pixel v))
  next_are = part_is (λ ds. take 16 (drop 16 ds)) next_places next_bits (pick_l_left 0 v v 16 next_places long tt) refl

  pub last_are : picked (pick_l 0 (v ++ v) last_places) last_bits ≡ drop 32 (flat_map pixel v)
  last_are = part_is (drop 32) last_places last_bits (pick_l_left 0 v v 16 last_places long tt) refl

-- all three
thirds : (xs : List ℕ) → take 16 xs ++ (take 16 (drop 16 xs) ++ drop 32 xs) ≡ xs
thirds xs = rw (← drop-drop 16 16 xs, take-append-drop 16 (drop 16 xs)) (take-append-drop 16 xs)

pub added : (old first next last one two three all : List ℕ) → one ≡ old ++ first → two ≡ one ++ next → three ≡ two ++ last → first ≡ take 16 all
    → next ≡ take 16 (drop 16 all) →
    last ≡ drop 32 all → three ≡ old ++ all
added old first next last one two three all a b c d e f =
    rw (c, b, a, append_assoc (old ++ first) next last, append_assoc old first (next ++ last), d, e, f) (ap (λ (xs : List ℕ). old ++ xs) (thirds all))

take_sum : (n m : ℕ) (xs : List ℕ) → take (n + m) xs ≡ take n xs ++ take m (drop n xs)
take_sum n m xs =
    let low : n ≤ n + m = omega arith in
    rw (← take-append-drop n (take (n + m) xs), take-take n (n + m) xs low, drop-take n m xs)

-- sixteen more colours
pub sixteen_more : (front xs old new : List ℕ) (i : ℕ) → old ≡ front ++ flat_map pixel (take (16 * i) xs) → new ≡ old ++ flat_map pixel (take 16 (drop (16 * i) xs)) →
    new ≡ front ++ flat_map pixel (take (16 * (i + 1)) xs)
sixteen_more front xs old new i so is =
    let next : 16 * (i + 1) ≡ 16 * i + 16 = omega arith in
    let here = take (16 * i) xs in
    let more = take 16 (drop (16 * i) xs) in
    rw (next, take_sum (16 * i) 16 xs, flat_map-append pixel here more, is, so, append_assoc front (flat_map pixel here) (flat_map pixel more))
