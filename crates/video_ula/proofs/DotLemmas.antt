-- Sixteen dots at a time are the dots by themselves.
use Rattle.std.proofs.Common.{◌≡◌, ◌∙◌, sym, ap, ℕ, ◌+◌, ◌*◌, ◌/◌, ◌<◌, ◌==◌, Bool, true, false, List}
use Rattle.std.proofs.Common.{[], ◌∷◌, ◌++◌, map, take, drop, length, slice_index_or, arith}
use Rattle.std.proofs.lemmas.Bool.{eqb-true}
use Rattle.std.proofs.Math.Path.{fun_ext}
use Rattle.std.proofs.lemmas.List.{take_more_set, take_all}
use Rattle.std.proofs.lemmas.List.FromFn.{get_or-map-range_with_len, map-range_with_len_more}
use Rattle.video_ula.specs.declared.ready.Ready.{Ready}
use Rattle.std.specs.Prelude.{slice_index, slice_set}
use Rattle.std.specs.List.{range_with_len}
use Rattle.std.proofs.Math.ListN.{get_or-map}
use Rattle.std.proofs.lemmas.List.{map-set}
use Rattle.video_ula.specs.State.{State}
use Rattle.beeb_bits.specs.Bits.{bit}
use Rattle.video_ula.specs.Pixels.{shifted_byte, entry_of, colour_of, under_cursor, dot_colour, colours, dots_of, pixel_width, side_by_side, row_colours}
use Rattle.video_ula.specs.Colours.{entry_colours, pixel_of, dots_in, eight_in, table_of, IsReady, eight_at, sixteen_at, HasEights}

-- a value that is written has its colour written
pub colour-set : (flash : Bool) (colours palette : List ℕ) (entry value colour : ℕ) → colours ≡ entry_colours flash palette → colour ≡ colour_of flash value →
    slice_set colours entry colour ≡ entry_colours flash (slice_set palette entry value)
colour-set flash colours palette entry value colour all one = rw (all, one) (sym (map-set (colour_of flash) palette entry value))

-- the colours of the palette's entries give the dots their colours
dots-same : (u : State) (byte : ℕ) (cursor : Bool) (xs : List ℕ) →
    map (λ d. pixel_of (entry_colours (bit u.control 0) u.palette) byte cursor (d / pixel_width u.control)) xs ≡ map (dot_colour u byte cursor) xs
dots-same u byte cursor xs =
    let one = λ (d : ℕ). get_or-map (colour_of (bit u.control 0)) u.palette (entry_of (shifted_byte byte (d / pixel_width u.control))) 0 in
    ap (λ (f : ℕ → ℕ). map f xs) (fun_ext λ d. ap (under_cursor cursor) (one d))

-- the sixteen dots that the code computes
abbrev kept : State → ℕ → Bool → List ℕ
kept u byte cursor = dots_in (entry_colours (bit u.control 0) u.palette) byte cursor (pixel_width u.control)

pub first_eight-are : (u : State) (byte : ℕ) (cursor : Bool) (dots part to : List ℕ) → bit u.control 4 ≡ true → dots ≡ kept u byte cursor → part ≡ take 8 dots →
    part ++ drop 8 to ≡ colours u byte cursor ++ drop (dots_of u.control) to
first_eight-are u byte cursor dots part to on is first =
    rw on (ap (λ xs. xs ++ drop 8 to) (first ∙ ap (take 8) is ∙ dots-same u byte cursor (range_with_len 0 8)))

pub all-are : (u : State) (byte : ℕ) (cursor : Bool) (dots to : List ℕ) → bit u.control 4 ≡ false → drop 16 to ≡ [] → dots ≡ kept u byte cursor →
    dots ≡ colours u byte cursor ++ drop (dots_of u.control) to
all-are u byte cursor dots to off none is = rw (off, none) (is ∙ dots-same u byte cursor (range_with_len 0 16))

-- ---- dots by the tables

abbrev pub first_of : List ℕ → List ℕ
first_of ds = slice_index_or ds 0 0 ∷ slice_index_or ds 1 0 ∷ slice_index_or ds 2 0 ∷ slice_index_or ds 3 0 ∷ slice_index_or ds 4 0
    ∷ slice_index_or ds 5 0 ∷ slice_index_or ds 6 0 ∷ slice_index_or ds 7 0 ∷ []

abbrev pub last_of : List ℕ → List ℕ
last_of ds = slice_index_or ds 8 0 ∷ slice_index_or ds 9 0 ∷ slice_index_or ds 10 0 ∷ slice_index_or ds 11 0 ∷ slice_index_or ds 12 0
    ∷ slice_index_or ds 13 0 ∷ slice_index_or ds 14 0 ∷ slice_index_or ds 15 0 ∷ []

in_table : (first : ℕ) (entries : List ℕ) (width byte : ℕ) (table : List (List ℕ)) → table ≡ table_of first entries width → byte < 256 →
    eight_at table byte ≡ eight_in first entries byte width
unfolding table_of
in_table first entries width byte table is fits =
    ap (λ (t : List (List ℕ)). slice_index_or t byte []) is
    ∙ get_or-map-range_with_len (λ byte. eight_in first entries byte width) 0 256 byte byte [] fits (omega arith)

pub has_eights : (entries : List ℕ) (width : ℕ) (r : Ready) → IsReady entries width r → (r.waits == 0) ≡ true → HasEights r
has_eights entries width r ready none byte fits =
    let both = ready (eqb-true r.waits 0 none) in (
      ap (λ (ds : List ℕ). length ds) (in_table 0 entries width byte r.first both.0 fits),
      ap (λ (ds : List ℕ). length ds) (in_table 8 entries width byte r.last both.1 fits),
    )

-- the dots of a byte that is looked up are those that are computed
pub sixteen_by_table : (entries : List ℕ) (width byte : ℕ) (r : Ready) → IsReady entries width r → (r.waits == 0) ≡ true → byte < 256 →
    sixteen_at r byte ≡ dots_in entries byte false width
sixteen_by_table entries width byte r ready none fits =
    let both = ready (eqb-true r.waits 0 none) in
    ap (λ (ds : List ℕ). ds ++ eight_at r.last byte) (in_table 0 entries width byte r.first both.0 fits)
    ∙ ap (λ (ds : List ℕ). eight_in 0 entries byte width ++ ds) (in_table 8 entries width byte r.last both.1 fits)

-- they are also its colours, and so for a row of bytes
module _ (u : State) (bytes : List ℕ) (step n : ℕ) (r : Ready) (ready : IsReady (entry_colours (bit u.control 0) u.palette) (pixel_width u.control) r)
    (none : (r.waits == 0) ≡ true) (fits : (i : ℕ) → slice_index bytes i < 256) where
  pub narrow_is : bit u.control 4 ≡ true → side_by_side (λ k. eight_at r.first (slice_index bytes (k * step))) n ≡ row_colours u bytes step n
  narrow_is on =
      let both = ready (eqb-true r.waits 0 none) in
      ap (λ (f : ℕ → List ℕ). side_by_side f n) (fun_ext λ k. let byte = slice_index bytes (k * step) in
      rw on (in_table 0 _ (pixel_width u.control) byte r.first both.0 (fits (k * step)) ∙ dots-same u byte false (range_with_len 0 8)))

  pub wide_is : bit u.control 4 ≡ false → side_by_side (λ k. sixteen_at r (slice_index bytes (k * step))) n ≡ row_colours u bytes step n
  wide_is off =
      ap (λ (f : ℕ → List ℕ). side_by_side f n) (fun_ext λ k. let byte = slice_index bytes (k * step) in
      rw off (sixteen_by_table _ (pixel_width u.control) byte r ready none (fits (k * step)) ∙ dots-same u byte false (range_with_len 0 16)))

-- a table with its first entries filled
pub filled_more : (first : ℕ) (entries : List ℕ) (width i : ℕ) (table : List (List ℕ)) (dots : List ℕ) → i < length table →
    take i table ≡ map (λ byte. eight_in first entries byte width) (range_with_len 0 i) → dots ≡ eight_in first entries i width →
    take (i + 1) (slice_set table i dots) ≡ map (λ byte. eight_in first entries byte width) (range_with_len 0 (i + 1))
filled_more first entries width i table dots low so is =
    take_more_set table i dots low ∙ ap (λ xs. xs ++ dots ∷ []) so
    ∙ ap (λ x. map (λ byte. eight_in first entries byte width) (range_with_len 0 i) ++ x ∷ []) is
    ∙ sym (map-range_with_len_more (λ byte. eight_in first entries byte width) 0 i i (omega arith))

pub filled : (first : ℕ) (entries : List ℕ) (width i : ℕ) (table : List (List ℕ)) → i ≡ 256 → length table ≡ 256 →
    take i table ≡ map (λ byte. eight_in first entries byte width) (range_with_len 0 i) → table ≡ table_of first entries width
unfolding table_of
filled first entries width i table all whole so =
    sym (take_all i table (omega arith)) ∙ so ∙ ap (λ n. map (λ byte. eight_in first entries byte width) (range_with_len 0 n)) all
