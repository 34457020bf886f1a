-- A disc stores the largest image of its kind, which contains its own image.
use Rattle.std.proofs.Common.{◌≡◌, ◌∙◌, sym, refl, ap, ℕ, ◌+◌, ◌-◌, ◌<◌, ◌≤◌, max, true, List, ◌++◌, length, take, drop, set, map, replicate, get_or}
use Rattle.std.proofs.Common.{Some, get_or-take, get_or-drop, get_or-set_same, get_or-set_other, length-take, length-drop, length-set, length-append}
use Rattle.std.proofs.Common.{arith, inl, inr}
use Rattle.std.proofs.lemmas.Bool.{cases_lt, cases_eq}
use Rattle.std.proofs.lemmas.List.{ext_get_or, get_or_append_left, get_or-append_right, get_or-replicate, get_or_past, length-replicate}
use Rattle.std.proofs.lemmas.List.FromFn.{fill_by_all}
use Rattle.std.specs.List.{range_with_len}
use Rattle.disc_image.specs.declared.Kind.{Kind}
use Rattle.disc_image.specs.Image.{largest, has_sector, place, sector_of, byte_put}
use Rattle.disc_image.specs.CodeDisc.{IsWhole}

-- a byte of the image, which is 00 past its end
shown : (len : ℕ) (whole : List ℕ) → ((n : ℕ) → len ≤ n → get_or whole n 0 ≡ 0) → (n : ℕ) → get_or (take len whole) n 0 ≡ get_or whole n 0
shown len whole rest n =
    elim (cases_lt n len) [
      | inl inside ↦ get_or-take len whole n 0 inside
      | inr past ↦
          let short : length (take len whole) ≤ n = omega (arith, length-take len whole) in
          get_or_past (take len whole) n 0 short ∙ sym (rest n past)
    ]

zero_at : (m i : ℕ) → get_or {A = ℕ} (replicate m 0) i 0 ≡ 0
zero_at m i =
    elim (cases_lt i m) [
      | inl inside ↦ get_or-replicate m i 0 0 inside
      | inr past ↦ let short : length (replicate m 0) ≤ i = omega (arith, length-replicate {A = ℕ} m 0) in get_or_past (replicate m 0) i 0 short
    ]

-- bytes 00 after the image do not change it
behind : (xs : List ℕ) (m n : ℕ) → get_or (xs ++ replicate m 0) n 0 ≡ get_or xs n 0
behind xs m n =
    elim (cases_lt n (length xs)) [
      | inl inside ↦ get_or_append_left xs (replicate m 0) 0 n inside
      | inr past ↦ get_or-append_right xs (replicate m 0) (length xs) n 0 refl past ∙ zero_at m (n - length xs) ∙ sym (get_or_past xs n 0 past)
    ]

sector_read : (len : ℕ) (whole : List ℕ) (start : ℕ) → ((n : ℕ) → len ≤ n → get_or whole n 0 ≡ 0) → start + 256 ≤ length whole →
    take (start + 256 - start) (drop start whole) ≡ map (λ at. get_or (take len whole) (start + at) 0) (range_with_len 0 256)
sector_read len whole start rest room =
    let size : length (take (start + 256 - start) (drop start whole)) ≡ 256 = omega (arith, length-take (start + 256 - start) (drop start whole), length-drop start whole) in
    fill_by_all (λ (at : ℕ). get_or (take len whole) (start + at) 0) (take (start + 256 - start) (drop start whole)) 256 0 size (λ k h.
    let inside : k < start + 256 - start = omega arith in
    get_or-take (start + 256 - start) (drop start whole) k 0 inside ∙ get_or-drop start whole k 0 ∙ sym (shown len whole rest (start + k)))

pub sector_is : (kind : Kind) (len : ℕ) (whole : List ℕ) (side track sector : ℕ) → IsWhole kind len whole →
    has_sector kind side track sector ≡ true → place kind side track sector 0 + 256 ≤ largest kind →
    sector_of (record { kind = kind; bytes = take len whole }) side track sector
    ≡ Some (take (place kind side track sector 0 + 256 - place kind side track sector 0) (drop (place kind side track sector 0) whole))
sector_is kind len whole side track sector is has room =
    let within : place kind side track sector 0 + 256 ≤ length whole = omega (arith, is.size) in
    rw has (ap Some (sym (sector_read len whole (place kind side track sector 0) is.rest within)))

put_at : (len end p v n : ℕ) (whole : List ℕ) → ((n : ℕ) → len ≤ n → get_or whole n 0 ≡ 0) → p < length whole
    → p < length (take len whole ++ replicate (end - length (take len whole)) 0) →
    get_or (set whole p v) n 0 ≡ get_or (set (take len whole ++ replicate (end - length (take len whole)) 0) p v) n 0
put_at len end p v n whole rest room inside =
    elim (cases_eq n p) [
      | inl same ↦
          rw same (get_or-set_same whole p v 0 room ∙ sym (get_or-set_same (take len whole ++ replicate (end - length (take len whole)) 0) p v 0 inside))
      | inr other ↦
          get_or-set_other whole p n v 0 other
          ∙ sym (shown len whole rest n)
          ∙ sym (behind (take len whole) (end - length (take len whole)) n)
          ∙ sym (get_or-set_other (take len whole ++ replicate (end - length (take len whole)) 0) p n v 0 other)
    ]

put_bytes : (len end p v : ℕ) (whole : List ℕ) → ((n : ℕ) → len ≤ n → get_or whole n 0 ≡ 0) → len ≤ length whole → end ≤ length whole → p < end →
    take (max len end) (set whole p v) ≡ set (take len whole ++ replicate (end - length (take len whole)) 0) p v
put_bytes len end p v whole rest within room inside =
    let long : length (take len whole ++ replicate (end - length (take len whole)) 0) ≡ max len end =
    omega (arith, length-append (take len whole) (replicate (end - length (take len whole)) 0), length-replicate {A = ℕ} (end - length (take len whole)) 0, length-take len whole) in
    let left : length (take (max len end) (set whole p v)) ≡ max len end = omega (arith, length-take (max len end) (set whole p v), length-set whole p v) in
    let right : length (set (take len whole ++ replicate (end - length (take len whole)) 0) p v) ≡ max len end =
    length-set (take len whole ++ replicate (end - length (take len whole)) 0) p v ∙ long in
    ext_get_or 0 (take (max len end) (set whole p v)) (set (take len whole ++ replicate (end - length (take len whole)) 0) p v) (left ∙ sym right) (λ i h.
    let low : i < max len end = omega (arith, left, h) in
    let fits : p < length whole = omega arith in
    let held : p < length (take len whole ++ replicate (end - length (take len whole)) 0) = omega (arith, long) in
    get_or-take (max len end) (set whole p v) i 0 low ∙ put_at len end p v i whole rest fits held)

pub put_is : (kind : Kind) (len : ℕ) (whole : List ℕ) (side track sector at v end p : ℕ) → IsWhole kind len whole →
    has_sector kind side track sector ≡ true → end ≤ largest kind → at < 256 →
    end ≡ place kind side track sector 256 → p ≡ place kind side track sector at →
    record { kind = kind; bytes = take (max len end) (set whole p v) } ≡ byte_put side track sector at v (record { kind = kind; bytes = take len whole })
put_is kind len whole side track sector at v end p is has room small ends begins =
    let within : len ≤ length whole = omega (arith, is.within, is.size) in
    let fits : end ≤ length whole = omega (arith, is.size) in
    let inside : p < end = omega arith in
    rw (has, ← ends, ← begins) (ap (λ (bytes : List ℕ). record { kind = kind; bytes = bytes }) (put_bytes len end p v whole is.rest within fits inside))
