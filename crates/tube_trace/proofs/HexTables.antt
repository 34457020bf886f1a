-- The tables of digits are the definitions, byte by byte.
use Rattle.std.proofs.Common.{if◌then◌else◌, ◌≡◌, ◌∙◌, sym, refl, ap, ℕ, ◌+◌, ◌*◌, ◌/◌, ◌%◌, ◌^◌, ◌<◌, ◌≤◌, List, [], ◌∷◌, map, length, Bool, true, false, ◌&&◌, slice_index_or, get_or, drop, Some}
use Rattle.std.proofs.Common.{None, arith, lit<}
use Rattle.std.specs.List.{list_all, range_with_len}
use Rattle.std.proofs.lemmas.List.FromFn.{get_or-map-range_with_len}
use Rattle.std.proofs.lemmas.List.{drop_more}
use Rattle.std.proofs.Math.ListN.{drop_of_length-le}
use Rattle.std.proofs.lemmas.Bool.Decides.{nat_tests}
use Rattle.std.proofs.Math.Nat.{pow-le-pow_right}
use Rattle.std.proofs.lemmas.Grind.{pow_more}
use Rattle.digits.specs.Hexadecimal.{hex_digits, is_hex, hex_value, hex_number, hex_number_after}
use Rattle.digits.proofs.HexLaws.{only_digits}
use Rattle.tube_trace.specs.declared.hex.TheConstants.{PAIRS, VALUES}

PAIRS_is : PAIRS ≡ map (hex_digits 2) (range_with_len 0 256)
unfolding hex_digits
PAIRS_is = refl

pub PAIRS-at : (n : ℕ) (d : List ℕ) → n < 256 → slice_index_or PAIRS n d ≡ hex_digits 2 n
PAIRS-at n d h = ap (λ (t : List (List ℕ)). slice_index_or t n d) PAIRS_is ∙ get_or-map-range_with_len (hex_digits 2) 0 256 n n d h (omega arith)

-- the lowest two digits are those of the lowest byte
pub low_pair : (n : ℕ) → hex_digits 2 (n % 256) ≡ hex_digits 2 n
unfolding hex_digits
low_pair n =
    let high : n % 256 / 16 % 16 ≡ n / 16 % 16 = omega arith in
    let low : n % 256 / 1 % 16 ≡ n / 1 % 16 = omega arith in
    rw (high, low) refl

-- the value of a digit, and a number that five digits do not reach for every other byte
abbrev pub value : ℕ → ℕ
value b = if is_hex b then hex_value b else 1048576

pub value_fits : (b : ℕ) → value b ≤ 1048576
value_fits b = grind (arith, nat_tests)

VALUES_is : VALUES ≡ map value (range_with_len 0 256)
VALUES_is = refl

pub VALUES-at : (b d : ℕ) → b < 256 → slice_index_or VALUES b d ≡ value b
VALUES-at b d h = ap (λ (t : List ℕ). slice_index_or t b d) VALUES_is ∙ get_or-map-range_with_len value 0 256 b b d h (omega arith)

-- what is summed up over bytes that follow those of a number
abbrev pub sum_after : ℕ → List ℕ → ℕ
sum_after n [] = n
sum_after n (b ∷ bytes) = sum_after (16 * n + value b) bytes

-- one byte more, below one power more
pub sum_fits : (n b i : ℕ) → n + 1048576 ≤ 1048576 * 16 ^ i → 16 * n + value b + 1048576 ≤ 1048576 * 16 ^ (i + 1)
sum_fits n b i h = let v : value b ≤ 1048576 = value_fits b in rw pow_more (omega arith)

pub five : (i : ℕ) → i ≤ 5 → 16 ^ i ≤ 16 ^ 5
five i le = pow-le-pow_right {n = 16} (lit< tt) le

-- a byte that is no digit makes the sum too large
too_large : (bytes : List ℕ) (n : ℕ) → 1048576 ≤ n → 1048576 ≤ sum_after n bytes
too_large [] n h = h
too_large (b ∷ bytes) n h = too_large bytes (16 * n + value b) (omega arith)

-- digits sum up to their number
abbrev Tells : Bool → List ℕ → ℕ → Type 0
Tells true bytes n = sum_after n bytes ≡ hex_number_after n bytes
Tells false bytes n = 1048576 ≤ sum_after n bytes

sum_tells : (bytes : List ℕ) (n : ℕ) → Tells (list_all is_hex bytes) bytes n
sum_tells [] n = refl
sum_tells (b ∷ bytes) n = by (is_hex b) (list_all is_hex bytes) refl (λ m. sum_tells bytes m)
  where
    by : (t u : Bool) → is_hex b ≡ t → ((m : ℕ) → Tells u bytes m) → Tells (t && u) (b ∷ bytes) n
    by true true e on = rw e (on (16 * n + hex_value b))
    by true false e on = rw e (on (16 * n + hex_value b))
    by false u e on = rw e (too_large bytes (16 * n + 1048576) (omega arith))

-- ---- the sum of a loop over the bytes

pub sum_step : (bytes : List ℕ) (n i : ℕ) → i < length bytes → sum_after n (drop i bytes) ≡ sum_after (16 * n + value (get_or bytes i 0)) (drop (i + 1) bytes)
sum_step bytes n i h = rw (drop_more bytes i 0 h) refl

pub sum_end : (bytes : List ℕ) (n i : ℕ) → length bytes ≤ i → sum_after 0 bytes ≡ sum_after n (drop i bytes) → sum_after 0 bytes ≡ n
sum_end bytes n i h so_far = rw (drop_of_length-le bytes h) at so_far

-- what a sum of at most five bytes says
pub record Summed (bytes : List ℕ) (n : ℕ) : Type 0 where
  pub all : list_all is_hex bytes ≡ true
  pub is : hex_number bytes ≡ n
  pub bound : n < 16 ^ length bytes

summed : (bytes : List ℕ) (n : ℕ) → sum_after 0 bytes ≡ n → list_all is_hex bytes ≡ true → Summed bytes n
summed bytes n is all =
    let told : sum_after 0 bytes ≡ hex_number bytes = rw all at (sum_tells bytes 0) in
    let same : hex_number bytes ≡ n = sym told ∙ is in
    record { all = all; is = same; bound = rw same at (only_digits bytes all).1 }

pub sum_small_is : (bytes : List ℕ) (n : ℕ) → sum_after 0 bytes ≡ n → n < 1048576 → Summed bytes n
sum_small_is bytes n is h = summed bytes n is (by (list_all is_hex bytes) (sum_tells bytes 0))
  where
    by : (t : Bool) → Tells t bytes 0 → t ≡ true
    by true tells = refl
    by false tells = absurd (omega arith)

pub sum_none : (bytes : List ℕ) (n : ℕ) → length bytes ≤ 5 → sum_after 0 bytes ≡ n → 1048576 ≤ n → None ≡ (if list_all is_hex bytes then Some (hex_number bytes) else None)
sum_none bytes n few is h = by (list_all is_hex bytes) refl
  where
    by : (t : Bool) → list_all is_hex bytes ≡ t → None ≡ (if t then Some (hex_number bytes) else None)
    by true all = let low = (summed bytes n is all).bound in absurd (omega (arith, five (length bytes) few))
    by false other = refl
