-- The bytes that are written.
use Rattle.std.proofs.Common.{◌≡◌, ◌∙◌, refl, ap, ℕ, suc, ◌*◌, ◌/◌, ◌^◌, length, get_or, take, List, [], ◌∷◌, ◌++◌, codes, arith}
use Rattle.std.proofs.lemmas.List.{take_at}
use Rattle.std.proofs.lemmas.Grind.{common_steps}
use Rattle.std.proofs.Math.Nat.{pow-succ', div-div-eq-div-mul}
use Rattle.digits.specs.Hexadecimal.{hex_digits}
use Rattle.beeb_bits.specs.declared.Side.{Side}
use Rattle.tube_chip.specs.declared.Op.{Op}
use Rattle.tube_trace.specs.Text.{access_text, asked_byte}

pub two_bytes : (byte : List ℕ) → length byte ≡ 2 → (get_or byte 0 0 ∷ get_or byte 1 0 ∷ []) ≡ byte
two_bytes byte h = grind (arith, common_steps)

pub pair_bytes : (pair : List ℕ) (n : ℕ) → pair ≡ hex_digits 2 n → (get_or pair 0 0 ∷ get_or pair 1 0 ∷ []) ≡ hex_digits 2 n
unfolding hex_digits
pair_bytes pair n h = rw h

-- two digits more
two_more : (k n : ℕ) → hex_digits (suc (suc k)) n ≡ hex_digits 2 (n / 16 ^ k) ++ hex_digits k n
unfolding hex_digits
two_more k n =
    let p : 16 ^ k * 16 ≡ 16 ^ suc k = omega (arith, pow-succ' 16 k) in
    let high : n / 16 ^ k / 16 ≡ n / 16 ^ suc k = div-div-eq-div-mul n (16 ^ k) 16 ∙ ap (λ (x : ℕ). n / x) p in
    let low : n / 16 ^ k / 1 ≡ n / 16 ^ k = omega arith in
    rw (high, low)

pub ten_pairs : (n : ℕ) → hex_digits 10 n
    ≡ hex_digits 2 (n / 4294967296) ++ (hex_digits 2 (n / 16777216) ++ (hex_digits 2 (n / 65536) ++ (hex_digits 2 (n / 256) ++ hex_digits 2 (n / 1))))
ten_pairs n = let one : n / 1 ≡ n = omega arith in rw (two_more 8 n, two_more 6 n, two_more 4 n, two_more 2 n, one) refl

-- without its line feed
asked-length : (op : Op) → length (asked_byte op) ≡ 2
unfolding hex_digits
asked-length op = grind arith

access-length : (tick : ℕ) (side : Side) (op : Op) → length (access_text tick side op (asked_byte op)) ≡ 19
unfolding access_text hex_digits
access-length tick side op = rw (asked-length op)

pub without_feed : (tick : ℕ) (side : Side) (op : Op) → take 19 (access_text tick side op (asked_byte op) ++ codes "\n") ≡ access_text tick side op (asked_byte op)
without_feed tick side op = take_at (access_text tick side op (asked_byte op)) (codes "\n") 19 (access-length tick side op)
