-- Sums, differences, comparisons and shifts of both parts: MCS6500 Programming Manual, chapters 2,
-- 4 and 10, and the 65C02's data sheet. The results of decimal mode for digits above 9 are this
-- project's choice.
use Rattle.std.specs.Prelude.{ℕ, ◌+◌, ◌-◌, ◌*◌, ◌/◌, ◌%◌, Bool, true, false, cond, eqb, ltb, leb, bit_and, bit_xor, ℤ, pos, negsuc, ◌+ℤ◌, ◌-ℤ◌}
use Rattle.cpu_alu.specs.declared.Sum.{Sum}
use Rattle.op_table.specs.declared.names.Part.{Part}
use Rattle.op_table.specs.declared.names.Part.TheVariants.{Nmos, Cmos}

-- bit 7 of a number
abbrev pub bit_7 : ℕ → Bool
bit_7 n = eqb (n / 128 % 2) 1

-- the carry as a number
abbrev pub carry : Bool → ℕ
carry c = cond c 1 0

-- a byte with its own N and Z, a carry, and V clear
abbrev pub of_value : ℕ → Bool → Sum
of_value value c = record { value = value; c = c; z = eqb value 0; v = false; n = bit_7 value }

-- Binary.

-- r = A + m + C
abbrev pub total : ℕ → ℕ → Bool → ℕ
total a m c = a + m + carry c

-- V is bit 7 of (A XOR r) AND (m XOR r)
abbrev pub adc_binary : ℕ → ℕ → Bool → Sum
adc_binary a m c =
    let r = total a m c in
    record {
      value = r % 256;
      c = ltb 0xFF r;
      z = eqb (r % 256) 0;
      v = bit_7 (bit_and (bit_xor a r) (bit_xor m r));
      n = bit_7 r;
    }

-- A plus NOT m plus C
abbrev pub sbc_binary : ℕ → ℕ → Bool → Sum
sbc_binary a m c = adc_binary a (255 - m) c

-- Decimal sums.

-- L, the low digit of the sum, plus 10 if it carries
abbrev pub low_sum : ℕ → ℕ → Bool → ℕ
low_sum a m c = let l = a % 16 + m % 16 + carry c in cond (leb 0x0A l) ((l + 0x06) % 16 + 0x10) l

-- S, before its high digit is corrected
abbrev pub digit_sum : ℕ → ℕ → Bool → ℕ
digit_sum a m c = bit_and a 0xF0 + bit_and m 0xF0 + low_sum a m c

-- S, plus 60 if it is at least A0
abbrev pub decimal_sum : ℕ → ℕ → Bool → ℕ
decimal_sum a m c = let s = digit_sum a m c in cond (leb 0xA0 s) (s + 0x60) s

-- bit 7 of NOT (A XOR m) AND (A XOR S)
abbrev pub decimal_v : ℕ → ℕ → Bool → Bool
decimal_v a m c = bit_7 (bit_and (255 - bit_xor a m) (bit_xor a (digit_sum a m c)))

-- The NMOS part has N from S before its high digit is corrected, and Z from the binary sum. The
-- 65C02 has both from the new A.
abbrev pub adc_decimal : Part → ℕ → ℕ → Bool → Sum
adc_decimal Nmos a m c = record {
  value = decimal_sum a m c % 256;
  c = leb 0x100 (decimal_sum a m c);
  z = eqb (total a m c % 256) 0;
  v = decimal_v a m c;
  n = bit_7 (digit_sum a m c);
}
adc_decimal Cmos a m c = record {
  value = decimal_sum a m c % 256;
  c = leb 0x100 (decimal_sum a m c);
  z = eqb (decimal_sum a m c % 256) 0;
  v = decimal_v a m c;
  n = bit_7 (decimal_sum a m c % 256);
}

-- Decimal differences, which may be below 0.

abbrev pub is_below_zero : ℤ → Bool
is_below_zero (pos n) = false
is_below_zero (negsuc n) = true

-- the low byte, and the low four bits
abbrev pub low_byte : ℤ → ℕ
low_byte (pos n) = n % 256
low_byte (negsuc n) = 255 - n % 256

abbrev pub low_bits : ℤ → ℕ
low_bits (pos n) = n % 16
low_bits (negsuc n) = 15 - n % 16

-- A - m + C - 1
abbrev pub difference : ℕ → ℕ → Bool → ℤ
difference a m c = ((pos a -ℤ pos m) +ℤ pos (carry c)) -ℤ pos 1

-- L, the difference of the low digits
abbrev pub low_difference : ℕ → ℕ → Bool → ℤ
low_difference a m c = difference (a % 16) (m % 16) c

-- On the NMOS part L becomes ((L - 06) AND 0F) - 10 if it is below 0.
abbrev pub nmos_low_digit : ℕ → ℕ → Bool → ℤ
nmos_low_digit a m c =
    let l = low_difference a m c in cond (is_below_zero l) (pos (low_bits (l -ℤ pos 0x06)) -ℤ pos 0x10) l

-- S is the difference of the high digits plus the corrected L, less 60 if that is below 0.
abbrev pub nmos_difference : ℕ → ℕ → Bool → ℤ
nmos_difference a m c =
    let s = (pos (bit_and a 0xF0) -ℤ pos (bit_and m 0xF0)) +ℤ nmos_low_digit a m c in
    cond (is_below_zero s) (s -ℤ pos 0x60) s

-- On the 65C02 S is the whole difference, less 60 if it is below 0, and less 06 if L is below 0.
abbrev pub cmos_difference : ℕ → ℕ → Bool → ℤ
cmos_difference a m c =
    let s = difference a m c in
    let t = cond (is_below_zero s) (s -ℤ pos 0x60) s in
    cond (is_below_zero (low_difference a m c)) (t -ℤ pos 0x06) t

-- C and V are those of the binary difference, as are N and Z on the NMOS part. The 65C02 has N and
-- Z from the new A.
abbrev pub sbc_decimal : Part → ℕ → ℕ → Bool → Sum
sbc_decimal Nmos a m c = record (sbc_binary a m c) { value = low_byte (nmos_difference a m c) }
sbc_decimal Cmos a m c = record (of_value (low_byte (cmos_difference a m c)) (sbc_binary a m c).c) { v = (sbc_binary a m c).v }

-- The operations.

abbrev pub adc : Part → Bool → ℕ → ℕ → Bool → Sum
adc part decimal a m c = cond decimal (adc_decimal part a m c) (adc_binary a m c)

abbrev pub sbc : Part → Bool → ℕ → ℕ → Bool → Sum
sbc part decimal a m c = cond decimal (sbc_decimal part a m c) (sbc_binary a m c)

-- C is set if the register is at least m; N and Z are those of the difference
abbrev pub compare : ℕ → ℕ → Sum
compare r m = of_value ((r + (256 - m)) % 256) (leb m r)

-- m shifted by one bit to the left or to the right, with a bit shifted in; C is the bit shifted out
abbrev pub shift_left : ℕ → Bool → Sum
shift_left m low = of_value (m * 2 % 256 + carry low) (bit_7 m)

abbrev pub shift_right : ℕ → Bool → Sum
shift_right m high = of_value (m / 2 + carry high * 128) (eqb (m % 2) 1)

abbrev pub asl : ℕ → Sum
asl m = shift_left m false

abbrev pub lsr : ℕ → Sum
lsr m = shift_right m false

abbrev pub rol : ℕ → Bool → Sum
rol m c = shift_left m c

abbrev pub ror : ℕ → Bool → Sum
ror m c = shift_right m c
