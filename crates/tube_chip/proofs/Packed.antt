-- A chip is read back from its words.
use Rattle.std.proofs.Common.{◌≡◌, ◌∙◌, refl, sym, ap, subst, ℕ, zero, suc, ◌+◌, ◌*◌, ◌/◌, ◌%◌, ◌^◌, ◌<◌, ◌≤◌, List, [], ◌∷◌, ◌++◌, map, take}
use Rattle.std.proofs.Common.{length, get_or, slice_index, length-take-le, ◌==◌, Bool, All, arith}
use Rattle.std.specs.List.{range_with_len}
use Rattle.std.specs.Int.{w64, to_le_bytes}
use Rattle.std.proofs.lemmas.Bool.Decides.{nat_tests}
use Rattle.std.proofs.lemmas.Nat.{le_bytes_8}
use Rattle.std.proofs.lemmas.List.Elements.{All-nil, All-cons, All-head, All-tail, All-take}
use Rattle.tube_chip.specs.Register.{Register, empty, holds, count, register_of}
use Rattle.tube_chip.specs.State.{State, Flags, Bank}
use Rattle.beeb_bits.specs.Bits.{bit}
use Rattle.beeb_bits.specs.Bits.{weight}
use Rattle.tube_chip.specs.Act.{flags_byte}
use Rattle.tube_chip.specs.Packing.{shown_bytes, IsRegister, IsBank, IsChip, place, places, word, counts, host_bytes, para_bytes, packed_words}
use Rattle.tube_chip.specs.Packing.{PackingIsOneToOne, flags_from, register_from, host_from, para_from, unpacked_chip}

-- ---- bytes

abbrev IsByte : ℕ → Type 0
IsByte b = b < 256

pub place-byte : (room : ℕ) (r : Register) (i : ℕ) → IsRegister room r → place r i < 256
place-byte room r i well = by (shown_bytes r) i well.bytes
  where
    by : (xs : List ℕ) (i : ℕ) → All IsByte xs → get_or xs i 0 < 256
    by [] i all = omega arith
    by (x ∷ xs) zero all = All-head IsByte x xs all
    by (x ∷ xs) (suc i) all = by xs i (All-tail IsByte x xs all)

-- each below 256
abbrev Are : List ℕ → Type 0
Are [] = Unit {0}
Are (b ∷ bytes) = (b < 256) × Are bytes

bytes_8 : (bytes : List ℕ) → length bytes ≡ 8 → Are bytes → to_le_bytes w64 (word bytes) ≡ bytes
bytes_8 bytes long are = le_bytes_8 bytes _ long (each bytes are) refl
  where
    each : (xs : List ℕ) → Are xs → (i : ℕ) → get_or xs i 0 < 256
    each [] all i = omega arith
    each (x ∷ xs) all zero = all.0
    each (x ∷ xs) all (suc i) = each xs all.1 i

-- ---- registers

-- the first elements of a list, from its places
take_places : (f : ℕ → ℕ) (xs : List ℕ) (a n : ℕ) → ((i : ℕ) → f (a + i) ≡ get_or xs i 0) → length xs ≤ n → take (length xs) (map f (range_with_len a n)) ≡ xs
take_places f [] a n same le = refl
take_places f (x ∷ xs) a zero same le = absurd (omega arith)
take_places f (x ∷ xs) a (suc n) same le =
    let first : f a ≡ x = subst (λ k. f k ≡ x) (omega arith) (same 0) in
    let rest : take (length xs) (map f (range_with_len (a + 1) n)) ≡ xs =
    take_places f xs (a + 1) n (λ i. subst (λ k. f k ≡ get_or xs i 0) (omega arith) (same (suc i))) (omega arith) in
    λ i. first i ∷ rest i

pub queue_back : (r : Register) → IsRegister 24 r → register_from (map (place r) (range_with_len 0 24)) (count r) ≡ r
queue_back (empty b) well = refl
queue_back (holds b bs) well =
    let all : take (length (b ∷ bs)) (map (place (holds b bs)) (range_with_len 0 24)) ≡ b ∷ bs =
    take_places (place (holds b bs)) (b ∷ bs) 0 24 (λ i. ap (place (holds b bs)) (omega arith)) well.fits in
    ap (λ xs. register_of xs b) all

pub one_back : (r : Register) → IsRegister 1 r → register_from (place r 0 ∷ []) (count r) ≡ r
one_back (empty b) well = refl
one_back (holds b []) well = refl
one_back (holds b (x ∷ xs)) well = let f = well.fits in absurd (omega arith)

pub two_back : (r : Register) → IsRegister 2 r → register_from (place r 0 ∷ place r 1 ∷ []) (count r) ≡ r
two_back (empty b) well = refl
two_back (holds b []) well = refl
two_back (holds b (x ∷ [])) well = refl
two_back (holds b (x ∷ y ∷ xs)) well = let f = well.fits in absurd (omega arith)

-- a register of `held` bytes below 256 is within its bounds
pub sound : (room held : ℕ) (bytes : List ℕ) → 0 < room → held ≤ room → length bytes ≡ room → All IsByte bytes → IsRegister room (register_of (take held bytes) (slice_index bytes 0))
sound room held [] some le len all = absurd (omega arith)
sound room zero (b ∷ bs) some le len all =
    record { fits = omega arith; bytes = All-cons IsByte b [] (All-head IsByte b bs all) (All-nil IsByte) }
sound room (suc held) (b ∷ bs) some le len all = record {
  fits = let l = length-take-le held bs (omega arith) in omega arith;
  bytes = All-cons IsByte b (take held bs) (All-head IsByte b bs all) (All-take IsByte held bs (All-tail IsByte b bs all));
}

-- ---- flags and counts

-- the sum of six flags by their weights has each of them as a bit
weight_is : (n : ℕ) (b : Bool) → weight n b ≡ n * weight 1 b
weight_is n b = grind arith

weight_le : (b : Bool) → weight 1 b ≤ 1
weight_le b = grind arith

is_one : (b : Bool) (n : ℕ) → n ≡ weight 1 b → (n == 1) ≡ b
is_one b n is = grind (arith, nat_tests)

flags_back : (f : Flags) → flags_from (flags_byte f) ≡ f
flags_back f =
    let p = weight_le f.p in
    let v = weight_le f.v in
    let m = weight_le f.m in
    let j = weight_le f.j in
    let i = weight_le f.i in
    let q = weight_le f.q in
    let all : flags_byte f ≡ 32 * weight 1 f.p + 16 * weight 1 f.v + 8 * weight 1 f.m + 4 * weight 1 f.j + 2 * weight 1 f.i + weight 1 f.q =
    omega (arith, weight_is 32 f.p, weight_is 16 f.v, weight_is 8 f.m, weight_is 4 f.j, weight_is 2 f.i) in
    let p5 : bit (flags_byte f) 5 ≡ f.p = is_one f.p _ (omega arith) in
    let v4 : bit (flags_byte f) 4 ≡ f.v = is_one f.v _ (omega arith) in
    let m3 : bit (flags_byte f) 3 ≡ f.m = is_one f.m _ (omega arith) in
    let j2 : bit (flags_byte f) 2 ≡ f.j = is_one f.j _ (omega arith) in
    let i1 : bit (flags_byte f) 1 ≡ f.i = is_one f.i _ (omega arith) in
    let q0 : bit (flags_byte f) 0 ≡ f.q = is_one f.q _ (omega arith) in
    λ k. record { p = p5 k; v = v4 k; m = m3 k; j = j2 k; i = i1 k; q = q0 k }

flags_below : (f : Flags) → flags_byte f < 256
flags_below f =
    omega (arith, weight_is 32 f.p, weight_is 16 f.v, weight_is 8 f.m, weight_is 4 f.j, weight_is 2 f.i, weight_le f.p, weight_le f.v, weight_le f.m, weight_le f.j, weight_le f.i, weight_le f.q)

-- ---- the whole

places_back : (r : Register) (first : ℕ) → IsRegister 24 r → to_le_bytes w64 (word (places r first)) ≡ places r first
places_back r first well = bytes_8 (places r first) refl (b _, (b _, (b _, (b _, (b _, (b _, (b _, (b _, tt))))))))
  where
    b : (i : ℕ) → place r i < 256
    b i = place-byte 24 r i well

-- the bytes of registers 2 to 4, and the bounds by their counts
record Short (bank : Bank) : Type 0 where
  second : place bank.r2 0 < 256
  third : place bank.r3 0 < 256
  third_next : place bank.r3 1 < 256
  fourth : place bank.r4 0 < 256
  two : count bank.r2 ≤ 1
  three : count bank.r3 ≤ 2
  four : count bank.r4 ≤ 1

short : {room : ℕ} (bank : Bank) → IsBank room bank → Short bank
short bank well = record {
  second = place-byte 1 bank.r2 0 well.second;
  third = place-byte 2 bank.r3 0 well.third;
  third_next = place-byte 2 bank.r3 1 well.third;
  fourth = place-byte 1 bank.r4 0 well.fourth;
  two = well.second.fits;
  three = well.third.fits;
  four = well.fourth.fits;
}

host_back : (c : State) → IsChip c → to_le_bytes w64 (word (host_bytes c.flags c.to_host)) ≡ host_bytes c.flags c.to_host
host_back c well =
    bytes_8 (host_bytes c.flags c.to_host) refl (omega (arith, flags_below c.flags, short c.to_host well.to_host, well.to_host.first.fits))

para_back : (c : State) → IsChip c → to_le_bytes w64 (word (para_bytes c.to_para)) ≡ para_bytes c.to_para
para_back c well =
    bytes_8 (para_bytes c.to_para) refl (omega (arith, place-byte 1 _ 0 well.to_para.first, short c.to_para well.to_para, well.to_para.first.fits))

-- registers 2 to 4 are read back from their places and their counts, beside the count of the first
short_back : {room : ℕ} (bank : Bank) (n : ℕ) → n < 4 → IsBank room bank → let all : ℕ = counts n (count bank.r2) (count bank.r3) (count bank.r4) in
    (register_from (place bank.r2 0 ∷ []) (all / 4 % 4) ≡ bank.r2)
    × (register_from (place bank.r3 0 ∷ place bank.r3 1 ∷ []) (all / 16 % 4) ≡ bank.r3)
    × (register_from (place bank.r4 0 ∷ []) (all / 64) ≡ bank.r4)
short_back bank n low well =
    let is : Short bank = short bank well in
    let all : ℕ = counts n (count bank.r2) (count bank.r3) (count bank.r4) in
    let k2 : all / 4 % 4 ≡ count bank.r2 = omega arith in
    let k3 : all / 16 % 4 ≡ count bank.r3 = omega arith in
    let k4 : all / 64 ≡ count bank.r4 = omega arith in
    (rw k2 (one_back bank.r2 well.second), rw k3 (two_back bank.r3 well.third), rw k4 (one_back bank.r4 well.fourth))

host_bank : (c : State) → IsChip c → host_from (places c.to_host.r1 0 ++ places c.to_host.r1 8 ++ places c.to_host.r1 16) (host_bytes c.flags c.to_host) ≡ c.to_host
host_bank c well =
    let r1 = queue_back c.to_host.r1 well.to_host.first in
    let others = short_back c.to_host 0 (omega arith) well.to_host in
    λ i. record { r1 = r1 i; r2 = others.0 i; r3 = others.1 i; r4 = others.2 i }

para_bank : (c : State) → IsChip c → para_from (para_bytes c.to_para) ≡ c.to_para
para_bank c well =
    let bank : Bank = c.to_para in
    let one = well.to_para.first.fits in
    let is : Short bank = short bank well.to_para in
    let k1 : counts (count bank.r1) (count bank.r2) (count bank.r3) (count bank.r4) % 4 ≡ count bank.r1 = omega arith in
    let r1 = ap (register_from (place bank.r1 0 ∷ [])) k1 ∙ one_back bank.r1 well.to_para.first in
    let others = short_back bank (count bank.r1) (omega arith) well.to_para in
    λ i. record { r1 = r1 i; r2 = others.0 i; r3 = others.1 i; r4 = others.2 i }

-- the lists of bytes in the words
from_bytes : ℕ → List ℕ → List ℕ → List ℕ → List ℕ → List ℕ → State
from_bytes both b1 b2 b3 b4 b5 = record {
  flags = flags_from (slice_index b4 0);
  to_host = host_from (b1 ++ b2 ++ b3) b4;
  to_para = para_from b5;
  nmis = both % 2 ^ 32;
  resets = both / 2 ^ 32;
}

pub read_back : (c : State) → IsChip c → unpacked_chip (packed_words c) ≡ c
unfolding packed_words unpacked_chip from_bytes
read_back c well =
    let lists : unpacked_chip (packed_words c) ≡ from_bytes (c.nmis + 2 ^ 32 * c.resets) (places c.to_host.r1 0) (places c.to_host.r1 8)
    (places c.to_host.r1 16) (host_bytes c.flags c.to_host) (para_bytes c.to_para) =
    λ i. from_bytes (c.nmis + 2 ^ 32 * c.resets) (places_back c.to_host.r1 0 well.to_host.first i) (places_back c.to_host.r1 8 well.to_host.first i)
    (places_back c.to_host.r1 16 well.to_host.first i) (host_back c well i) (para_back c well i) in
    let n = well.nmis in
    let nmis : (c.nmis + 2 ^ 32 * c.resets) % 2 ^ 32 ≡ c.nmis = omega arith in
    let resets : (c.nmis + 2 ^ 32 * c.resets) / 2 ^ 32 ≡ c.resets = omega arith in
    let flags = flags_back c.flags in
    let host = host_bank c well in
    let para = para_bank c well in
    lists ∙ (λ i. record { flags = flags i; to_host = host i; to_para = para i; nmis = nmis i; resets = resets i })

pub packing-one : PackingIsOneToOne
packing-one c d c_well d_well same = sym (read_back c c_well) ∙ ap unpacked_chip same ∙ read_back d d_well
