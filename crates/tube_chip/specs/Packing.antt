-- The form of a chip as six words of 64 bits. (It is this project's profile.)
use Rattle.std.specs.Prelude.{ℕ, ◌≡◌, ◌+◌, ◌*◌, ◌/◌, ◌%◌, ◌^◌, ◌<◌, ◌≤◌, List, [], ◌∷◌, ◌++◌, map, take, get_or, slice_index}
use Rattle.std.specs.List.{All, range_with_len}
use Rattle.std.specs.Int.{w64, from_le_bytes, to_le_bytes}
use Rattle.beeb_bits.specs.Bits.{bit}
use Rattle.tube_chip.specs.Register.{Register, empty, holds, count, register_of}
use Rattle.tube_chip.specs.State.{State, Flags, Bank}
use Rattle.tube_chip.specs.Act.{flags_byte}

-- the bytes that a register holds, or the one that it remembers
abbrev pub shown_bytes : Register → List ℕ
shown_bytes (empty remembered) = remembered ∷ []
shown_bytes (holds front rest) = front ∷ rest

-- It holds no more bytes than it has room for, and each is below 256.
pub record IsRegister (room : ℕ) (r : Register) : Type 0 where
  pub fits : count r ≤ room
  pub bytes : All (λ b. b < 256) (shown_bytes r)

-- four registers; registers 2 to 4 have room for 1, 2 and 1 bytes
pub record IsBank (room : ℕ) (bank : Bank) : Type 0 where
  pub first : IsRegister room bank.r1
  pub second : IsRegister 1 bank.r2
  pub third : IsRegister 2 bank.r3
  pub fourth : IsRegister 1 bank.r4

-- A state is a chip if the lengths of its lists, its bytes and its counts are within their bounds.
pub record IsChip (c : State) : Type 0 where
  pub to_host : IsBank 24 c.to_host
  pub to_para : IsBank 1 c.to_para
  pub nmis : c.nmis < 2 ^ 32
  pub resets : c.resets < 2 ^ 32

-- The byte in a place of a register: the oldest is at place 0, as is the remembered one of an empty
-- register, and 00 follows them.
abbrev pub place : Register → ℕ → ℕ
place r i = get_or (shown_bytes r) i 0

-- eight places of a register
abbrev pub places : Register → ℕ → List ℕ
places r first = map (place r) (range_with_len first 8)

-- eight bytes as a word, the first in its lowest bits
abbrev pub word : List ℕ → ℕ
word bytes = from_le_bytes w64 bytes

-- the numbers of bytes in registers 1 to 4, in two bits each
abbrev pub counts : ℕ → ℕ → ℕ → ℕ → ℕ
counts r1 r2 r3 r4 = r1 + 4 * r2 + 16 * r3 + 64 * r4

-- the flags, and the registers to the host: the count of the first, the counts of the others, and
-- the bytes of these
abbrev pub host_bytes : Flags → Bank → List ℕ
host_bytes flags bank =
    flags_byte flags ∷ count bank.r1 ∷ counts 0 (count bank.r2) (count bank.r3) (count bank.r4)
    ∷ place bank.r2 0 ∷ place bank.r3 0 ∷ place bank.r3 1 ∷ place bank.r4 0 ∷ 0 ∷ []

-- the registers to the parasite: their counts, and their bytes
abbrev pub para_bytes : Bank → List ℕ
para_bytes bank =
    counts (count bank.r1) (count bank.r2) (count bank.r3) (count bank.r4)
    ∷ place bank.r1 0 ∷ place bank.r2 0 ∷ place bank.r3 0 ∷ place bank.r3 1 ∷ place bank.r4 0 ∷ 0 ∷ 0 ∷ []

-- The six words: both counts, the 24 places of register 1 to the host, and the two lists above.
unfoldable pub packed_words : State → List ℕ
packed_words c =
    (c.nmis + 2 ^ 32 * c.resets)
    ∷ word (places c.to_host.r1 0) ∷ word (places c.to_host.r1 8) ∷ word (places c.to_host.r1 16)
    ∷ word (host_bytes c.flags c.to_host) ∷ word (para_bytes c.to_para) ∷ []

-- two chips with the same words are the same
abbrev pub PackingIsOneToOne : Type 0
PackingIsOneToOne = (c d : State) → IsChip c → IsChip d → packed_words c ≡ packed_words d → c ≡ d

-- ---- What the code reads from any six words: of those of a chip, that chip.

abbrev pub flags_from : ℕ → Flags
flags_from byte = record { p = bit byte 5; v = bit byte 4; m = bit byte 3; j = bit byte 2; i = bit byte 1; q = bit byte 0 }

-- a register of these places, of which it holds the first `held`
abbrev pub register_from : List ℕ → ℕ → Register
register_from bytes held = register_of (take held bytes) (slice_index bytes 0)

abbrev pub host_from : List ℕ → List ℕ → Bank
host_from queue bytes = record {
  r1 = register_from queue (slice_index bytes 1);
  r2 = register_from (slice_index bytes 3 ∷ []) (slice_index bytes 2 / 4 % 4);
  r3 = register_from (slice_index bytes 4 ∷ slice_index bytes 5 ∷ []) (slice_index bytes 2 / 16 % 4);
  r4 = register_from (slice_index bytes 6 ∷ []) (slice_index bytes 2 / 64);
}

abbrev pub para_from : List ℕ → Bank
para_from bytes = record {
  r1 = register_from (slice_index bytes 1 ∷ []) (slice_index bytes 0 % 4);
  r2 = register_from (slice_index bytes 2 ∷ []) (slice_index bytes 0 / 4 % 4);
  r3 = register_from (slice_index bytes 3 ∷ slice_index bytes 4 ∷ []) (slice_index bytes 0 / 16 % 4);
  r4 = register_from (slice_index bytes 5 ∷ []) (slice_index bytes 0 / 64);
}

abbrev pub bytes_of : List ℕ → ℕ → List ℕ
bytes_of words i = to_le_bytes w64 (slice_index words i)

unfoldable pub unpacked_chip : List ℕ → State
unpacked_chip words = record {
  flags = flags_from (slice_index (bytes_of words 4) 0);
  to_host = host_from (bytes_of words 1 ++ bytes_of words 2 ++ bytes_of words 3) (bytes_of words 4);
  to_para = para_from (bytes_of words 5);
  nmis = slice_index words 0 % 2 ^ 32;
  resets = slice_index words 0 / 2 ^ 32;
}
