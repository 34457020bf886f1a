-- Samples as a sound file. (Microsoft and IBM, Multimedia Programming Interface and Data
-- Specifications, RIFF and the Waveform Audio File Format.)
use Rattle.std.specs.Prelude.{ℕ, ◌+◌, ◌*◌, List, ◌++◌, length, codes, flat_map, ℤ}
use Rattle.std.specs.Int.{w16, w32, cast_unsigned, to_le_bytes}

-- numbers of two bytes and of four, the low byte first
abbrev pub half : ℕ → List ℕ
half n = to_le_bytes w16 n

abbrev pub long : ℕ → List ℕ
long n = to_le_bytes w32 n

abbrev pub sample_bytes : ℤ → List ℕ
sample_bytes s = half (cast_unsigned w16 s)

-- The format: pulse code modulation, one channel, 31,250 samples a second, which are 62,500 bytes,
-- of two bytes and 16 bits each.
unfoldable pub format : List ℕ
format = half 1 ++ half 1 ++ long 31250 ++ long 62500 ++ half 2 ++ half 16

-- the name and the size of a chunk
abbrev pub chunk : List ℕ → ℕ → List ℕ
chunk name size = name ++ long size

-- The bytes before `size` bytes of samples. The file is one chunk, which has the format and the
-- samples as chunks.
unfoldable pub header : ℕ → List ℕ
header size =
    chunk (codes "RIFF") (36 + size) ++ codes "WAVE" ++ chunk (codes "fmt ") 16 ++ format ++ chunk (codes "data") size

-- The file: its header, and the samples in order.
abbrev pub wav : List ℤ → List ℕ
wav samples = header (2 * length samples) ++ flat_map sample_bytes samples
