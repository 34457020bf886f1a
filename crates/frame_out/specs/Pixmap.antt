-- The bytes of a frame as a pixmap. (Netpbm, the PPM format, raw.)
use Rattle.std.specs.Prelude.{ℕ, Bool, List, [], ◌∷◌, ◌++◌, codes, flat_map, if◌then◌else◌}
use Rattle.beeb_bits.specs.Bits.{bit}

-- a pixmap of 640 by 256 pixels, with samples up to 255
abbrev pub header : List ℕ
header = codes "P6\n640 256\n255\n"

abbrev pub sample : Bool → ℕ
sample on = if on then 0xFF else 0x00

-- a colour as its red, green and blue
abbrev pub pixel : ℕ → List ℕ
pixel colour = sample (bit colour 0) ∷ sample (bit colour 1) ∷ sample (bit colour 2) ∷ []

-- the header, and then the pixels in the order of the frame's colours: by rows from the top
abbrev pub pixmap : List ℕ → List ℕ
pixmap colours = header ++ flat_map pixel colours
