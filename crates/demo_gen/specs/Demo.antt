-- The demonstration pair: a program for each machine, and 256 drawn bytes that the second processor
-- sends.
use Rattle.std.specs.Prelude.{ℕ, zero, suc, ◌≡◌, ◌%◌, length, List, [], ◌∷◌, ◌++◌, map, take, drop, codes, Result, Ok, Err}
use Rattle.rand_pcg.specs.Lcg.{Lcg, started, increment_of}
use Rattle.rand_pcg.specs.Pcg.{pcg32, multiplier_64}
use Rattle.asm65.specs.declared.AsmError.{AsmError}
use Rattle.op_table.specs.declared.Part.TheVariants.{Nmos, Cmos}
use Rattle.asm65.specs.Source.{Program, source}

-- the host takes bytes from the Tube's register 1, stores each at 2000 + X, and their sum at 0070
-- and 0071
unfoldable pub host_text : List ℕ
host_text =
    codes "org &C000\nstart: LDX #0\nSTX &70\nSTX &71\nwait: BIT &FEE0\nBPL wait\nLDA &FEE1\nSTA &2000,X\nCLC\nADC &70\nSTA &70\nBCC next\nINC &71\nnext: INX\nJMP wait\norg &FFFA\nword start, start, start\n"

-- the second processor copies its ROM to the RAM below it, and sends the 256 bytes at F900 sixteen
-- times
unfoldable pub tube_text : List ℕ
tube_text =
    codes "org &F800\nstart: LDX #0\ncopy: LDA &F800,X\nSTA &F800,X\nLDA &F900,X\nSTA &F900,X\nINX\nBNE copy\nLDY #16\nsend: BIT &FEF8\nBVC send\nLDA &F900,X\nSTA &FEF9\nINX\nBNE send\nDEY\nBNE send\nstop: JMP stop\norg &FFFA\nword start, start, start\n"

-- the first n words of a generator (PCG, XSH RR 64/32), of 32 bits each
unfoldable pub words : ℕ → Lcg → List ℕ
words zero g = []
words (suc n) g = (pcg32 g).0 ∷ words n (pcg32 g).1

-- the low bytes of the first 256 words of the generator of a seed and stream 0
abbrev pub drawn_bytes : ℕ → List ℕ
drawn_bytes seed = map (λ w. w % 256) (words 256 (started 64 multiplier_64 seed (increment_of 64 0)))

-- an image that begins at F800, with `bytes` at F900 to F9FF
abbrev pub image_with : List ℕ → List ℕ → List ℕ
image_with bytes image = take 256 image ++ bytes ++ drop 512 image

-- the image of a source text's program
abbrev pub image_of : Result Program AsmError → Result (List ℕ) AsmError
image_of (Ok program) = Ok program.1
image_of (Err e) = Err e

-- the image of a source text's program, with `bytes` at F900 to F9FF
abbrev pub image_holding : List ℕ → Result Program AsmError → Result (List ℕ) AsmError
image_holding bytes (Ok program) = Ok (image_with bytes program.1)
image_holding bytes (Err e) = Err e

-- Both texts have images of the lengths that the machines require: 16,384 bytes for an operating
-- system, and 2,048 for a boot ROM.
pub record HasFittingImages (seed : ℕ) : Type 0 where
  pub os : List ℕ
  pub os_is : image_of (source Nmos host_text) ≡ Ok os
  pub os_fits : length os ≡ 16384
  pub tube : List ℕ
  pub tube_is : image_holding (drawn_bytes seed) (source Cmos tube_text) ≡ Ok tube
  pub tube_fits : length tube ≡ 2048

abbrev pub ImagesFit : Type 0
ImagesFit = (seed : ℕ) → HasFittingImages seed
