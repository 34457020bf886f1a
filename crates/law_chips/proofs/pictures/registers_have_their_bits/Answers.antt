use Rattle.law_chips.proofs.Rasters.{registers_have_their_bits, rasters_have_their_bits}
use Rattle.law_chips.proofs.pictures.registers_have_their_bits.Goals as goal

pub returns : goal.returns
returns c = record { chip = registers_have_their_bits; raster = rasters_have_their_bits }
