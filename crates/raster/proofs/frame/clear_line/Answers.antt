use Rattle.std.proofs.Common.{◌∙◌, ap, length}
use Rattle.beeb_bits.specs.Zeros.{zeros, zeros-are}
use Rattle.raster.proofs.frame.clear_line.Goals as goal

pub returns : goal.returns
returns c = zeros-are (length c.args.dots.now) c.fill.new.self (c.fill.ensures.after (λ y e. e)) ∙ ap (λ n. zeros n) c.requires
