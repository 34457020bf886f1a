use Rattle.std.proofs.Common.{◌≡◌, ◌+◌, ◌*◌, ◌∙◌, sym, ap, ℕ, arith}
use Rattle.raster.specs.CodeSteps.{char_clocks}
use Rattle.raster.proofs.Micros.{chars_more}
use Rattle.raster.proofs.raster.Raster.char_clock_pairs.Goals as goal

pub returns-then-n : goal.returns-then-n
returns-then-n c =
    let ram = c.args.ram.now in
    let font = c.args.font.now.font in
    let n = c.args.n in
    let all : 2 * n ≡ n + n = omega arith in
    c.char_clocks.ensures ∙ ap (λ (k : ℕ). char_clocks ram c.args.size font k c.args.self.now) all
    ∙ sym (chars_more ram c.args.size font n n c.args.self.now)
