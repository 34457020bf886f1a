use Rattle.std.proofs.Common.{◌≡◌, ◌∙◌, ap, ◌+◌, ◌-◌, arith}
use Rattle.raster.specs.State.{State}
use Rattle.raster.specs.CodeSteps.{char_clocks}
use Rattle.raster.proofs.Micros.{chars_more}
use Rattle.raster.proofs.raster.Raster.char_clocks.Goals as goal

pub loop-left-preserved : goal.loop-left-preserved
loop-left-preserved c =
    let ram = c.args.ram.now in
    let font = c.args.font.now.font in
    let left = c.loop-left.left in
    let k = c.some_clocks-left.result in
    let most = c.some_clocks-left.ensures.most in
    let whole = c.loop-left.invariant.1 in
    let done : (c.args.n - left) + k ≡ c.args.n - (left - k) = omega (arith, most, whole) in (
      c.some_clocks-left.ensures.state ∙ ap (λ (t : State). char_clocks ram c.args.size font k t) c.loop-left.invariant.0
          ∙ chars_more ram c.args.size font k (c.args.n - left) c.args.self.now ∙ ap (λ i. char_clocks ram c.args.size font i c.args.self.now) done,
      omega (arith, most, whole),
    )

pub returns : goal.returns
returns c =
    let all : c.args.n - c.loop-left.left ≡ c.args.n = omega arith in
    c.loop-left.invariant.0 ∙ ap (λ i. char_clocks c.args.ram.now c.args.size c.args.font.now.font i c.args.self.now) all
