use Rattle.std.proofs.Common.{◌≡◌, ◌∙◌, sym, suc, ◌-◌, arith}
use Rattle.raster.proofs.RestMany.{with_none, with_one, with_more, rest_is_many, settled_too}
use Rattle.raster.proofs.screen.Screen.rest.Goals as goal

pub returns-then-frames-eq0 : goal.returns-then-frames-eq0
returns-then-frames-eq0 c =
    let s = c.args.self.now in
    let fall = c.fall-frames.ensures in
    let many = with_none c.args.n s _ fall.state (sym fall.frames ∙ c.if-frames-eq0.true) in
    record {
      state = λ ram size font. many ∙ rest_is_many c.args.n ram size font s c.clocks_at_rest_are_alike.ensures c.requires fall.bound;
      quiet = settled_too c.args.n s _ c.clocks_at_rest_are_alike.ensures c.requires fall.bound many;
    }

pub returns-then-frames-eq1 : goal.returns-then-frames-eq1
returns-then-frames-eq1 c =
    let s = c.args.self.now in
    let fall = c.fall-frames.ensures in
    let many = with_one c.args.n s _ _ fall.state c.finish.ensures (sym fall.frames ∙ c.if-frames-eq1.true) in
    record {
      state = λ ram size font. many ∙ rest_is_many c.args.n ram size font s c.clocks_at_rest_are_alike.ensures c.requires fall.bound;
      quiet = settled_too c.args.n s _ c.clocks_at_rest_are_alike.ensures c.requires fall.bound many;
    }

pub returns : goal.returns
returns c =
    let s = c.args.self.now in
    let fall = c.fall-frames.ensures in
    let more : c.fall-frames.result ≡ suc (suc (c.fall-frames.result - 2)) = omega (arith, c.if-frames-eq0.false, c.if-frames-eq1.false) in
    let many = with_more c.args.n s _ _ _ fall.state c.finish.ensures c.finish-2.ensures (c.fall-frames.result - 2) (sym fall.frames ∙ more) in
    record {
      state = λ ram size font. many ∙ rest_is_many c.args.n ram size font s c.clocks_at_rest_are_alike.ensures c.requires fall.bound;
      quiet = settled_too c.args.n s _ c.clocks_at_rest_are_alike.ensures c.requires fall.bound many;
    }
