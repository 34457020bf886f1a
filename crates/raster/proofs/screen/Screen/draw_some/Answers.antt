use Rattle.std.proofs.Common.{◌≡◌, ◌∙◌, sym, refl, Bool, true, false, true≢false}
use Rattle.std.specs.Prelude.{not}
use Rattle.raster.proofs.Spans.{hidden_drawn}
use Rattle.raster.proofs.screen.Screen.draw_some.Goals as goal

is_off : (b : Bool) → not b ≡ true → b ≡ false
is_off false h = refl
is_off true h = absurd (true≢false (sym h))

pub returns-then-not-span-clause-drawn : goal.returns-then-not-span-clause-drawn
returns-then-not-span-clause-drawn c =
    let far = c.is_cursor_far.ensures in
    let hidden = is_off c.args.span.shown c.if-not-span.true in
    hidden_drawn c.args.ram.now c.args.size c.args.font.now.font c.args.span c.args.n c.args.self.now
    (record {
      told = c.requires.told;
      cursor = c.if-span.false;
      sync = λ shown. absurd (true≢false (sym shown ∙ hidden));
      far = far.far c.if-not-is_cursor_far.false;
    })
    hidden far.counted
