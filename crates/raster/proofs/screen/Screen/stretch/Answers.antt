use Rattle.std.proofs.Common.{◌≡◌, ◌∙◌, sym, ap, subst, ℕ, ◌<◌, ◌≤◌, min, arith}
use Rattle.crtc6845.specs.Clock.{starts_line}
use Rattle.crtc6845.specs.Spans.{inside_clocks}
use Rattle.raster.specs.State.{State}
use Rattle.raster.specs.Clock.{char_clock_leaves}
use Rattle.raster.specs.CodeSteps.{char_clocks, drawn_ahead}
use Rattle.raster.proofs.Spans.{caught_up}
use Rattle.raster.proofs.screen.Screen.stretch.Goals as goal

below : (n most left all clocks inside : ℕ) → n ≤ most → most ≡ min left all → all ≡ clocks → clocks ≤ inside → n ≤ inside
below n most left all clocks inside a b c d = omega (arith, a, b, c, d)

pub returns-then-n-eq0-clause-state : goal.returns-then-n-eq0-clause-state
returns-then-n-eq0-clause-state c =
    let font = c.args.font.now.font in
    let s = c.args.self.now in
    let same : c.draw_some-n.new.self ≡ s = c.draw_some-n.ensures.drawn ∙ ap (λ (k : ℕ). drawn_ahead c.args.ram.now c.args.size font k s) c.if-n-eq0.true in
    c.clock.ensures.state ∙ ap (λ (t : State). char_clock_leaves c.args.ram.now c.args.size font t) same

pub pass_span-requires-clause-start : goal.pass_span-requires-clause-start
pass_span-requires-clause-start c = ap (λ (t : State). starts_line t.crtc) (c.draw_some-n.ensures.drawn) ∙ c.requires.start

pub pass_span-requires-clause-inside : goal.pass_span-requires-clause-inside
pass_span-requires-clause-inside c =
    let same = c.draw_some-n.ensures.drawn in
    let inside : c.span-span.result.clocks ≤ inside_clocks c.args.self.now.crtc =
    subst (λ (t : State). c.span-span.result.clocks ≤ inside_clocks t.crtc) c.self.view_is c.span-span.ensures.inside in
    let few : c.draw_some-n.result ≤ inside_clocks c.args.self.now.crtc = below _ _ _ _ _ _ c.draw_some-n.ensures.most c.min-most.ensures c.from.ensures inside in
    subst (λ (t : State). c.draw_some-n.result ≤ inside_clocks t.crtc) (sym same) few

pub returns-clause-state : goal.returns-clause-state
returns-clause-state c =
    let some : 0 < c.draw_some-n.result = omega arith in
    let made = c.draw_some-n.ensures in
    caught_up c.args.ram.now c.args.size c.args.font.now.font c.span-span.result c.draw_some-n.result c.args.self.now c.draw_some-n.new.self c.pass_span.new.self
    (made.plain some) (made.counted some) made.drawn c.pass_span.ensures
    ∙ ap (λ (k : ℕ). char_clocks c.args.ram.now c.args.size c.args.font.now.font k c.args.self.now) (sym c.from-2.ensures)
