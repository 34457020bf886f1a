use Rattle.std.proofs.Common.{◌≡◌, ◌∙◌, sym, ap, ℕ, ◌<◌, arith}
use Rattle.raster.specs.State.{State}
use Rattle.raster.specs.Clock.{show_leaves, pass_leaves}
use Rattle.raster.specs.CodeSteps.{char_clocks, bytes_put}
use Rattle.raster.specs.contracts.screen.Screen.{the_view}
use Rattle.raster.proofs.Told.{told_after}
use Rattle.raster.proofs.FromStart.{from_start}
use Rattle.raster.proofs.screen.Screen.stretch_from_start.Goals as goal

pub returns-then-n-eq0-clause-state : goal.returns-then-n-eq0-clause-state
returns-then-n-eq0-clause-state c =
    let ram = c.args.ram.now in
    let font = c.args.font.now.font in
    let first = c.clock-first.result in
    let t = c.begin.new.self in
    let same : c.draw_from_first-n.new.self ≡ t =
    c.draw_from_first-n.ensures.put ∙ ap (λ (k : ℕ). bytes_put ram c.args.size first.ma first.ra k t) c.if-n-eq0.true in
    told_after ram c.args.size font (the_view c.self.inside) c.args.self.now first c.clock-first.new.self _ c.self.view_is c.clock-first.ensures.beam
    c.clock-first.ensures.state
    (c.pass.ensures ∙ ap (λ (s : State). pass_leaves first s) (c.show.ensures ∙ ap (λ (s : State). show_leaves ram c.args.size font first s) (same ∙ c.begin.ensures)))

pub returns-clause-state : goal.returns-clause-state
returns-clause-state c =
    let ram = c.args.ram.now in
    let font = c.args.font.now.font in
    let n = c.draw_from_first-n.result in
    let some : 0 < n = omega arith in
    from_start ram c.args.size font c.clock-first.result n (the_view c.self.inside) c.args.self.now c.begin.new.self c.draw_from_first-n.new.self _ c.clock-first.new.self
    c.self.view_is c.clock-first.ensures.beam c.clock-first.ensures.state c.begin.ensures c.requires.end
    some (c.draw_from_first-n.ensures.behind some) c.draw_from_first-n.ensures.put c.pass_row.ensures
    ∙ ap (λ (k : ℕ). char_clocks ram c.args.size font k c.args.self.now) (sym c.from.ensures)
