use Rattle.std.proofs.Common.{◌≡◌, ◌∙◌, sym, ap, true}
use Rattle.crtc6845.specs.CodeSteps.{is_quiet}
use Rattle.raster.specs.Clock.{show_leaves, pass_leaves}
use Rattle.raster.specs.contracts.screen.Screen.{the_view}
use Rattle.raster.proofs.Quiet.{settles}
use Rattle.raster.proofs.Told.{told_after}
use Rattle.raster.proofs.screen.Screen.clock.Goals as goal

pub returns-clause-state : goal.returns-clause-state
returns-clause-state c =
    let beam = c.clock-beam.result in
    told_after c.args.ram.now c.args.size c.args.font.now.font (the_view c.self.inside) c.args.self.now beam c.clock-beam.new.self _ c.self.view_is c.clock-beam.ensures.beam
    c.clock-beam.ensures.state
    (c.pass.ensures ∙ ap (pass_leaves beam) (c.show.ensures ∙ ap (show_leaves c.args.ram.now c.args.size c.args.font.now.font beam) c.begin.ensures))

pub returns-clause-quiet : goal.returns-clause-quiet
returns-clause-quiet c = λ settled.
    let beam = c.clock-beam.result in
    let before = the_view c.self.inside in
    let is = c.is_settled.ensures in
    let quiet : is_quiet before.crtc ≡ true = sym c.is_quiet-rests.ensures ∙ is.rests settled in
    settles c.args.ram.now c.args.size c.args.font.now.font before c.pass.new.self c.clock-beam.new.self beam (c.clocks_at_rest_are_alike.ensures before.crtc quiet)
    c.clock-beam.ensures.beam c.clock-beam.ensures.state
    (c.pass.ensures ∙ ap (pass_leaves beam) (c.show.ensures ∙ ap (show_leaves c.args.ram.now c.args.size c.args.font.now.font beam) c.begin.ensures))
    (is.clock settled) (is.far settled) (is.back settled ∙ c.x-before.ensures.value)
