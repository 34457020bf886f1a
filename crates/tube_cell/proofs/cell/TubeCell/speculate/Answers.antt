use Rattle.std.proofs.Common.{ap, ◌∙◌}
use Rattle.crossbeam_utils.specs.Seq.{cell_view}
use Rattle.tube_cell.proofs.Learns.{bare_of, cut_kept, learned}
use Rattle.tube_cell.proofs.Raises.{may_speculate, pass_speculated, is_speculated, horizon_speculated}
use Rattle.tube_cell.proofs.cell.TubeCell.speculate.Goals as goal

pub speculate_at-requires-clause-may : goal.speculate_at-requires-clause-may
speculate_at-requires-clause-may g c = may_speculate c.pass.view_is c.pass.invariant.0 c.requires.published _ _ c.requires.side c.requires.later
    c.requires.watches

pub invariant_of-pass : goal.invariant_of-pass
invariant_of-pass g c =
    let v = cell_view c.pass.inside.seat in
    let may = may_speculate c.pass.view_is c.pass.invariant.0 c.requires.published _ _ c.requires.side c.requires.later c.requires.watches in (
      pass_speculated c.pass.invariant.0 (bare_of v c.pass.view_is c.requires.published) may c.in-Ok.ensures.speculated c.in-Ok.ensures.next,
      cut_kept c.pass.inside.side c.pass.inside.cut v (cell_view c.speculate_at.new.seat) c.pass.invariant.1 (bare_of v c.pass.view_is c.requires.published)
          (ap (λ u. u.ahead) c.in-Ok.ensures.speculated ∙ bare_of v c.pass.view_is c.requires.published),
    )

pub returns-in-Ok-clause-speculated : goal.returns-in-Ok-clause-speculated
returns-in-Ok-clause-speculated g c = λ _. is_speculated g.D.GhostEvents.events c.args.t.0 c.pass.view_is c.speculate_at.ensures.cell.0 c.in-Ok.ensures.speculated

pub returns-in-Ok-clause-horizon : goal.returns-in-Ok-clause-horizon
returns-in-Ok-clause-horizon g c = λ is. horizon_speculated c.args.pass.now g.D.GhostEvents.events c.args.t.0 c.requires.side c.requires.later (returns-in-Ok-clause-speculated g c is)

pub returns-in-Err-clause-learns : goal.returns-in-Err-clause-learns
returns-in-Err-clause-learns g c = λ _. learned c.pass.view_is c.pass.invariant.0 c.speculate_at.ensures.cell.0 c.in-Err.ensures.found
