use Rattle.std.proofs.Common.{rules, ◌≡◌, ◌∙◌, ◌==◌, true, false}
use Rattle.video_ula.proofs.DotLemmas.{has_eights, sixteen_by_table}
use Rattle.video_ula.proofs.ula.Ula.dots.Goals as goal

pub dots-requires : goal.dots-requires
dots-requires c =
    let none : (c.self.inside.ready.waits == 0) ≡ true = search rules in
    has_eights _ _ c.self.inside.ready c.self.invariant.2 none

pub returns-then-is_ready : goal.returns-then-is_ready
returns-then-is_ready c =
    let none : (c.self.inside.ready.waits == 0) ≡ true = search rules in
    let off : c.args.cursor ≡ false = search rules in
    rw (off, ← c.self.view_is) (c.dots.ensures.dots ∙ sixteen_by_table _ _ c.args.byte c.self.inside.ready c.self.invariant.2 none c.ranges.byte.fits)
