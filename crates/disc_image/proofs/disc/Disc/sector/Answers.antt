use Rattle.std.proofs.Common.{arith}
use Rattle.disc_image.proofs.Shown.{sector_is}
use Rattle.disc_image.proofs.disc.Disc.sector.Goals as goal

pub returns-clause-value : goal.returns-clause-value
returns-clause-value c =
    let d = c.self.inside in
    rw (← c.self.view_is, c.deref.ensures.value, c.in_ok-start.ensures.value)
    (sector_is d.kind d.len d.whole.items c.args.side c.args.track c.args.sector c.self.invariant c.in_ok-start.ensures.has (omega (arith, c.in_ok-start.ensures.room, c.in_ok-start.ensures.value)))
