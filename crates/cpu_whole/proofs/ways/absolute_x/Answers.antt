use Rattle.std.proofs.Common.{◌≡◌, ◌||◌, true, refl}
use Rattle.cpu_alu.specs.Addresses.{crosses_page}
use Rattle.cpu_whole.proofs.Operands.{absolute_x}
use Rattle.cpu_whole.proofs.ways.absolute_x.Goals as goal

pub returns-clause-reached : goal.returns-clause-reached
returns-clause-reached g c =
    λ t some.
    let idle = λ (h : (c.args.always || crosses_page c.args.first c.args.r.now.x) ≡ true).
    rw (c.requires.first, c.byte-high.ensures, c.place.ensures) at (c.indexed.ensures.idle some h _ c.requires.runs.third) in
    rw (c.indexed.ensures.at, c.indexed.ensures.cycles some, c.requires.first, c.byte-high.ensures, c.place.ensures)
    (absolute_x _ _ _ c.requires.runs _ refl (λ h. idle (rw c.requires.first h)))
