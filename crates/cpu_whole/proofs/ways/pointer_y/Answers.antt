use Rattle.std.proofs.Common.{◌≡◌, ◌||◌, true, refl}
use Rattle.cpu_alu.specs.Addresses.{crosses_page}
use Rattle.cpu_whole.proofs.Operands.{pointer_y}
use Rattle.cpu_whole.proofs.ways.pointer_y.Goals as goal

pub returns-clause-reached : goal.returns-clause-reached
returns-clause-reached g c =
    λ t some.
    let low = rw c.requires.first at c.low_byte-low.ensures.read in
    let next = rw (c.in_zero_page.ensures, c.requires.first) at c.low_byte-high.ensures.read in
    let idle = λ (h : (c.args.always || crosses_page c.low_byte-low.result c.args.r.now.y) ≡ true).
    rw (c.low_byte-low.ensures.byte, c.low_byte-high.ensures.byte, c.in_zero_page.ensures, c.requires.first) at (c.indexed.ensures.idle some h _ c.requires.runs.second) in
    rw (c.indexed.ensures.at, c.indexed.ensures.cycles some, c.low_byte-low.ensures.byte, c.low_byte-high.ensures.byte, c.in_zero_page.ensures, c.requires.first)
    (pointer_y _ _ _ c.requires.runs _ refl low next
    (λ h. idle (rw (c.low_byte-low.ensures.byte, c.requires.first) h)))
