use Rattle.cpu_whole.proofs.Operands.{pointer}
use Rattle.cpu_whole.proofs.ways.pointer.Goals as goal

pub returns-clause-reached : goal.returns-clause-reached
returns-clause-reached g c =
    λ t.
    let low = rw c.requires.first at c.low_byte-low.ensures.read in
    let next = rw (c.in_zero_page.ensures, c.requires.first) at c.low_byte-high.ensures.read in
    rw (c.word.ensures, c.low_byte-low.ensures.byte, c.low_byte-high.ensures.byte, c.in_zero_page.ensures, c.requires.first)
    (pointer _ _ _ c.requires.runs low next)
