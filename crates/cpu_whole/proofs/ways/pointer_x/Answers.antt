use Rattle.std.proofs.Common.{◌≡◌, ◌+◌, ◌%◌, arith}
use Rattle.cpu_whole.proofs.Operands.{idle_read, pointer_x}
use Rattle.cpu_whole.proofs.ways.pointer_x.Goals as goal

pub returns-clause-reached : goal.returns-clause-reached
returns-clause-reached g c =
    λ t.
    let low = g.M.Plain.is_plain.low_read c.args.first (omega arith) in
    let idle = idle_read g.M.Plain.reach c.args.part _ _ (rw c.requires.first at low) c.requires.runs.second in
    let sum : (c.args.first + (c.args.r.now.x + 1)) % 256 ≡ (c.args.first + c.args.r.now.x + 1) % 256 = omega arith in
    let first = rw (c.in_zero_page.ensures, c.requires.first) at c.low_byte-low.ensures.read in
    let next = rw (c.in_zero_page-2.ensures, sum, c.requires.first) at c.low_byte-high.ensures.read in
    rw (c.word.ensures, c.low_byte-low.ensures.byte, c.low_byte-high.ensures.byte, c.in_zero_page.ensures, c.in_zero_page-2.ensures, sum, c.requires.first)
    (pointer_x _ _ _ c.requires.runs idle first next)
