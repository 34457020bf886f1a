use Rattle.std.proofs.Common.{arith}
use Rattle.cpu_whole.proofs.Operands.{idle_read, zero_page_x}
use Rattle.cpu_whole.proofs.ways.zero_page_x.Goals as goal

pub returns-clause-reached : goal.returns-clause-reached
returns-clause-reached g c =
    λ t.
    let low = g.M.Plain.is_plain.low_read c.args.first (omega arith) in
    let idle = idle_read g.M.Plain.reach c.args.part _ _ (rw c.requires.first at low) c.requires.runs.second in
    rw (c.in_zero_page.ensures, c.requires.first) (zero_page_x _ _ _ c.requires.runs idle)
