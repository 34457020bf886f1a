use Rattle.std.proofs.Common.{◌≡◌}
use Rattle.cpu_whole.proofs.Forms.{accumulator}
use Rattle.cpu_whole.proofs.RowBytes.{of_accumulator}
use Rattle.cpu_whole.proofs.alone.accumulator.Goals as goal

pub returns-clause-done : goal.returns-clause-done
returns-clause-done g c =
    λ t.
    let one : c.args.row.bytes ≡ 1 = of_accumulator c.args.part _ c.requires.row c.requires.uses.kind c.requires.mode in
    accumulator c.requires.runs c.requires.row c.requires.uses c.requires.mode c.move_past.new.self.a (rw (c.change.ensures.regs, c.move_past.ensures, one))
