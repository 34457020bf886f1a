use Rattle.std.proofs.Common.{arith}
use Rattle.cpu_whole.proofs.Forms.{called}
use Rattle.cpu_whole.proofs.alone.call.Goals as goal

pub returns-clause-done : goal.returns-clause-done
returns-clause-done g c =
    λ some.
    called c.requires.runs c.requires.row g.M.Plain.is_plain c.requires.uses
    (rw (c.put-2.ensures.put, c.put.ensures.put, c.stack-top.ensures, c.stack.ensures, c.place-back.ensures))
    (rw (c.move_stack.ensures, c.word-r.ensures, c.requires.first, c.byte-high.ensures, c.place-back.ensures))

pub returns-clause-order : goal.returns-clause-order
returns-clause-order g c = g.M.Plain.later (g.M.Plain.state c.put-2.new.self) c.args.t 5 6 c.put-2.ensures.order (omega arith)
