use Rattle.std.proofs.Common.{rules, ◌≡◌, true}
use Rattle.cpu_whole.proofs.Forms.{returned}
use Rattle.cpu_whole.proofs.alone.go_back.Goals as goal

pub returns-clause-done : goal.returns-clause-done
returns-clause-done g c =
    λ t some.
    let yes : c.reads.result ≡ true = search rules in
    let plain = rw (c.word-to.ensures, c.low_byte-low.ensures.byte, c.low_byte-high.ensures.byte, c.stack.ensures, c.stack-2.ensures) at (c.reads.ensures yes) in
    returned c.requires.runs c.requires.row g.M.Plain.is_plain c.requires.uses plain
    (rw (c.move_stack.ensures, c.wrapping_sum-r.ensures, c.word-to.ensures, c.low_byte-low.ensures.byte, c.low_byte-high.ensures.byte, c.stack.ensures, c.stack-2.ensures))
