use Rattle.std.proofs.Common.{rules, ◌≡◌, ◌<◌, true, refl, arith}
use Rattle.cpu_alu.specs.Addresses.{with_pc_past}
use Rattle.cpu_whole.proofs.AtOperand.{changed, value_past}
use Rattle.cpu_whole.proofs.operate.change.Goals as goal

pub returns-clause-done : goal.returns-clause-done
returns-clause-done g c =
    λ some.
    let t = c.args.t in
    let r = c.args.r.now in
    let row = c.args.row in
    let n = c.find-to.result.cycles in
    let went : 0 < n = omega arith in
    let yes : c.writes.result ≡ true = search rules in
    let past : c.move_past.new.self ≡ with_pc_past r row.bytes = c.move_past.ensures in
    changed c.requires.runs.first c.requires.row g.M.Plain.is_plain c.requires.uses c.requires.apart (c.find-to.ensures.reached t went)
    (c.writes.ensures.read yes) (c.writes.ensures.written yes) refl
    (rw (c.change-value.ensures.regs, past, c.byte-byte.ensures)) (rw (c.put.ensures.put, c.change-value.ensures.value, past, value_past row.mnemonic r row.bytes, c.byte-byte.ensures))
