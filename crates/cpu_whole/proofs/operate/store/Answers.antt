use Rattle.std.proofs.Common.{rules, ◌≡◌, ◌<◌, true, refl, arith}
use Rattle.cpu_whole.proofs.AtOperand.{stored, for_stores}
use Rattle.cpu_whole.proofs.operate.store.Goals as goal

pub returns-clause-done : goal.returns-clause-done
returns-clause-done g c =
    λ some.
    let went : 0 < c.find-to.result.cycles = omega arith in
    let yes : c.writes.result ≡ true = search rules in
    stored c.requires.runs.first c.requires.row c.requires.uses (for_stores (c.find-to.ensures.reached c.args.t went)) (c.writes.ensures.written yes) refl c.move_past.ensures
    (rw (c.put.ensures.put, c.stored.ensures))
