use Rattle.std.proofs.Common.{rules, ◌≡◌, [], ◌∷◌, ◌++◌}
use Rattle.cmd_stages.proofs.ReadLemmas.{err_is, read_stopped, read_further}
use Rattle.cmd_stages.proofs.read.read_all.Goals as goal

pub returns-in_err-bytes-clause-read : goal.returns-in_err-bytes-clause-read
returns-in_err-bytes-clause-read g c =
    rw (err_is c.from_residual.result c.in_err-bytes.field-0.0 c.from_residual.ensures.1)
    (read_stopped c.args.wants.now _ c.loop-slot.inputs.items _ _ _ c.loop-slot.invariant c.loop-slot-test.true c.loop-slot-item.result c.loop-slot-item.is
    c.in_err-bytes.field-0.0 c.in_err-bytes.ensures.read)

pub loop-slot-preserved : goal.loop-slot-preserved
loop-slot-preserved g c =
    let pushed : c.push.new.self.items ≡ c.loop-slot.inputs.items ++ (c.loop-slot-item.result.0, c.in_ok-bytes.bytes) ∷ [] = search rules in
    rw pushed (read_further c.args.wants.now _ c.loop-slot.inputs.items _ _ _ c.loop-slot.invariant c.loop-slot-test.true c.loop-slot-item.result c.loop-slot-item.is
    c.in_ok-bytes.bytes c.in_ok-bytes.ensures.files c.in_ok-bytes.ensures.read)
