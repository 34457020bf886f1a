use Rattle.std.proofs.Common.{Err}
use Rattle.cmd_stages.specs.declared.stop.Stop.TheVariants.{NoMemory}
use Rattle.cmd_stages.proofs.ReadLemmas.{err_is}
use Rattle.cmd_stages.proofs.WriteLemmas.{puts_named, puts_wanting, puts_stopped, puts_more}
use Rattle.cmd_stages.proofs.write.put_all.Goals as goal

pub returns-in_err-name-clause-puts : goal.returns-in_err-name-clause-puts
returns-in_err-name-clause-puts g c =
    rw (err_is c.from_residual.result NoMemory c.from_residual.ensures.1)
    (puts_wanting g.L.Leaves.file_of c.args.left.now c.args.outputs.now c.loop-output.invariant c.loop-output-test.true g.row.C.Denot)

pub returns-in_err-put-clause-puts : goal.returns-in_err-put-clause-puts
returns-in_err-put-clause-puts g c =
    rw (err_is c.from_residual-in_err-put.result c.in_err-put.field-0.0 c.from_residual-in_err-put.ensures.1)
    (puts_stopped g.L.Leaves.file_of c.args.left.now c.args.outputs.now c.loop-output.invariant c.loop-output-test.true _ _ _ c.output-item.is c.in_ok-name.ensures
    c.in_err-put.field-0.0
    (puts_named {C = g.row.C.Denot} _ _ _ _ (g.O.Outlet.outlet c.loop-output.out) (g.O.Outlet.outlet c.put.new.out) (Err c.in_err-put.field-0.0)
    c.as_str.ensures.value c.as_slice.ensures.value c.in_err-put.ensures.puts))

pub loop-output-preserved : goal.loop-output-preserved
loop-output-preserved g c =
    let one = rw (c.as_str.ensures.value, c.as_slice.ensures.value) at c.in_ok-put.ensures.puts in
    puts_more g.L.Leaves.file_of c.args.left.now c.args.outputs.now c.loop-output.invariant c.loop-output-test.true _ _ _ c.output-item.is c.in_ok-name.ensures one.0 one.1
    c.in_ok-put.ensures.counts
