use Rattle.std.proofs.Common.{map}
use Rattle.cmd_stages.proofs.WriteLemmas.{ArePut}
use Rattle.cmd_stages.proofs.write.put_all.Given as goal

abbrev pub invariant-loop-output : goal.invariant-loop-output
invariant-loop-output g l = ArePut (map (g.L.Leaves.file_of l.left) l.outputs) l.output-index (g.O.Outlet.outlet l.initial.out) (g.O.Outlet.outlet l.out)
