use Rattle.std.proofs.Common.{map}
use Rattle.cmd_stages.specs.View.{seen_want, seen_input}
use Rattle.cmd_stages.proofs.ReadLemmas.{AreRead}
use Rattle.cmd_stages.proofs.read.read_all.Given as goal

abbrev pub invariant-loop-slot : goal.invariant-loop-slot
invariant-loop-slot g l =
    AreRead g.row.C.Denot (map seen_want l.wants) l.slot-index (map seen_input l.inputs.items) (g.S.Shelf.shelf l.initial.shelf) (g.S.Shelf.shelf l.shelf)
