use Rattle.std.proofs.Common.{◌≡◌, drop}
use Rattle.tube_chip.specs.State.{power_on}
use Rattle.tube_trace.specs.FirstWrong.{wrong_from}
use Rattle.tube_trace.proofs.wrong.first_wrong.Given as goal

abbrev pub invariant-loop-place : goal.invariant-loop-place
invariant-loop-place l = wrong_from power_on 0 l.entries ≡ wrong_from l.chip l.place (drop l.place l.entries)
