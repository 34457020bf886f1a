use Rattle.cases_tube.specs.Hands.{IsFit}
use Rattle.cases_tube.proofs.tests.spec_horizon.first_wrong_row.Given as goal

abbrev pub invariant-loop-k : goal.invariant-loop-k
invariant-loop-k g l =
    IsFit l.initial.host.pass.cell l.host.pass l.host.at l.host.is_bare
    × IsFit l.initial.para.pass.cell l.para.pass l.para.at l.para.is_bare
