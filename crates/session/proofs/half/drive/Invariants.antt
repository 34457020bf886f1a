use Rattle.tube_party.specs.Turn.{ticks_left}
use Rattle.tube_side.specs.CodeSteps.{IsPaid}
use Rattle.session.specs.CodeSideAndLog.{side_and_log}
use Rattle.session.proofs.InProgress.{IsInProgress}
use Rattle.session.proofs.half.drive.Given as goal

abbrev pub invariant-loop-pause : goal.invariant-loop-pause
invariant-loop-pause g l = record {
  speculation : IsInProgress g.M.Party.transitions l.n.0 l.fn.half.log.keep (side_and_log g.M.Party.state l.fn.half).at l.ask (side_and_log g.M.Party.state l.half);
  paid : IsPaid l.fn.half.pass l.half.pass;
}

abbrev pub decreases-loop-pause : goal.decreases-loop-pause
decreases-loop-pause g l = ticks_left l.n.0 l.ask
