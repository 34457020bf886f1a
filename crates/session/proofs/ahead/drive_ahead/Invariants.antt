use Rattle.std.proofs.Common.{◌≡◌, [], IsTrue}
use Rattle.tube_side.specs.CodeSteps.{IsPaid}
use Rattle.session.specs.CodeSideAndLog.{side_and_log}
use Rattle.session.proofs.InProgress.{IsInProgress}
use Rattle.session.proofs.ahead.drive_ahead.Given as goal

abbrev pub invariant-loop : goal.invariant-loop
invariant-loop g l = record {
  can_next : (goal.iterator-loop g).can_next l.iterator';
  finite : (goal.iterator-loop g).is_finite l.iterator';
  speculation : IsInProgress g.M.Party.transitions l.n.0 l.fn.half.log.keep (side_and_log g.M.Party.state l.fn.half).at l.ask (side_and_log g.M.Party.state l.half);
  paid : IsPaid l.fn.half.pass l.half.pass;
  published : IsTrue l.is_published → l.half.pass.ahead ≡ [];
}
