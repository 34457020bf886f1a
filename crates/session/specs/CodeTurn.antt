-- One step of a side that asks.
use Rattle.std.specs.Prelude.{◌≡◌, Some}
use Rattle.tube_chip.specs.declared.Answer.{Answer}
use Rattle.tube_chip.specs.Act.{Query}
use Rattle.tube_trace.specs.Entries.{entry_of}
use Rattle.tube_party.specs.Transitions.{Transitions}
use Rattle.tube_party.specs.Logs.{HasNoted}
use Rattle.tube_side.specs.CodeSteps.{HasDone}
use Rattle.session.specs.CodeSideAndLog.{SideAndLog}

-- The step that asks was done at the cell with some answer, and noted if it is an access.
pub record Turned {S : Type 0} (m : Transitions S) (x y : SideAndLog S) : Type 0 where
  pub query : Query
  pub answer : Answer
  pub asks : m.asks x.at.state ≡ Some query
  pub done : HasDone (m.due x.at.state) query answer x.at.pass y.at.pass
  pub noted : HasNoted (entry_of (m.due x.at.state) x.at.pass.side query answer) x.log y.log
  pub state_is : y.at.state ≡ m.next x.at.state (Some answer)
