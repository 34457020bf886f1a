use Rattle.tube_chip.proofs.Rises.{status_leaves}
use Rattle.tube_party.proofs.cursor.is_status.Goals as goal

pub returns-then-number-lt8-clause-stays : goal.returns-then-number-lt8-clause-stays
returns-then-number-lt8-clause-stays c = λ is chip side. rw c.in-Read.is (status_leaves chip side c.in-Read.number is)
