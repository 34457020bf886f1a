use Rattle.tube_cell.specs.declared.local.Readings.{Readings}
use Rattle.session.specs.CodePort.{shown}
use Rattle.session.proofs.ObservationLemmas.{IsAt, HasGone}
use Rattle.session.proofs.observe.observe_at.Given as goal

abbrev pub invariant-loop : goal.invariant-loop
invariant-loop g l =
    let r : Readings = record { lines = l.lines; status = l.fn.port.status } in
    record {
      can_next : (goal.iterator-loop g).can_next l.iterator';
      finite : (goal.iterator-loop g).is_finite l.iterator';
      at : IsAt l.fn.port.side r l.fn.port.below.0 (shown l.port);
      gone : HasGone g.M.Party.transitions l.fn.port.side l.n.0 r l.fn.port.below.0 (g.M.Party.state l.fn.machine) l.fn.port.log (g.M.Party.state l.machine) l.port.log;
    }
