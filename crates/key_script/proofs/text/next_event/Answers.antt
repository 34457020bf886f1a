use Rattle.std.proofs.Common.{sym, ap, ◌∷◌, Option}
use Rattle.key_script.specs.declared.Event.{Event}
use Rattle.key_script.specs.Text.{events_of}
use Rattle.key_script.proofs.text.next_event.Goals as goal

pub returns-in_err-event-clause-lines : goal.returns-in_err-event-clause-lines
returns-in_err-event-clause-lines c =
    let rest = events_of c.first_line.result.1.now in
    rw c.from_residual.ensures (rest, rw c.first_line.ensures.lines (ap (λ (e : Option Event). e ∷ rest) (sym c.in_err-event.ensures.value)))

pub returns-clause-lines : goal.returns-clause-lines
returns-clause-lines c = rw c.first_line.ensures.lines (ap (λ (e : Option Event). e ∷ events_of c.first_line.result.1.now) (sym c.in_ok-event.ensures.value))
