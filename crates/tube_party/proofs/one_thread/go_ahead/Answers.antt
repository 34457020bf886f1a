use Rattle.std.proofs.Common.{refl}
use Rattle.tube_party.proofs.one_thread.go_ahead.Goals as goal

pub returns-then-not-may_go_ahead : goal.returns-then-not-may_go_ahead
returns-then-not-may_go_ahead g c = record { far = c.args.ahead.0; goes = λ no. cc; stays = λ _. (refl, refl, refl) }

pub returns-in-None : goal.returns-in-None
returns-in-None g c = record { far = c.args.ahead.0; goes = λ no. cc; stays = λ _. (refl, c.in-None.ensures.0, c.in-None.ensures.1) }
