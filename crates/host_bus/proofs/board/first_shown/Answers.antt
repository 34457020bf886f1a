use Rattle.std.proofs.Common.{◌≡◌, ◌++◌, length, take, drop, arith}
use Rattle.std.proofs.lemmas.Grind.{common_steps}
use Rattle.beeb_bits.specs.Zeros.{zeros-at}
use Rattle.host_bus.proofs.board.first_shown.Goals as goal

pub cover_first-requires-clause-clear : goal.cover_first-requires-clause-clear
cover_first-requires-clause-clear c = λ at. rw (c.deref_mut.ensures.value, c.in_ok-shown.ensures.items) (zeros-at 65536 at)

pub returns-clause-shows : goal.returns-clause-shows
returns-clause-shows c =
    let v = c.in_ok-shown.shown in
    let new = c.cover_first.new.shown in
    let same : new ≡ take v.len (new ++ drop (length new) v.items) = grind (arith, common_steps) in
    rw (← same) c.cover_first.ensures.shows
