use Rattle.std.proofs.Common.{◌≡◌, ◌-◌, None}
use Rattle.save_state.specs.Entries.{entries_at}
use Rattle.save_state.proofs.Loop.{with_front}
use Rattle.save_state.proofs.entries.entries_at.Given as goal

abbrev pub invariant-loop : goal.invariant-loop
invariant-loop l =
    with_front l.entries.items (entries_at l.ticks.0 (l.count - l.counter) l.last l.bytes l.next) ≡ entries_at l.ticks.0 l.count None l.bytes l.at
