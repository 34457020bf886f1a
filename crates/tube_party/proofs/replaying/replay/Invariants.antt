use Rattle.std.proofs.Common.{◌≡◌, ◌≤◌, ◌<◌, ◌-◌, ℕ, length, drop}
use Rattle.tube_chip.specs.State.{power_on, lines_of}
use Rattle.tube_party.specs.Replay.{chip_before, replay_of}
use Rattle.tube_party.proofs.ReplayLemmas.{Goes}
use Rattle.tube_party.proofs.replaying.replay.Given as goal

abbrev pub invariant-steps : goal.invariant-steps
invariant-steps g l = record {
  -- what is still to be done leads to the whole replay's end
  goes : Goes g.M.Party.transitions l.side l.trace l.n.0 (replay_of g.M.Party.transitions l.side l.trace l.n.0 (g.M.Party.state l.fn.machine)) (g.M.Party.state l.machine) l.own.left;
  own_lines : l.own.lines ≡ length l.trace;
  seen_within : l.seen ≤ length l.trace;
  -- looks from here on see the lines below a tick, and from that tick on come after the entries
  -- that are done
  early : (t : ℕ) → g.M.Party.transitions.due (g.M.Party.state l.machine) ≤ t → t < l.safe_until.0 → lines_of (chip_before l.side t power_on l.trace) ≡ l.lines;
  late : (t : ℕ) → g.M.Party.transitions.due (g.M.Party.state l.machine) ≤ t → l.safe_until.0 ≤ t → t < 1073741824
      → chip_before l.side t power_on l.trace ≡ chip_before l.side t l.chip (drop l.seen l.trace);
}

abbrev pub decreases-steps : goal.decreases-steps
decreases-steps g l = l.n.0 - g.M.Party.transitions.due (g.M.Party.state l.machine)
