use Rattle.std.proofs.Common.{◌+◌, length}
use Rattle.tube_party.specs.Turn.{ticks_left}
use Rattle.tube_party.specs.GoingOn.{after_entries}
use Rattle.tube_party.specs.CodePassing.{chip_port_state}
use Rattle.tube_party.proofs.InProgress.{run_of, mark_of}
use Rattle.tube_party.proofs.Both.{rest_of}
use Rattle.tube_party.proofs.Passing.{IsKeptUp}
use Rattle.tube_party.proofs.one_thread.go_on_from.Given as goal

abbrev pub invariant-loop-side : goal.invariant-loop-side
invariant-loop-side g l =
    IsKeptUp (run_of g.met.H.Party.lawful g.met.P.Party.lawful l.n.0 (length l.entries) l.fn.room.keep
    (after_entries (g.H.Party.state l.fn.host) (g.P.Party.state l.fn.para) l.entries)) l.is_ahead
    (mark_of (g.P.Party.state (g.P.Rewinds.before l.past l.para)) l.mark.len l.mark.count) (g.H.Party.state l.host) (g.P.Party.state l.para)
    l.host_ask l.para_ask l.lines (chip_port_state l.chip_port)

abbrev pub decreases-loop-side : goal.decreases-loop-side
decreases-loop-side g l =
    ticks_left l.n.0 l.host_ask + rest_of g.P.Party.transitions l.n.0 l.is_ahead (g.P.Party.state (g.P.Rewinds.before l.past l.para)) l.para_ask
