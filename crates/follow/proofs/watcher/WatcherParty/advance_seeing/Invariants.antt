use Rattle.std.proofs.Common.{ℕ, ◌-◌}
use Rattle.tube_party.specs.Transitions.{Looks, shown_lines}
use Rattle.follow.specs.CodeNotes.{kept_of}
use Rattle.follow.specs.CodeWatched.{order, watched_of, watched_transitions}
use Rattle.follow.proofs.watcher.WatcherParty.advance_seeing.Given as goal

-- each step done asked nothing, or was a safe look
abbrev pub invariant-loop-tick : goal.invariant-loop-tick
invariant-loop-tick g l =
    (k : ℕ) × Looks (watched_transitions g.M.Seen.steps g.M.Seen.sights) l.until.0 (shown_lines l.lines l.safe_until.0) k
    (watched_of (g.M.Seen.inside l.fn.self.machine) (order l.fn.self.notes.part l.fn.self.notes.choice) (kept_of l.fn.self.notes.trail.starts l.fn.self.notes.before l.fn.self.notes.counted.starts))
    (watched_of (g.M.Seen.inside l.self.machine) (order l.self.notes.part l.self.notes.choice) (kept_of l.self.notes.trail.starts l.self.notes.before l.self.notes.counted.starts))

abbrev pub decreases-loop-tick : goal.decreases-loop-tick
decreases-loop-tick g l = l.until.0 - g.M.Seen.steps.due (g.M.Seen.inside l.self.machine)
