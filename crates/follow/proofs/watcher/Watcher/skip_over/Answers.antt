use Rattle.std.proofs.Common.{arith}
use Rattle.follow.specs.CodeNotes.{kept_of}
use Rattle.follow.specs.CodeWatched.{order}
use Rattle.follow.proofs.Watching.{passed, passed_rise}
use Rattle.follow.proofs.watcher.Watcher.skip_over.Goals as goal

pub invariant_of-self : goal.invariant_of-self
invariant_of-self g c =
    let notes = c.args.self.now.notes in
    let risen = passed_rise g.met.M.Seen.seen (order notes.part notes.choice) (kept_of notes.trail.starts notes.before notes.counted.starts) c.in-Some.skip
    c.in-Some.ensures.leaves _ _ _ c.skip_while.ensures.0 _ _ c.skip_while.ensures.1 in
    record { few = omega (arith, c.args.self.now.few, risen) }

pub returns-in-Some : goal.returns-in-Some
returns-in-Some g c =
    let notes = c.args.self.now.notes in
    passed g.met.M.Seen.seen (order notes.part notes.choice) (kept_of notes.trail.starts notes.before notes.counted.starts)
    c.in-Some.skip c.in-Some.ensures.leaves _ _ _ c.skip_while.ensures.0 _ _ c.skip_while.ensures.1
