use Rattle.follow.specs.CodeStart.{start_seen}
use Rattle.follow.proofs.Noting.{tallied_more}
use Rattle.follow.proofs.notes.Notes.count.Goals as goal

pub invariant_of-self : goal.invariant_of-self
invariant_of-self c = record {
  kept = c.args.self.now.kept;
  tallied = λ ok.
      tallied_more c.args.self.now.choice.counts c.in-Some.tally c.note.new.self c.args.self.now.counted.starts c.after-self.result.starts (start_seen c.args.start.now)
      (rw c.in-Some.is at (c.args.self.now.tallied ok)) c.after-self.ensures c.note.ensures;
}
