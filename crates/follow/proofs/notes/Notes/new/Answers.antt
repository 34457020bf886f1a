use Rattle.follow.proofs.Noting.{kept_none, tallied_none}
use Rattle.follow.proofs.notes.Notes.new.Goals as goal

pub invariant_of-result : goal.invariant_of-result
invariant_of-result c = record {
  kept = kept_none c.args.part c.new-2.result.starts c.new.result.items c.is_wanting-is_short.result c.new-2.ensures c.new.ensures.items;
  tallied = tallied_none c.args.choice.counts c.is_wanting-is_short.result c.tally_if-tally.result c.new-3.result.starts c.new-3.ensures c.tally_if-tally.ensures c.is_wanting-is_short.ensures;
}
