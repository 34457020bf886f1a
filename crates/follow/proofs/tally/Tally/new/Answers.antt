use Rattle.std.proofs.Common.{ap, None}
use Rattle.follow.specs.CodeTally.{tallied, none_counted}
use Rattle.follow.proofs.tally.Tally.new.Goals as goal

pub returns : goal.returns
unfolding none_counted
returns c = ap (λ table. tallied table None) (c.in_ok-vec.ensures.items_if_clones_equal (λ y same. same))
