use Rattle.std.proofs.Common.{◌≡◌, ◌++◌, length}
use Rattle.follow.specs.Listing.{first_line}
use Rattle.follow.proofs.line.push_first_line.Given as goal

abbrev pub invariant-loop-first : goal.invariant-loop-first
invariant-loop-first l = l.text.items ++ first_line l.rest ≡ l.fn.text.items ++ first_line l.fn.other

abbrev pub decreases-loop-first : goal.decreases-loop-first
decreases-loop-first l = length l.rest
