use Rattle.std.proofs.Common.{◌≡◌, ◌+◌, ◌≤◌, ◌++◌, length}
use Rattle.dis65.specs.Listing.{decode, lines_from}
use Rattle.dis65.proofs.listing.Given as goal

abbrev pub invariant-loop-op : goal.invariant-loop-op
invariant-loop-op l = record {
  text : l.text.items ++ lines_from l.part l.at 0 l.rest ≡ decode l.part l.bytes l.origin;
  fits : l.at + length l.rest ≤ 65536;
}

abbrev pub decreases-loop-op : goal.decreases-loop-op
decreases-loop-op l = length l.rest
