use Rattle.std.proofs.Common.{◌≡◌, ◌<◌, ◌++◌, length, [], ◌∷◌, sym, rules, arith, length-append}
use Rattle.tube_trace.proofs.MergeLemmas.{merged_more}
use Rattle.tube_trace.proofs.merging.merged.Goals as goal

pub loop-preserved : goal.loop-preserved
loop-preserved c =
    let pushed : c.push.new.self.items ≡ c.loop.entries.items ++ c.in-Some.first ∷ [] = search rules in
    let low : length c.loop.entries.items < c.args.keep = omega arith in
    record {
      so_far = rw pushed (merged_more c.loop.invariant.so_far (sym c.in-Some.ensures) low);
      count = rw pushed (omega (arith, length-append c.loop.entries.items (c.in-Some.first ∷ [])));
    }
