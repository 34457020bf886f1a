use Rattle.std.proofs.Common.{ap, sym, ◌∙◌, ◌++◌, arith, length, length-drop}
use Rattle.dis65.specs.Listing.{lines_from}
use Rattle.dis65.proofs.LineLemmas.{one_line}
use Rattle.std.proofs.lemmas.List.{take_rest}
use Rattle.dis65.proofs.listing.Goals as goal

pub loop-op-preserved : goal.loop-op-preserved
loop-op-preserved c =
    let first = c.in-Some.ensures.cases in
    let said = c.in_ok-passed.ensures in
    let n = c.in_ok-passed.passed in
    let behind = c.in-Some.behind.now in
    let length_of = ap length first.0 in
    let whole = take_rest behind n in
    record {
      text = rw said.text
          (one_line c.args.part c.loop-op.at c.in-Some.op.now n c.loop-op.text.items behind said.passed said.within
          ∙ ap (λ r. c.loop-op.text.items ++ lines_from c.args.part c.loop-op.at 0 r) (sym first.0)
          ∙ c.loop-op.invariant.text);
      fits = rw whole (omega (arith, c.loop-op.invariant.fits, said.within, first.1, length-drop n behind));
    }
