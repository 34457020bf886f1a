use Rattle.std.proofs.Common.{◌≡◌, ◌∙◌, ap, length, []}
use Rattle.tube_trace.specs.Merge.{of_both}
use Rattle.tube_trace.specs.Text.{text_of}
use Rattle.tube_trace.specs.Trace.{trace}
use Rattle.tube_trace.proofs.MergeLemmas.{of_one}
use Rattle.tube_trace.proofs.writing.write.Goals as goal

pub returns : goal.returns
returns c =
    let xs = c.args.entries.now in
    let all : of_both (length xs) xs [] ≡ xs = of_one xs in
    let text = c.in_ok-text_of.ensures.text ∙ ap (text_of c.args.clock) all in
    record {
      text = text;
      back = ap trace text ∙ c.text_reads_back.ensures.text c.args.clock xs c.requires.rises c.requires.lines (rw all at c.in_ok-text_of.ensures.bytes);
    }
