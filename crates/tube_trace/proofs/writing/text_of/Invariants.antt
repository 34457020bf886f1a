use Rattle.std.proofs.Common.{◌≡◌, ◌-◌, ◌++◌, All}
use Rattle.tube_trace.specs.Laws.{IsOfByte}
use Rattle.tube_trace.specs.Merge.{of_both}
use Rattle.tube_trace.specs.Text.{lines_text, text_of}
use Rattle.tube_trace.proofs.writing.text_of.Given as goal

abbrev pub invariant-loop : goal.invariant-loop
invariant-loop l = record {
  text : l.text.items ++ lines_text (of_both (l.keep - l.counter) l.host l.para) ≡ text_of l.fn.clock (of_both l.keep l.fn.host l.fn.para);
  bytes : All IsOfByte (of_both (l.keep - l.counter) l.host l.para) → All IsOfByte (of_both l.keep l.fn.host l.fn.para);
}
