use Rattle.std.proofs.Common.{◌≡◌, ◌∙◌, sym, ◌+◌, ◌-◌, suc, [], ◌∷◌, arith, append_assoc, append-nil}
use Rattle.std.proofs.lemmas.List.Elements.{All-cons, All-nil}
use Rattle.tube_trace.specs.Laws.{IsOfByte}
use Rattle.tube_trace.specs.Merge.{of_both}
use Rattle.tube_trace.specs.Text.{line_text, lines_text}
use Rattle.tube_trace.proofs.MergeLemmas.{more_of_both, none_of_both}
use Rattle.tube_trace.proofs.writing.text_of.Goals as goal
use Rattle.tube_trace.proofs.writing.text_of.Goals.{Left-loop, else-loop-test, then-loop-test+in_default}

pub loop-preserved : goal.loop-preserved
loop-preserved c =
    let left = of_both (c.args.keep - (c.loop.counter + 1)) c.in-Some.host_rest.now c.in-Some.para_rest.now in
    let room : c.args.keep - c.loop.counter ≡ suc (c.args.keep - (c.loop.counter + 1)) = omega (arith, c.loop-test.true) in
    let more : of_both (c.args.keep - c.loop.counter) c.loop.host.now c.loop.para.now ≡ c.in-Some.first ∷ left =
    rw room (more_of_both (c.args.keep - (c.loop.counter + 1)) c.loop.host.now c.loop.para.now (sym c.in-Some.ensures)) in
    record {
      text = rw (c.in_ok-push_line.ensures.text, append_assoc c.loop.text.items (line_text c.in-Some.first) (lines_text left)) (rw more at c.loop.invariant.text);
      bytes = λ all. c.loop.invariant.bytes (rw more (All-cons IsOfByte c.in-Some.first left c.in_ok-push_line.ensures.byte all));
    }

-- nothing is left
none : (c : Left-loop) → of_both (c.args.keep - c.loop.counter) c.loop.host.now c.loop.para.now ≡ []
none c = elim c.loop-test.branch [
  | else-loop-test w ↦ (let no : c.args.keep - c.loop.counter ≡ 0 = omega (arith, w.loop-test) in rw no)
  | then-loop-test+in_default w ↦ none_of_both (c.args.keep - c.loop.counter) c.loop.host.now c.loop.para.now (sym w.in_default.ensures)
]

pub returns-clause-text : goal.returns-clause-text
returns-clause-text c = sym (append-nil c.loop.text.items) ∙ rw (none c) at c.loop.invariant.text

pub returns-clause-bytes : goal.returns-clause-bytes
returns-clause-bytes c = c.loop.invariant.bytes (rw (none c) (All-nil IsOfByte))
