use Rattle.std.proofs.Common.{ap, ◌∙◌}
use Rattle.tube_trace.specs.Trace.{trace}
use Rattle.tube_trace.proofs.writing.write_both.Goals as goal

pub returns-clause-back : goal.returns-clause-back
returns-clause-back c = λ rises lines.
    ap trace c.in_ok-text_of.ensures.text ∙ c.text_reads_back.ensures.text c.args.clock _ rises lines c.in_ok-text_of.ensures.bytes
