use Rattle.std.proofs.Common.{ap, ◌∙◌}
use Rattle.tube_trace.specs.Text.{text_of}
use Rattle.cmd_ended.proofs.KeptLemmas.{of_both_sides}
use Rattle.cmd_ended.proofs.kept.trace_of.Goals as goal

pub returns : goal.returns
returns c = λ n list first.
    c.in_ok-write_both.ensures.text ∙ ap (text_of c.args.clock) (of_both_sides n list c.args.keep c.args.host.now c.args.para.now c.rising_list_is_merge.ensures first)
