use Rattle.std.proofs.Common.{sym, ap, ◌∙◌}
use Rattle.beeb_bits.specs.declared.Side.TheVariants.{Host, Para}
use Rattle.tube_trace.specs.Entries.{accesses}
use Rattle.tube_trace.proofs.MergeLemmas.{accesses_back}
use Rattle.cmd_ended.proofs.KeptLemmas.{of_one_side, of_both_sides}
use Rattle.cmd_ended.proofs.kept.merged.Goals as goal

pub merge-requires-clause-host : goal.merge-requires-clause-host
merge-requires-clause-host c = of_one_side Host c.requires.1 c.args.keep c.args.host.now c.requires.2.trace.rises c.requires.2.host_is

pub merge-requires-clause-para : goal.merge-requires-clause-para
merge-requires-clause-para c = of_one_side Para c.requires.1 c.args.keep c.args.para.now c.requires.2.trace.rises c.requires.2.para_is

pub returns : goal.returns
returns c = λ n list first.
    sym (accesses_back c.in_ok-merge.field-0.items) ∙ ap accesses c.in_ok-merge.ensures.merged
    ∙ of_both_sides n list c.args.keep c.args.host.now c.args.para.now c.rising_list_is_merge.ensures first
