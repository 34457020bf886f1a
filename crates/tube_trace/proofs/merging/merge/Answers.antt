use Rattle.tube_trace.proofs.MergeLemmas.{first_merged_rise}
use Rattle.tube_trace.proofs.merging.merge.Goals as goal

pub returns-clause-rises : goal.returns-clause-rises
returns-clause-rises c = first_merged_rise c.args.keep c.args.host.now c.args.para.now _ c.requires.host c.requires.para c.in_ok-merged.ensures.merged
