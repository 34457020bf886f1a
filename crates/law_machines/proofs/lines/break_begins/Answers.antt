use Rattle.law_machines.proofs.Breaking.{breaks_begin}
use Rattle.law_machines.proofs.lines.break_begins.Goals as goal

pub returns : goal.returns
returns c = breaks_begin c.the_host_keeps_to_its_cycles.ensures
