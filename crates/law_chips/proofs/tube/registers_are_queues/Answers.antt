use Rattle.law_chips.proofs.Queueing.{all_queues, all_kept, fifo_kept}
use Rattle.law_chips.proofs.tube.registers_are_queues.Goals as goal

pub returns : goal.returns
returns c = record { all = all_queues; nothing_lost = all_kept; fifo = fifo_kept }
