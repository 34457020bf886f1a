use Rattle.tube_chip.specs.Act.{chip_after}
use Rattle.tube_party.proofs.Again.{still-seen}
use Rattle.tube_party.proofs.chip_port.passes.Goals as goal

pub returns-in-Para : goal.returns-in-Para
returns-in-Para c = λ is. (
  c.is_status.ensures.may is c.args.side,
  still-seen c.args.is_read c.args.chip.now (chip_after c.args.chip.now c.args.side c.args.op) (c.is_status.ensures.stays is c.args.chip.now c.args.side),
  λ _ _. c.is_status.ensures.reads is,
)
