use Rattle.std.proofs.Common.{arith}
use Rattle.std.proofs.lemmas.Grind.{common_steps}
use Rattle.host_bus.proofs.Ram.{slot_shown}
use Rattle.host_bus.proofs.board.cover_slot.Goals as goal

pub returns-in-Some-clause-covered : goal.returns-in-Some-clause-covered
returns-in-Some-clause-covered c =
    slot_shown c.args.roms.now.slots c.args.slot _ c.in-Some.ensures.bytes c.in-Some.ensures.length (grind (arith, common_steps))
    c.cover_half.ensures.covered c.cover_half-in-Some.ensures.covered
