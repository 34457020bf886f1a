use Rattle.trials.proofs.Asked.{asked_byte, asked_lines}
use Rattle.trials.proofs.roads.step.Goals as goal

pub answer-requires : goal.answer-requires
answer-requires g c =
    asked_byte g.M.Party.transitions c.args.until _ _ _ c.in-Access.t c.in-Access.op _ c.requires (rw c.in-Access.is at c.advance_seeing.ensures)

pub answer-requires-in-Look : goal.answer-requires-in-Look
answer-requires-in-Look g c =
    asked_lines g.M.Party.transitions c.args.until _ _ _ c.in-Look.t _ c.requires (rw c.in-Look.is at c.advance_seeing.ensures)
