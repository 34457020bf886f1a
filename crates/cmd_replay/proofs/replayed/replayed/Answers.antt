use Rattle.std.proofs.Common.{◌∙◌, sym}
use Rattle.cmd_replay.proofs.ReplayLemmas.{wrong_is, done_is, differs_is, left_is}
use Rattle.cmd_replay.proofs.replayed.replayed.Goals as goal

pub returns-in-Some : goal.returns-in-Some
returns-in-Some g c left same =
    rw (← wrong_is _ _ _ left _ _ c.in-Some.at c.in-Some.byte (sym c.first_wrong.ensures.value ∙ c.in-Some.is)) c.wrong_outcome.ensures

pub returns-in_default-None : goal.returns-in_default-None
returns-in_default-None g c left same =
    rw (← done_is _ _ _ left _ _ _ c.side_count.result _ (sym c.first_wrong.ensures.value ∙ c.in_default.is) (sym c.replay.ensures.place ∙ c.in_default-None.is-1)
    c.replay.ensures.machine c.side_count.ensures
    (left_is _ _ c.side_count.result _ _ _ _ c.new.ensures.items c.parts-host.ensures ∙ same c.side_count.result c.replay.result.0)) c.machine_outcome.ensures

pub returns-in_default-Some : goal.returns-in_default-Some
returns-in_default-Some g c left same =
    rw (← differs_is _ _ _ left _ _ c.in_default-Some.line c.in_default-Some.doing (sym c.first_wrong.ensures.value ∙ c.in_default.is)
    (sym c.replay.ensures.place ∙ c.in_default-Some.is-1)) c.differs_outcome.ensures
