use Rattle.std.proofs.Common.{◌≡◌, ◌∙◌, sym, ap, subst, Err, IfOk}
use Rattle.tube_party.specs.Replay.{replay_of}
use Rattle.follow.specs.Listing.{ListingState, replay_listing}
use Rattle.cmd_stages.specs.Plan.{Verdict}
use Rattle.cmd_status.specs.declared.status.Ending.{Ending}
use Rattle.cmd_outcome.specs.View.{verdict_of}
use Rattle.cmd_follow.specs.Follow.{listed_verdict, listed_by}
use Rattle.cmd_follow.proofs.FollowLemmas.{differs_is}
use Rattle.cmd_follow.proofs.listed.listed.Goals as goal

pub returns-in-Err-Differs : goal.returns-in-Err-Differs
unfolding listed_by
returns-in-Err-Differs g c =
    subst (λ (v : Verdict Ending). IfOk c.differs_outcome.result (λ outcome. verdict_of g.D.BusDevice.plug outcome ≡ v))
    (differs_is (λ (l : ListingState). listed_verdict c.args.out.now l)
    (replay_listing g.M.Seen.steps g.M.Seen.sights c.args.part c.args.side c.args.trace.now c.args.ticks c.args.choice (g.M.Seen.inside c.args.machine))
    (replay_of g.M.Party.transitions c.args.side c.args.trace.now c.args.ticks (g.M.Party.state c.args.machine)).place
    c.in-Err-Differs.line c.in-Err-Differs.doing _ (sym c.first_wrong.ensures.value ∙ c.in_default.is)
    ((c.list.ensures.differs c.in-Err-Differs.line c.in-Err-Differs.doing).0 (c.in-Err-Differs.is ∙ ap Err c.in-Err-Differs.field-0-is)))
    c.differs_outcome.ensures
