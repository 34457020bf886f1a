use Rattle.std.proofs.Common.{◌∙◌, ap, option_map}
use Rattle.tube_party.specs.Reference.{World, reference}
use Rattle.host_mach.specs.State.{HostState}
use Rattle.host_mach.specs.View.{host_seen, host_stepped}
use Rattle.host_mach.specs.Step.{host_transitions}
use Rattle.para_mach.specs.State.{ParaState}
use Rattle.para_mach.specs.Step.{para_transitions}
use Rattle.cmd_outcome.specs.View.{items, kept_seen, names_seen, verdict_of}
use Rattle.cmd_outcome.specs.Verdicts.{machine_verdict}
use Rattle.save_state.specs.Saved.{session}
use Rattle.cmd_ended.specs.Code.{AreKept, IsRun}
use Rattle.cmd_ended.specs.Kept.{kept_verdict}
use Rattle.cmd_ended.proofs.KeptLemmas.{both_is, kept_is, for_each}
use Rattle.cmd_ended.proofs.kept.kept_outcome.Goals as goal

pub ended-requires-clause-kept : goal.ended-requires-clause-kept
ended-requires-clause-kept g c =
    let w : World HostState ParaState = reference host_transitions para_transitions c.requires.run.0 c.requires.run.1 c.args.ticks in (
      w.list,
      record {
        most = c.requires.ticks;
        trace = c.reference_is_trace.ensures c.requires.run.0 c.requires.run.1 c.args.ticks;
        host_kept = c.requires.run.2.host_kept;
        para_kept = c.requires.run.2.para_kept;
      },
    )

pub returns : goal.returns
returns g c =
    for_each c.machine_outcome.result (verdict_of g.D.BusDevice.plug) _ (λ s t. IsRun g.D.BusDevice.plug s t c.args.ticks c.args.keep c.args.done)
    (λ s t. kept_verdict c.args.clock (option_map session c.args.begun) c.args.ticks c.args.keep (names_seen c.args.names) (reference host_transitions para_transitions s t c.args.ticks))
    c.machine_outcome.ensures
    (λ s t run.
    let w : World HostState ParaState = reference host_transitions para_transitions s t c.args.ticks in
    let kept : AreKept c.args.ticks w.list c.args.keep c.args.done = record {
      most = c.requires.ticks;
      trace = c.reference_is_trace.ensures s t c.args.ticks;
      host_kept = run.host_kept;
      para_kept = run.para_kept;
    } in
    let files = c.in_ok-parts.ensures.files w.list kept in
    ap machine_verdict (both_is c.args.clock c.args.ticks c.in_ok-parts.parts.tube (names_seen c.args.names) c.new.result.items
    (host_stepped g.D.BusDevice.plug c.settled.result) c.in_ok-parts.parts.para (kept_seen c.in_ok-parts.parts.kept) (option_map items c.in_ok-parts.parts.saved) c.new.ensures.items)
    ∙ kept_is c.args.clock (option_map session c.args.begun) c.args.ticks c.args.keep (names_seen c.args.names) w _ _ c.in_ok-parts.parts.tube _ _
    (c.settled.ensures.stepped ∙ ap (host_seen g.D.BusDevice.plug) c.in_ok-parts.ensures.parties.0 ∙ run.host_is) (c.in_ok-parts.ensures.parties.1 ∙ run.para_is) files)
