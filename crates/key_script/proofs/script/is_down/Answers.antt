use Rattle.std.proofs.Common.{◌∙◌, sym}
use Rattle.key_script.proofs.KeyLemmas.{is_down_more}
use Rattle.key_script.proofs.script.is_down.Goals as goal

pub loop-event-preserved : goal.loop-event-preserved
loop-event-preserved c =
    c.unwrap_or-down.ensures
    ∙ rw (c.made_by.ensures, c.loop-event.invariant) (sym (is_down_more c.args.key (c.args.t).0 c.args.events.now c.loop-event.event-index _ c.loop-event-test.true))
