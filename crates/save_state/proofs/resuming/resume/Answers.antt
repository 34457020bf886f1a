use Rattle.save_state.proofs.GoesOn.{ended, played_alike}
use Rattle.save_state.proofs.resuming.resume.Goals as goal

pub returns-clause-played : goal.returns-clause-played
returns-clause-played g c =
    played_alike (c.brought_back_is_reference.ensures _ _ _ _ c.args.entries.now _ _ c.requires.ticks.0 (record {
      legal = c.requires.entries;
      host = ended c.replay-host.ensures.machine c.replay-host.ensures.place c.in_default-host_place.is;
      para = ended c.replay-para.ensures.machine c.replay-para.ensures.place c.in_default-para_place.is;
    })).1 (rw c.in-Ok.ensures at c.go_on_from.ensures)
