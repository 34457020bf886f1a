use Rattle.std.proofs.Common.{refl, option_map}
use Rattle.save_state.specs.Saved.{session}
use Rattle.host_mach.specs.View.{host_seen}
use Rattle.cmd_outcome.specs.View.{names_seen}
use Rattle.cmd_session.proofs.SessionLemmas.{went_so, comes_so, accesses_are, session_gives}
use Rattle.cmd_session.proofs.resumed.session_outcome.Goals as goal

pub started-requires-clause-slots : goal.started-requires-clause-slots
started-requires-clause-slots g c = c.in_ok-parts.ensures.slots (session c.in_ok-saved.saved) c.in_ok-saved.ensures.keeps refl

pub started-requires-clause-keys : goal.started-requires-clause-keys
started-requires-clause-keys g c = c.in_ok-parts.ensures.keys (session c.in_ok-saved.saved) c.in_ok-saved.ensures.keeps refl

pub bring_back-requires-clause-entries : goal.bring_back-requires-clause-entries
bring_back-requires-clause-entries g c = accesses_are (session c.in_ok-saved.saved) _ c.in_ok-saved.ensures.keeps c.deref-2.ensures.value

pub ended-requires-clause-went : goal.ended-requires-clause-went
ended-requires-clause-went g c =
    went_so g.D.BusDevice.plug c.in_ok-saved.saved.clock (option_map session c.in_ok-begun.begun) _ _ (names_seen c.args.names) _ _ _ _ c.in_ok-there.there c.in_ok-there.ensures

pub returns : goal.returns
returns g c =
    session_gives _ _ _ _ _ _ _ (session c.in_ok-saved.saved) _ (host_seen g.D.BusDevice.plug c.in_ok-begun.host, c.in_ok-begun.para) _ _ _
    c.deref.ensures.value c.in_ok-saved.ensures.told c.setup_in-setup.ensures (c.in_ok-parts.ensures.inputs (session c.in_ok-saved.saved) refl)
    c.in_ok-begun.ensures.machines c.in_ok-begun.ensures.begun c.deref-2.ensures.value
    (comes_so g.D.BusDevice.plug _ _ _ _ _ _ _ _ _ c.in_ok-there.there _ c.in_ok-there.ensures c.in_ok-ended.ensures)
