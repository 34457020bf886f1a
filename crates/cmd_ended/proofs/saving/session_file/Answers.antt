use Rattle.std.proofs.Common.{◌≡◌, ◌∙◌, sym, refl, ap, ℕ, take}
use Rattle.tube_party.specs.GoingOn.{entries_below}
use Rattle.save_state.specs.Saved.{session}
use Rattle.cmd_ended.specs.Save.{saved_tick, saved_of}
use Rattle.cmd_ended.proofs.SaveLemmas.{saved_is}
use Rattle.cmd_ended.proofs.saving.session_file.Goals as goal

pub encode-requires : goal.encode-requires
unfolding saved_of
encode-requires c =
    let moment : (c.saved_tick-ticks.result).0 ≡ saved_tick c.args.n.0 c.args.all c.args.kept.items =
    c.saved_tick-ticks.ensures ∙ ap (saved_tick c.args.n.0 c.args.all) c.deref.ensures.value in
    let first : entries_below (saved_tick c.args.n.0 c.args.all c.args.kept.items) c.args.kept.items ≡ take c.count_below-count.result c.args.kept.items =
    ap (λ (t : ℕ). entries_below t c.args.kept.items) (sym moment)
    ∙ ap (entries_below (c.saved_tick-ticks.result).0) (sym c.deref-2.ensures.value)
    ∙ c.count_below-count.ensures.below
    ∙ ap (take c.count_below-count.result) c.deref-2.ensures.value in
    let entries : c.truncate.new.self.items ≡ entries_below (saved_tick c.args.n.0 c.args.all c.args.kept.items) c.args.kept.items = c.truncate.ensures.items ∙ sym first in
    saved_is (session c.args.begun) _ c.args.n.0 c.args.all c.count_below-count.result c.args.kept.items c.requires.begun c.requires.ticks c.requires.few c.requires.trace first
    (rw (moment, entries) refl)
