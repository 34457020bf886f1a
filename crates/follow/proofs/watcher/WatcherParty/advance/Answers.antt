use Rattle.std.proofs.Common.{arith, sym, ◌∙◌}
use Rattle.follow.proofs.Watching.{due_advanced, step_below, advances_plain, advances_noted, advances_still}
use Rattle.follow.proofs.watcher.WatcherParty.advance.Goals as goal

pub invariant_of-self : goal.invariant_of-self
invariant_of-self g c = record { few = omega (arith, c.args.self.now.few, due_advanced g.met.M.Seen.same g.met.M.Seen.seen _ _ c.advance.ensures) }

pub returns-then-not-starting : goal.returns-then-not-starting
returns-then-not-starting g c = advances_plain g.met.M.Seen.same g.met.M.Seen.seen _ _ c.advance.ensures _ _ (sym c.starting.ensures ∙ c.if-not-starting.true)

pub note-requires-clause-few : goal.note-requires-clause-few
note-requires-clause-few g c =
    let low = step_below g.met.M.Seen.same g.met.M.Seen.seen _ _ c.advance-ask.ensures (omega (arith, c.due-before.ensures, c.due.ensures, c.if-before-due.true)) in
    omega (arith, c.args.self.now.few, low, c.requires)

pub invariant_of-self-else-before-due : goal.invariant_of-self-else-before-due
invariant_of-self-else-before-due g c = record { few = omega (arith, c.args.self.now.few, due_advanced g.met.M.Seen.same g.met.M.Seen.seen _ _ c.advance-ask.ensures) }

pub returns-then-before-due : goal.returns-then-before-due
returns-then-before-due g c =
    advances_noted g.met.M.Seen.same g.met.M.Seen.seen _ _ c.advance-ask.ensures _ _ (omega (arith, c.due-before.ensures, c.due.ensures, c.if-before-due.true))
    (sym c.starting.ensures ∙ c.if-not-starting.false) c.start_of-start.ensures.told c.note.ensures.kept c.note.ensures.part c.note.ensures.choice

pub returns-else-before-due : goal.returns-else-before-due
returns-else-before-due g c =
    advances_still g.met.M.Seen.same g.met.M.Seen.seen _ _ c.advance-ask.ensures _ _ (omega (arith, c.due-before.ensures, c.due.ensures, c.if-before-due.false))
