use Rattle.std.proofs.Common.{sym, ap, ◌∙◌, arith, length}
use Rattle.follow.specs.CodeStart.{start_seen}
use Rattle.follow.proofs.Noting.{kept_added, kept_left, kept_more}
use Rattle.follow.proofs.notes.Notes.note.Goals as goal

pub returns-then-not-is_chosen-clause-kept : goal.returns-then-not-is_chosen-clause-kept
returns-then-not-is_chosen-clause-kept c =
    let told = c.count.ensures in
    kept_left c.args.self.now.counted.starts (start_seen c.args.start.now) told.trail told.before told.choice told.counted (sym c.chooses-is_chosen.ensures ∙ c.if-not-is_chosen.true)

pub overflow_add-self : goal.overflow_add-self
overflow_add-self c = omega (arith, c.count.new.self.kept.count, ap length c.count.ensures.trail, c.requires.few)

pub invariant_of-self-2 : goal.invariant_of-self-2
invariant_of-self-2 c = record {
  kept = kept_added (start_seen c.args.start.now) c.count.new.self.kept c.after-self.ensures c.add_line-self.ensures.before c.add_line-self.ensures.text;
  tallied = λ ok. c.count.new.self.tallied (c.add_line-self.ensures.before ok);
}

pub returns-clause-kept : goal.returns-clause-kept
returns-clause-kept c =
    let told = c.count.ensures in
    kept_more c.args.self.now.counted.starts (start_seen c.args.start.now) told.trail told.before told.choice told.counted c.after-self.ensures
    (sym c.chooses-is_chosen.ensures ∙ c.if-not-is_chosen.false)
