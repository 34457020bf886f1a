use Rattle.std.proofs.Common.{refl}
use Rattle.sn76489.proofs.Catching.{one_write, none_due, none_left}
use Rattle.sn76489.proofs.chip.Sound.catch_up.Goals as goal

pub loop-first-init : goal.loop-first-init
loop-first-init c = record { chip = refl; left = refl }

pub loop-first-preserved : goal.loop-first-preserved
loop-first-preserved c =
    one_write c.args.moment c.loop-first.left.now c.in-Some.behind.now c.args.writes.now c.in-Some.first.now c.loop-first.self c.write.new.self
    c.args.self.now c.in-Some.ensures.cases.0 c.if-moment-first.false c.write.ensures c.loop-first.invariant

pub returns-then-moment-first-clause-chip : goal.returns-then-moment-first-clause-chip
returns-then-moment-first-clause-chip c =
    (none_due c.args.moment c.loop-first.left.now c.in-Some.behind.now c.args.writes.now c.in-Some.first.now c.loop-first.self c.args.self.now
    c.in-Some.ensures.cases.0 c.if-moment-first.true c.loop-first.invariant).0

pub returns-then-moment-first-clause-left : goal.returns-then-moment-first-clause-left
returns-then-moment-first-clause-left c =
    (none_due c.args.moment c.loop-first.left.now c.in-Some.behind.now c.args.writes.now c.in-Some.first.now c.loop-first.self c.args.self.now
    c.in-Some.ensures.cases.0 c.if-moment-first.true c.loop-first.invariant).1

pub returns-in_default-clause-chip : goal.returns-in_default-clause-chip
returns-in_default-clause-chip c =
    (none_left c.args.moment c.loop-first.left.now c.args.writes.now c.loop-first.self c.args.self.now c.in_default.ensures.cases c.loop-first.invariant).0

pub returns-in_default-clause-left : goal.returns-in_default-clause-left
returns-in_default-clause-left c =
    (none_left c.args.moment c.loop-first.left.now c.args.writes.now c.loop-first.self c.args.self.now c.in_default.ensures.cases c.loop-first.invariant).1
