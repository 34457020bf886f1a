use Rattle.std.proofs.Common.{◌≡◌, ◌≤◌, ◌<◌, ◌+◌, ◌*◌, ◌∙◌, ℕ, ap, refl, arith}
use Rattle.std.proofs.Math.Nat.{mul-le-mul_left}
use Rattle.cpu_core.specs.declared.Sequence.TheVariants.{Instruction}
use Rattle.cpu_core.specs.Sequences.{fresh}
use Rattle.tube_machine.specs.Step.{At, at_of}
use Rattle.tube_machine.specs.Exchange.{behind}
use Rattle.tube_machine.proofs.InProgress.{IsFree, begins, caught-up, behind-none, behind-some, behind-most}
use Rattle.tube_machine.proofs.WholeSteps.{whole-behind, onward}
use Rattle.tube_machine.proofs.Spends.{none-spent, spent-whole}
use Rattle.tube_machine.proofs.run.go_whole.Goals as goal
use Rattle.tube_machine.proofs.run.go_whole.Goals.{else-loop-due-test, then-loop-due-test+then-cycles-eq0}

pub loop-due-init : goal.loop-due-init
loop-due-init g c =
    let part = g.P.Processor.part in
    let w = g.B.TubeBus.bus_model in
    let m = g.B.TubeBus.state c.args.bus.now in
    let start : At g.B.TubeBus.State = at_of (fresh Instruction c.args.at) m c.args.from in
    let none : w.close m (behind c.args.from c.args.from) ≡ m = ap (w.close m) (behind-none c.args.from) ∙ g.B.TubeBus.wired.still m 0 (omega arith) in
    record {
      way = λ far until safe_until far_on in_run early free.
          rw none
          (caught-up part g.B.TubeBus.wired g.B.TubeBus.stays_plain {s = start} c.cycle-cycle.ensures.value (begins part Instruction c.args.at) c.requires.before free (λ is. is) (0, refl));
      before = c.requires.before;
      shut = λ gone. absurd (omega (arith, gone));
      rests = rw none c.requires.rests;
      held = refl;
      low = omega arith;
      high = c.requires.from;
      noted = refl;
      spent = λ safe_until high. none-spent;
    }

pub loop-due-preserved : goal.loop-due-preserved
loop-due-preserved g c =
    let part = g.P.Processor.part in
    let w = g.B.TubeBus.bus_model in
    let n : ℕ = c.cycle-cycle.result in
    let k : ℕ = c.whole-cycles.result in
    let due : ℕ = c.loop-due.due in
    let u : ℕ = behind c.args.from due in
    let top : ℕ = due + n * k in
    let m = g.B.TubeBus.state c.loop-due.bus in
    let there = g.B.TubeBus.state c.whole-cycles.new.self in
    let quiet : ℕ = c.loop-due.invariant.rests.0 in
    let some : 0 < k = omega (arith, c.if-cycles-eq0.false) in
    let done = rw c.kind.ensures at (c.whole-cycles.ensures.done some) in
    let few : n * k ≤ n * 8 = mul-le-mul_left n c.whole-cycles.ensures.few in
    let more : n * 1 ≤ n * k = mul-le-mul_left n (omega (arith, some)) in
    let ends : top ≤ c.args.end = omega (arith, few, c.loop-due-test.true, c.saturating_sub-late.ensures) in
    let gone : c.args.from < top = omega (arith, c.loop-due.invariant.low, more, c.cycle-cycle.ensures.some) in
    let here : behind c.args.from top ≡ top = behind-some c.args.from top gone in
    let went = λ (far until safe_until : ℕ) (far_on : c.args.end ≤ far) (in_run : c.args.end ≤ until) (early : c.args.end ≤ safe_until) (free : IsFree part w far (g.B.TubeBus.state c.args.bus.now)).
    whole-behind _ g.B.TubeBus.wired g.B.TubeBus.memory g.B.TubeBus.stays_at_rest g.B.TubeBus.stays_plain _ _ _ _ _ _ _ _ _ _ _ _ _ _ _ some
    (behind-most c.args.from due)
    (c.loop-due.invariant.way far until safe_until far_on in_run early free) done c.loop-due.invariant.before (omega (arith, ends, far_on))
    (omega (arith, ends, in_run)) (omega (arith, ends, early)) (omega (arith, ends, c.loop-due.invariant.rests.1.0))
    c.loop-due.invariant.rests.1.1 c.loop-due.invariant.held c.requires.plain in
    let cycle : n ≡ w.cycle m =
    (c.loop-due.invariant.way c.args.end c.args.end c.args.end (omega arith) (omega arith) (omega arith) c.requires.free).cycle
    ∙ (g.B.TubeBus.wired).cycle_close m u in
    let reached : w.closed there ≤ top = rw cycle (c.whole-cycles.ensures.closed some) in
    record {
      way = λ far until safe_until far_on in_run early free.
          rw here (went far until safe_until far_on in_run early free).0;
      before = omega (arith, reached);
      shut = λ _. reached;
      rests = (
        quiet,
        (
          c.loop-due.invariant.rests.1.0,
          rw here (went c.args.end c.args.end c.args.end (omega arith) (omega arith) (omega arith) c.requires.free).1,
        ),
      );
      held = done.masks ∙ c.loop-due.invariant.held;
      low = omega (arith, c.loop-due.invariant.low);
      high = ends;
      noted = c.whole-cycles.ensures.noted ∙ c.loop-due.invariant.noted;
      spent = λ safe_until high. spent-whole k (c.loop-due.invariant.spent safe_until high) c.whole-cycles.ensures.room (omega arith) (omega (arith, ends, high));
    }

pub close_behind-requires-clause-low : goal.close_behind-requires-clause-low
close_behind-requires-clause-low g c =
    λ gone.
    elim c.loop-due-test.branch [
      | else-loop-due-test v ↦ rw v.bus-is (c.loop-due.invariant.shut gone)
      | then-loop-due-test+then-cycles-eq0 v ↦ rw (v.bus-is, (v.whole-cycles.ensures.still v.if-cycles-eq0.true).1) (c.loop-due.invariant.shut gone)
    ]

pub returns-clause-onward : goal.returns-clause-onward
returns-clause-onward g c =
    let before = g.B.TubeBus.wired.closed (g.B.TubeBus.state c.loop-due.bus) (behind c.args.from c.loop-due.due) in
    let all = onward g.P.Processor.part g.B.TubeBus.wired g.B.TubeBus.stays_plain c.loop-due.invariant.way c.requires.free c.cycle-cycle.ensures.value
    (omega (arith, before, behind-most c.args.from c.loop-due.due, c.loop-due.invariant.before)) c.requires.plain in
    rw c.close_behind.ensures.closed (elim c.loop-due-test.branch [
      | else-loop-due-test v ↦ rw (v.regs-is, v.bus-is) all
      | then-loop-due-test+then-cycles-eq0 v ↦
          let still = v.whole-cycles.ensures.still v.if-cycles-eq0.true in
          rw (v.regs-is, v.bus-is, still.0, still.1) all
    ])

pub returns-clause-spends : goal.returns-clause-spends
returns-clause-spends g c =
    let room : g.B.TubeBus.room c.loop-due.notes ≤ g.B.TubeBus.room c.loop-due-test.notes + 0 = elim c.loop-due-test.branch [
      | else-loop-due-test v ↦ omega (arith, ap g.B.TubeBus.room v.notes-is)
      | then-loop-due-test+then-cycles-eq0 v ↦ omega (arith, ap g.B.TubeBus.room v.notes-is, v.whole-cycles.ensures.room, v.if-cycles-eq0.true)
    ] in
    λ safe_until high. rw (← c.cycle-cycle.ensures.value) (spent-whole 0 (c.loop-due.invariant.spent safe_until high) room (omega arith) (omega (arith, high, c.loop-due.invariant.high)))
