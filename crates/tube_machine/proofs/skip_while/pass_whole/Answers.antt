use Rattle.std.proofs.Common.{◌≡◌, ◌≤◌, ◌<◌, ◌+◌, ◌*◌, ◌∙◌, ℕ, suc, sym, ap, refl, arith}
use Rattle.std.proofs.Math.Nat.{mul-le-mul_left}
use Rattle.cpu_alu.specs.declared.Regs.{Regs}
use Rattle.cpu_alu.specs.declared.flags.TheConstants.{INTERRUPT}
use Rattle.cpu_alu.specs.Flags.{has_flag}
use Rattle.cpu_core.specs.declared.Sequence.TheVariants.{Instruction}
use Rattle.cpu_core.specs.Sequences.{fresh}
use Rattle.tube_machine.specs.Step.{At, at_of}
use Rattle.tube_machine.proofs.InProgress.{at-same, begins, caught-up}
use Rattle.tube_machine.proofs.WholeSteps.{begins-there, whole-on}
use Rattle.tube_machine.proofs.ToLooks.{passes_more, whole-looks}
use Rattle.tube_machine.proofs.skip_while.pass_whole.Goals as goal
use Rattle.tube_machine.proofs.skip_while.pass_whole.Goals.{else-loop-due-test, then-loop-due-test+then-cycles-eq0}

pub loop-due-init : goal.loop-due-init
loop-due-init g c =
    let part = g.P.Processor.part in
    let core = g.P.Processor.core c.args.cpu.now in
    let there : core ≡ fresh Instruction c.at_start-first.result = begins-there core c.requires.starts ∙ ap (fresh Instruction) (sym c.at_start-first.ensures) in
    let start : At g.B.TubeBus.State = at_of (fresh Instruction c.at_start-first.result) (g.B.TubeBus.state c.args.bus.now) c.args.from in
    record {
      way = rw there (caught-up part g.B.TubeBus.wired g.B.TubeBus.stays_plain {s = start} c.cycle-cycle.ensures.value
          (begins part Instruction c.at_start-first.result) c.requires.before c.requires.free (λ is. is) (0, refl));
      passes = λ until safe_until in_run early. (0, at-same there refl refl);
      before = c.requires.before;
      rests = c.requires.rests;
      held = ap (λ (r : Regs). has_flag r.p INTERRUPT) c.at_start-first.ensures;
      high = c.requires.from;
      noted = refl;
    }

pub close-requires-clause-low : goal.close-requires-clause-low
close-requires-clause-low g c = rw (← c.loop-due.invariant.way.cycle) at (c.run_if_skipped-cycles.ensures.closed (omega (arith, c.if-cycles-eq0.false)))

pub loop-due-preserved : goal.loop-due-preserved
loop-due-preserved g c =
    let part = g.P.Processor.part in
    let bus = g.B.TubeBus in
    let so_far = c.loop-due.invariant in
    let n : ℕ = c.cycle-cycle.result in
    let k : ℕ = c.run_if_skipped-cycles.result in
    let due : ℕ = c.loop-due.due in
    let top : ℕ = due + n * k in
    let bound : ℕ = c.args.bound in
    let there = g.B.TubeBus.state c.run_if_skipped-cycles.new.bus in
    let some : 0 < k = omega (arith, c.if-cycles-eq0.false) in
    let done = rw c.kind.ensures at (c.run_if_skipped-cycles.ensures.done some) in
    let few : n * k ≤ n * 8 = mul-le-mul_left n c.run_if_skipped-cycles.ensures.few in
    let ends : top ≤ c.min-end.result = omega (arith, few, c.loop-due-test.true) in
    let in_bound : top ≤ bound = omega (arith, ends, c.min-end.ensures) in
    let still : top ≤ c.args.quiet = omega (arith, ends, c.min-end.ensures) in
    let went =
    whole-on _ bus.wired bus.memory bus.stays_at_rest bus.stays_plain _ _ _ _ _ _ _ _ _ _ _ _ _ _ some
    so_far.way done so_far.before in_bound in_bound in_bound still so_far.rests so_far.held c.requires.plain in
    record {
      way = rw c.close.ensures.closed went.0;
      passes = λ until safe_until in_run early.
          let passed = so_far.passes until safe_until in_run early in
          let looks = whole-looks _ bus.wired bus.stays_plain _ until _ _ _ bus.memory bus.stays_at_rest _ _ _ _ _ _ _ _ some
          so_far.way.cycle (so_far.way.kept c.requires.plain) so_far.way.free done so_far.before in_bound
          (omega (arith, in_bound, in_run)) (omega (arith, in_bound, early)) still so_far.rests so_far.held in (
            suc passed.0,
            rw c.close.ensures.closed (passes_more _ _ _ _ _ _ _ _ passed.1
                (refl, c.run_if_skipped-cycles.ensures.over some) looks),
          );
      before =
          let closed = ap bus.bus_model.closed c.close.ensures.closed ∙ bus.wired.closed there top in
          omega (arith, closed, rw (← so_far.way.cycle) at (c.run_if_skipped-cycles.ensures.closed some));
      rests = rw c.close.ensures.closed went.1;
      held = done.masks ∙ so_far.held;
      high = in_bound;
      noted = c.close.ensures.kept c.run_if_skipped-cycles.new.notes ∙ c.run_if_skipped-cycles.ensures.noted ∙ so_far.noted;
    }

pub returns-clause-passes : goal.returns-clause-passes
returns-clause-passes g c =
    λ until safe_until in_run early.
    let so_far = c.loop-due.invariant.passes until safe_until in_run early in (
      so_far.0,
      rw c.set_out.ensures (elim c.loop-due-test.branch [
        | else-loop-due-test v ↦ rw (v.regs-is, v.bus-is) so_far.1
        | then-loop-due-test+then-cycles-eq0 v ↦
            let still = v.run_if_skipped-cycles.ensures.still v.if-cycles-eq0.true in
            rw (v.regs-is, v.bus-is, still.0, still.1) so_far.1
      ]),
    )
