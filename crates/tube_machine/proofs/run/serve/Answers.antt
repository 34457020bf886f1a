use Rattle.std.proofs.Common.{◌≡◌, ◌∙◌, sym, ap, arith}
use Rattle.cpu_core.specs.declared.Sequence.TheVariants.{Instruction}
use Rattle.cpu_core.specs.Sequences.{fresh}
use Rattle.tube_machine.proofs.WholeSteps.{begins-there}
use Rattle.tube_machine.proofs.Asked.{served-onward, served-then}
use Rattle.tube_machine.proofs.Spends.{spent-on, spent-whole}
use Rattle.tube_machine.proofs.run.serve.Goals as goal
use Rattle.tube_machine.proofs.run.serve.Goals.{then-loop-due-test+else-may_answer, else-loop-due-test, then-loop-due-test+then-may_answer+then-asked-due}

pub loop-due-init : goal.loop-due-init
loop-due-init g c =
    let core = g.P.Processor.core c.args.cpu.now in
    let there : core ≡ fresh Instruction c.at_start.result = begins-there core c.requires.starts ∙ ap (fresh Instruction) (sym c.at_start.ensures) in
    record {
      served = rw there (served-onward c.go_whole-due.ensures.onward);
      rests = c.go_whole-due.ensures.rests;
      low = c.go_whole-due.ensures.low;
      high = c.go_whole-due.ensures.high;
      noted = c.go_whole-due.ensures.noted;
      spent = λ safe_until high. rw there (c.go_whole-due.ensures.spends safe_until high);
    }

pub loop-due-preserved : goal.loop-due-preserved
loop-due-preserved g c =
    let asked = served-then c.loop-due.invariant.served c.ask_whole-asked.ensures.served in
    record {
      served = served-then asked (served-onward c.go_whole.ensures.onward);
      rests = c.go_whole.ensures.rests;
      low = omega (arith, c.loop-due.invariant.low, c.ask_whole-asked.ensures.low, c.go_whole.ensures.low);
      high = c.go_whole.ensures.high;
      noted = c.go_whole.ensures.noted ∙ c.ask_whole-asked.ensures.noted c.loop-due.notes ∙ c.loop-due.invariant.noted;
      spent = λ safe_until high. spent-on
          (spent-whole 0 (c.loop-due.invariant.spent safe_until high) (omega arith) (omega (arith, c.ask_whole-asked.ensures.low)) (omega (arith, c.ask_whole-asked.ensures.high, high)))
          (rw (← asked.alike.cycle) at (c.go_whole.ensures.spends safe_until high));
    }

pub returns-clause-served : goal.returns-clause-served
returns-clause-served g c =
    let so_far = c.loop-due.invariant.served in
    rw c.set_out.ensures (elim c.loop-due-test.branch [
      | then-loop-due-test+else-may_answer v ↦ rw (v.at-is, v.bus-is, v.port-is) so_far
      | else-loop-due-test v ↦ rw (v.at-is, v.bus-is, v.port-is) so_far
      | then-loop-due-test+then-may_answer+then-asked-due v ↦ rw (v.at-is, v.bus-is, v.port-is) (rw v.if-asked-due.true at (served-then so_far v.ask_whole-asked.ensures.served))
    ])
