use Rattle.std.proofs.Common.{◌≡◌, ◌∙◌, refl, ap, ℕ, ◌+◌, false}
use Rattle.std.proofs.Common.{arith}
use Rattle.op_table.specs.declared.names.Part.TheVariants.{Cmos}
use Rattle.tube_party.specs.Transitions.{shown_lines}
use Rattle.tube_machine.specs.Step.{transitions_of}
use Rattle.tube_machine.proofs.Spends.{none-spent, spent-on, spent-if, spent-more}
use Rattle.tube_machine.proofs.Stops.{cramped, few}
use Rattle.tube_machine.proofs.Ways.{way-on, way-asks, way-cycle, way-rises, done-way, done-rises, done-cycle, done-cost}
use Rattle.tube_machine.proofs.steps.carry_on.Goals as goal

pub loop-cpu-init : goal.loop-cpu-init
loop-cpu-init g c = record {
  went = (0, (refl, (0, refl)));
  before = c.requires.before;
  cycle = refl;
  noted = refl;
  spent = none-spent;
}

pub returns-in-Look-clause-ran : goal.returns-in-Look-clause-ran
returns-in-Look-clause-ran g c =
    let m = transitions_of g.P.Processor.part g.B.TubeBus.bus_model in
    let v = shown_lines c.args.lines.now c.args.safe_until.0 in
    (way-on m v c.loop-cpu.invariant.went c.go_quick-at.ensures.port_run, rw c.in-Look.is at c.go_quick-at.ensures.stops)

pub loop-cpu-smaller : goal.loop-cpu-smaller
loop-cpu-smaller g c =
    let part = g.P.Processor.part in
    let left = rw c.in-Access.is at c.go_quick-at.ensures.stops in
    let done = rw c.in-Ok.is at c.access.ensures.done in
    omega (arith, done-rises part g.B.TubeBus.wired done, left.1, way-rises part g.B.TubeBus.wired (shown_lines c.args.lines.now c.args.safe_until.0) c.go_quick-at.ensures.port_run)

pub loop-cpu-preserved : goal.loop-cpu-preserved
loop-cpu-preserved g c =
    let m = transitions_of g.P.Processor.part g.B.TubeBus.bus_model in
    let v = shown_lines c.args.lines.now c.args.safe_until.0 in
    let part = g.P.Processor.part in
    let wired = g.B.TubeBus.wired in
    let so_far = c.loop-cpu.invariant in
    let left = rw c.in-Access.is at c.go_quick-at.ensures.stops in
    let done = rw c.in-Ok.is at c.access.ensures.done in
    let H = (part ≡ Cmos) × (g.B.TubeBus.endless ≡ false) in
    let spends = rw so_far.cycle at (rw c.in-Access.is at c.go_quick-at.ensures.spends) in
    let at_cycle = way-cycle part wired v c.go_quick-at.ensures.port_run ∙ so_far.cycle in
    let costs = λ (h : H). done-cost part wired done left.0 h.0 (g.B.TubeBus.joined h.1 (g.B.TubeBus.state c.go_quick-at.new.bus)) (g.B.TubeBus.even h.1) in
    record {
      went = way-on m v (way-on m v so_far.went c.go_quick-at.ensures.port_run) (done-way part wired done v left.1);
      before = c.access.ensures.before;
      cycle = done-cycle part wired done ∙ at_cycle;
      noted = c.access.ensures.noted ∙ c.go_quick-at.ensures.noted ∙ so_far.noted;
      spent = spent-more (spent-on so_far.spent (spent-if (λ h. h.0) spends)) c.access.ensures.room (λ h. (costs h).0 ∙ ap (λ (k : ℕ). c.go_quick-at.result.0 + k) at_cycle) (λ h. (costs h).1);
    }

pub returns-in-Err-Tube-clause-ran : goal.returns-in-Err-Tube-clause-ran
returns-in-Err-Tube-clause-ran g c =
    let m = transitions_of g.P.Processor.part g.B.TubeBus.bus_model in
    let v = shown_lines c.args.lines.now c.args.safe_until.0 in
    let left = rw c.in-Access.is at c.go_quick-at.ensures.stops in
    let asked = rw (c.in-Err-Tube.is, c.in-Err-Tube.field-0-is) at c.access.ensures.done in
    rw c.in-Err-Tube.op-is (way-asks g.P.Processor.part g.B.TubeBus.wired v (way-on m v c.loop-cpu.invariant.went c.go_quick-at.ensures.port_run) left.1 asked)

pub returns-in-Err-Full-clause-full : goal.returns-in-Err-Full-clause-full
returns-in-Err-Full-clause-full g c =
    let part = g.P.Processor.part in
    let left = rw c.in-Access.is at c.go_quick-at.ensures.stops in
    let full = c.access.ensures.full (rw (c.in-Err-Full.is, c.in-Err-Full.field-0-is)) in
    let spends = rw c.loop-cpu.invariant.cycle at (rw c.in-Access.is at c.go_quick-at.ensures.spends) in
    λ _. (full.0, λ cmos. cramped (spent-on c.loop-cpu.invariant.spent (spent-if (λ h. h.0) spends)) (cmos, full.0) full.1 (few part (g.P.Processor.core c.go_quick-at.new.cpu) cmos left.0))

pub returns-in-End-clause-ran : goal.returns-in-End-clause-ran
returns-in-End-clause-ran g c =
    let m = transitions_of g.P.Processor.part g.B.TubeBus.bus_model in
    let v = shown_lines c.args.lines.now c.args.safe_until.0 in
    let left = rw c.in-End.is at c.go_quick-at.ensures.stops in
    let all = way-on m v c.loop-cpu.invariant.went c.go_quick-at.ensures.port_run in
    record { accesses = all.0; last = _; port_run = all.1; asked = (left, c.shut.ensures.shut); not_safe = tt }
