use Rattle.std.proofs.Common.{rules, ◌≡◌, ◌+◌, ◌-◌, ◌∙◌, ℕ, None, IsSome, ap, refl, arith}
use Rattle.cpu_core.specs.Sequences.{next_cycle}
use Rattle.tube_party.specs.Transitions.{shown_lines}
use Rattle.tube_machine.specs.Step.{At, at_of, transitions_of}
use Rattle.tube_machine.specs.Exchange.{owed_at}
use Rattle.tube_machine.proofs.InProgress.{after-look, at-look, caught-up, quick-more, quick-last, quick-past, quick-plain}
use Rattle.tube_machine.proofs.Ways.{left-off, not-yet, then-came, served-on}
use Rattle.tube_machine.proofs.Spends.{none-spent, spent-more, spent-whole, spent-on, seen-more, ready-look, ready-on}
use Rattle.tube_machine.proofs.run.go_quick.Goals as goal
use Rattle.tube_machine.proofs.run.go_quick.Goals.{then-last+else-due-bound, else-last}

pub loop-due-init : goal.loop-due-init
loop-due-init g c =
    let part = g.P.Processor.part in
    let wired = g.B.TubeBus.wired in
    let stays = g.B.TubeBus.stays_plain in
    let core = g.P.Processor.core c.args.cpu.now in
    let start : At g.B.TubeBus.State = at_of core (g.B.TubeBus.state c.args.bus.now) c.args.from in
    elim c.if-last.branch [
      | then-last+else-due-bound v ↦
          let over : next_cycle part core ≡ None = search rules in
          let bound = c.bound_of-bound.ensures in
          let plain = bound.plain (omega (arith, v.if-due-bound.false)) in
          let way = at-look part wired stays {far = c.break_tick-next_break.result} {until = c.args.until} {safe_until = c.args.safe_until} {start = start}
          c.cycle-cycle.ensures.value over c.requires.before c.break_tick-next_break.ensures.none plain
          (omega (arith, v.if-due-bound.false, bound.until)) (omega (arith, v.if-due-bound.false, bound.safe_until)) (omega (arith, v.if-due-bound.false, bound.free)) v.see.ensures.seen in
          rw (v.cpu-is, v.bus-is, v.notes-is, v.port-is, v.due-is) (record {
            at = served-on wired stays (not-yet wired stays way) v.go_asking-due.ensures.served bound.free bound.until bound.safe_until;
            noted = v.go_asking-due.ensures.noted ∙ v.see.ensures.kept c.args.notes.now;
            spent = rw (ready-look part core c.args.from over) (spent-on
                (spent-whole 0 none-spent (omega arith) (omega arith) (omega (arith, v.if-due-bound.false, bound.safe_until)))
                (rw (← way.cycle) at (v.go_asking-due.ensures.spends c.args.safe_until bound.safe_until)));
          })
      | else-last v ↦
          let on : IsSome (next_cycle part core) = search rules in
          rw (v.cpu-is, v.bus-is, v.notes-is, v.port-is, v.due-is) (record {
            at = not-yet wired stays (caught-up part wired stays {s = start} c.cycle-cycle.ensures.value on c.requires.before c.break_tick-next_break.ensures.none (λ is. is) (0, refl));
            noted = refl;
            spent = rw (ready-on part core c.args.from on) none-spent;
          })
    ]

-- before the first access the devices are closed, and no break is pending below the bound
pub go_asking-due-requires-clause-before : goal.go_asking-due-requires-clause-before
go_asking-due-requires-clause-before g c =
    let start : At g.B.TubeBus.State = at_of (g.P.Processor.core c.args.cpu.now) (g.B.TubeBus.state c.args.bus.now) c.args.from in
    let looked =
    after-look g.P.Processor.part g.B.TubeBus.wired g.B.TubeBus.stays_plain start (c.args.from + 1) c.requires.before
    (c.bound_of-bound.ensures.plain (omega (arith, c.if-due-bound.false))) c.see.ensures.seen in
    omega (arith, looked.closed)

pub go_asking-due-requires-clause-free : goal.go_asking-due-requires-clause-free
go_asking-due-requires-clause-free g c =
    let start : At g.B.TubeBus.State = at_of (g.P.Processor.core c.args.cpu.now) (g.B.TubeBus.state c.args.bus.now) c.args.from in
    let looked =
    after-look g.P.Processor.part g.B.TubeBus.wired g.B.TubeBus.stays_plain start (c.args.from + 1) c.requires.before
    (c.bound_of-bound.ensures.plain (omega (arith, c.if-due-bound.false))) c.see.ensures.seen in
    λ t low. looked.free c.break_tick-next_break.result c.break_tick-next_break.ensures.none t (omega (arith, low, c.bound_of-bound.ensures.free))

pub returns-then-due-bound-2-clause-port_run : goal.returns-then-due-bound-2-clause-port_run
returns-then-due-bound-2-clause-port_run g c =
    let n : ℕ = c.cycle-cycle.result in
    let b = g.B.TubeBus.state c.quick.new.self in
    let over : next_cycle g.P.Processor.part (g.P.Processor.core c.give.new.self) ≡ None = search rules in
    let tick : c.loop-due.due + n - 1 ≡ c.loop-due.due + (n - 1) = omega (arith, c.cycle-cycle.ensures.some) in
    let closed : c.loop-due.due + n - (n - 1) ≡ c.loop-due.due + 1 = omega (arith, c.cycle-cycle.ensures.some) in
    rw (c.close.ensures.closed ∙ ap (g.B.TubeBus.bus_model.close b) closed)
    (then-came (transitions_of g.P.Processor.part g.B.TubeBus.bus_model) (shown_lines c.args.lines.now c.args.safe_until) c.loop-due.invariant.at.port_run
    (quick-last g.P.Processor.part g.B.TubeBus.wired g.B.TubeBus.stays_plain c.loop-due.invariant.at.way b c.want.ensures c.in-Some.ensures.done
    (omega (arith, c.loop-due-test.true, c.min-end.ensures))
    (omega (arith, c.loop-due-test.true, c.min-end.ensures, c.saturating_sub.ensures, c.requires.room, c.cycle-cycle.ensures.bound)) c.give.ensures over tick))

pub see-requires-then-last-2-clause-plain : goal.see-requires-then-last-2-clause-plain
see-requires-then-last-2-clause-plain g c =
    quick-plain g.P.Processor.part g.B.TubeBus.wired g.B.TubeBus.stays_plain c.loop-due.invariant.at.way (g.B.TubeBus.state c.quick.new.self) c.want.ensures c.in-Some.ensures.done
    (c.loop-due.invariant.at.first (c.bound_of-bound.ensures.plain (omega (arith, c.if-due-bound-2.false, c.cycle-cycle.ensures.some))))

pub go_asking-due-requires-then-last-2 : goal.go_asking-due-requires-then-last-2
go_asking-due-requires-then-last-2 g c =
    let n : ℕ = c.cycle-cycle.result in
    let bound = c.bound_of-bound.ensures in
    let over : next_cycle g.P.Processor.part (g.P.Processor.core c.give.new.self) ≡ None = search rules in
    let first = c.loop-due.invariant.at.first (bound.plain (omega (arith, c.if-due-bound-2.false, c.cycle-cycle.ensures.some))) in
    let tick : c.loop-due.due + n - 1 ≡ c.loop-due.due + (n - 1) = omega (arith, c.cycle-cycle.ensures.some) in
    let way = quick-past g.P.Processor.part g.B.TubeBus.wired g.B.TubeBus.stays_plain c.loop-due.invariant.at.way (g.B.TubeBus.state c.quick.new.self) c.want.ensures c.in-Some.ensures.done
    (omega (arith, c.loop-due-test.true, c.min-end.ensures))
    (omega (arith, c.loop-due-test.true, c.min-end.ensures, c.saturating_sub.ensures, c.requires.room, c.cycle-cycle.ensures.bound)) c.give.ensures c.in-Some.ensures.closed over first
    (omega (arith, c.if-due-bound-2.false, bound.until, c.cycle-cycle.ensures.some)) (omega (arith, c.if-due-bound-2.false, bound.safe_until, c.cycle-cycle.ensures.some)) tick
    c.see-then-last-2.ensures.seen in
    record {
      room = omega (arith, bound.until, c.requires.room);
      from = omega (arith, c.if-due-bound-2.false);
      before = omega (arith, way.low, way.high, c.cycle-cycle.ensures.some);
      plain = way.kept first;
      free = λ u low. way.free u (omega (arith, low, bound.free));
      goes_on = way.goes_on;
    }

pub loop-due-preserved-then-last-2 : goal.loop-due-preserved-then-last-2
loop-due-preserved-then-last-2 g c =
    let part = g.P.Processor.part in
    let wired = g.B.TubeBus.wired in
    let stays = g.B.TubeBus.stays_plain in
    let n : ℕ = c.cycle-cycle.result in
    let so_far = c.loop-due.invariant in
    let bound = c.bound_of-bound.ensures in
    let over : next_cycle part (g.P.Processor.core c.give.new.self) ≡ None = search rules in
    let first = so_far.at.first (bound.plain (omega (arith, c.if-due-bound-2.false, c.cycle-cycle.ensures.some))) in
    let tick : c.loop-due.due + n - 1 ≡ c.loop-due.due + (n - 1) = omega (arith, c.cycle-cycle.ensures.some) in
    let there : c.loop-due.due + n - 1 + 1 ≡ c.loop-due.due + n = omega (arith, c.cycle-cycle.ensures.some) in
    let way = rw there at (quick-past part wired stays so_far.at.way (g.B.TubeBus.state c.quick.new.self) c.want.ensures c.in-Some.ensures.done
    (omega (arith, c.loop-due-test.true, c.min-end.ensures))
    (omega (arith, c.loop-due-test.true, c.min-end.ensures, c.saturating_sub.ensures, c.requires.room, c.cycle-cycle.ensures.bound)) c.give.ensures c.in-Some.ensures.closed over first
    (omega (arith, c.if-due-bound-2.false, bound.until, c.cycle-cycle.ensures.some)) (omega (arith, c.if-due-bound-2.false, bound.safe_until, c.cycle-cycle.ensures.some)) tick
    c.see-then-last-2.ensures.seen) in
    record {
      at = served-on wired stays
          (record { mid = so_far.at.mid; port_run = so_far.at.port_run; first = so_far.at.first; way = way }) c.go_asking-due-then-last-2.ensures.served bound.free bound.until bound.safe_until;
      noted = c.go_asking-due-then-last-2.ensures.noted ∙ c.see-then-last-2.ensures.kept c.quick.new.notes ∙ c.quick.ensures.noted ∙ so_far.noted;
      spent = spent-on (spent-whole 1 so_far.spent c.quick.ensures.room (omega arith) (omega (arith, c.if-due-bound-2.false, bound.safe_until)))
          (rw (← way.cycle) at (c.go_asking-due-then-last-2.ensures.spends c.args.safe_until bound.safe_until));
    }

pub loop-due-preserved : goal.loop-due-preserved
loop-due-preserved g c =
    let part = g.P.Processor.part in
    let so_far = c.loop-due.invariant in
    let more : IsSome (next_cycle part (g.P.Processor.core c.give.new.self)) = search rules in
    record {
      at = record {
        mid = so_far.at.mid;
        port_run = so_far.at.port_run;
        first = so_far.at.first;
        way = quick-more part g.B.TubeBus.wired g.B.TubeBus.stays_plain so_far.at.way (g.B.TubeBus.state c.quick.new.self) c.want.ensures c.in-Some.ensures.done
            (omega (arith, c.loop-due-test.true, c.min-end.ensures))
            (omega (arith, c.loop-due-test.true, c.min-end.ensures, c.saturating_sub.ensures, c.requires.room, c.cycle-cycle.ensures.bound)) c.give.ensures c.in-Some.ensures.closed more;
      };
      noted = c.quick.ensures.noted ∙ so_far.noted;
      spent = spent-more so_far.spent c.quick.ensures.room (λ _. refl) (seen-more part (g.P.Processor.core c.loop-due.cpu) _ c.in-Some.byte c.give.ensures);
    }

pub returns-in-None-clause-spends : goal.returns-in-None-clause-spends
returns-in-None-clause-spends g c = rw (← c.cycle-cycle.ensures.value, c.quick.ensures.still c.in-None.is) c.loop-due.invariant.spent

pub returns-then-due-until-clause-spends : goal.returns-then-due-until-clause-spends
returns-then-due-until-clause-spends g c = rw (← c.cycle-cycle.ensures.value) c.loop-due.invariant.spent

pub returns-in-None-clause-port_run : goal.returns-in-None-clause-port_run
returns-in-None-clause-port_run g c =
    let w = g.B.TubeBus.bus_model in
    left-off g.B.TubeBus.wired g.B.TubeBus.stays_plain c.loop-due.invariant.at
    (c.catch_up.ensures.closed ∙ ap (λ x. w.close x (owed_at c.cycle-cycle.result c.loop-due.caught_up c.loop-due.due (w.closed x))) c.in-None.ensures.done)

pub returns-then-due-until-clause-port_run : goal.returns-then-due-until-clause-port_run
returns-then-due-until-clause-port_run g c = left-off g.B.TubeBus.wired g.B.TubeBus.stays_plain c.loop-due.invariant.at c.catch_up-2.ensures.closed

pub returns-else-due-until-clause-port_run : goal.returns-else-due-until-clause-port_run
returns-else-due-until-clause-port_run g c = left-off g.B.TubeBus.wired g.B.TubeBus.stays_plain c.loop-due.invariant.at c.catch_up-2.ensures.closed
