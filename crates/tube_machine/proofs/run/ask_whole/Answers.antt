use Rattle.std.proofs.Common.{◌≡◌, ◌≤◌, ◌<◌, ◌+◌, ◌-◌, ◌*◌, ◌∙◌, ℕ, refl, ap, arith}
use Rattle.std.proofs.Math.Nat.{mul-add, mul-one, mul-le-mul_left}
use Rattle.op_table.specs.declared.names.Part.{Part}
use Rattle.cpu_alu.specs.declared.Regs.{Regs}
use Rattle.cpu_alu.specs.declared.flags.TheConstants.{INTERRUPT}
use Rattle.cpu_alu.specs.Flags.{has_flag}
use Rattle.cpu_whole.specs.Outside.{outcome}
use Rattle.tube_machine.proofs.Asked.{asked-whole, round, rounds, served-then}
use Rattle.tube_machine.proofs.run.ask_whole.Goals as goal
use Rattle.tube_machine.proofs.run.ask_whole.Goals.{then-back-gt0+then-from-period, else-back-gt0}

pub take_in-requires : goal.take_in-requires
take_in-requires g c = (c.last_access-last.ensures.outside 0 (omega (arith, c.if-last-eq0.false))).kind

-- the further periods, at most `most`, fit
fits-more : (p from : ℕ) {due end j most : ℕ} → due ≡ from + p * (1 + j) → j ≤ most → from + p * (most + 1) ≤ end → due ≤ end
fits-more p from {j = j} {most} is few fits = let more : p * (1 + j) ≤ p * (most + 1) = mul-le-mul_left p (omega (arith, few)) in omega (arith, is, more, fits)

pub returns-clause-high : goal.returns-clause-high
returns-clause-high g c =
    let n : ℕ = c.cycle-cycle.result in
    let few : n * c.last_access-last.result.cycles ≤ n * 5 = mul-le-mul_left n c.last_access-last.ensures.few in
    elim c.if-back-gt0.branch [
      | then-back-gt0+then-from-period v ↦ fits-more _ _ v.due-is v.again-more.ensures.few v.times_more.ensures
      | else-back-gt0 v ↦ omega (arith, v.due-is, few, c.requires.fits, c.cycle-cycle.ensures.value)
    ]

pub close-requires-clause-room : goal.close-requires-clause-room
close-requires-clause-room g c =
    let n : ℕ = c.cycle-cycle.result in
    let few : n * c.last_access-last.result.cycles ≤ n * 5 = mul-le-mul_left n c.last_access-last.ensures.few in
    elim c.if-back-gt0.branch [
      | then-back-gt0+then-from-period v ↦ omega (arith, fits-more _ _ v.due-is v.again-more.ensures.few v.times_more.ensures, c.requires.room)
      | else-back-gt0 v ↦ omega (arith, v.due-is, few, c.requires.fits, c.cycle-cycle.ensures.value, c.requires.room)
    ]

pub returns-clause-rests : goal.returns-clause-rests
returns-clause-rests g c =
    let high : c.if-back-gt0.due ≤ c.args.end = returns-clause-high g c in
    let rest = c.requires.rests.1 in
    let flag : has_flag c.if-back-gt0.at.p INTERRUPT ≡ has_flag (c.args.at.now).p INTERRUPT = elim c.if-back-gt0.branch [
      | then-back-gt0+then-from-period v ↦ ap (λ (q : Regs). has_flag q.p INTERRUPT) v.at-is
      | else-back-gt0 v ↦
          ap (λ (q : Regs). has_flag q.p INTERRUPT) (v.at-is ∙ c.take_in.ensures)
          ∙ (c.last_access-last.ensures.outside 0 (omega (arith, c.if-last-eq0.false))).masks c.in-Some-ask.byte
    ] in (
      c.requires.rests.0,
      (rest.0, rw (c.close.ensures.closed, flag) (g.B.TubeBus.stays_at_rest.close _ _ _ c.requires.rests.0 c.if-back-gt0.due rest.1 (omega (arith, high, rest.0)))),
    )

pub returns-clause-served : goal.returns-clause-served
returns-clause-served g c =
    let part = g.P.Processor.part in
    let bus = g.B.TubeBus in
    let w = g.B.TubeBus.bus_model in
    let m = g.B.TubeBus.state c.args.bus.now in
    let n : ℕ = c.cycle-cycle.result in
    let o = c.last_access-last.result in
    let k : ℕ = c.branch_to-back.result in
    let byte : ℕ = c.in-Some-ask.byte in
    let from : ℕ = c.args.from in
    let end : ℕ = c.args.end in
    let rest = c.requires.rests.1 in
    let outside = λ (t : ℕ). rw c.kind-part.ensures at (c.last_access-last.ensures.outside t (omega (arith, c.if-last-eq0.false))) in
    let skip = rw c.access.ensures at c.in-Some.ensures in
    let some : 1 < n = omega (arith, c.cycle-cycle.ensures.some) in
    let few : n * o.cycles ≤ n * 5 = mul-le-mul_left n c.last_access-last.ensures.few in
    let fits : from + n * o.cycles + n ≤ end = omega (arith, few, c.requires.fits, c.cycle-cycle.ensures.value) in
    let regs : c.take_in.new.r ≡ outcome part o c.args.at.now byte = c.take_in.ensures ∙ ap (λ (p : Part). outcome p o c.args.at.now byte) c.kind-part.ensures in
    let zero : w.close m 0 ≡ m = g.B.TubeBus.wired.still m 0 (omega arith) in
    rw c.close.ensures.closed (elim c.if-back-gt0.branch [
      | then-back-gt0+then-from-period v ↦
          let p : ℕ = from + n * o.cycles + n + n * k - from in
          let q : ℕ = n * o.cycles + n + n * k in
          let j : ℕ = v.again-more.result in
          let period : p ≡ q = omega arith in
          let back = λ (t : ℕ). rw (regs, c.kind-part.ensures) at (c.branch_to-back.ensures.done t v.if-back-gt0.true) in
          let again = rw period at v.again-more.ensures.again in
          let sum : q * (1 + j) ≡ q + q * j = mul-add q 1 j ∙ ap (λ (x : ℕ). x + q * j) (mul-one q) in
          let due : c.if-back-gt0.due ≡ from + q + q * j = omega (arith, sum, v.due-is, ap (λ (x : ℕ). x * (1 + j)) period) in
          let limit : from + q + q * j ≤ end = omega (arith, due, fits-more _ _ v.due-is v.again-more.ensures.few v.times_more.ensures) in
          let once = round part bus.wired bus.memory bus.stays_at_rest bus.stays_plain g.D.TubePort.answers end byte
          c.cycle-cycle.ensures.value c.requires.plain c.requires.free outside skip some rest.1 refl
          k v.if-back-gt0.true back rest.0 from 0 _ _ (omega arith) c.requires.before (omega (arith, limit)) c.in-Some-ask.ensures in
          let others = rounds part bus.wired bus.memory bus.stays_at_rest bus.stays_plain g.D.TubePort.answers end byte
          c.cycle-cycle.ensures.value c.requires.plain c.requires.free outside skip some rest.1 refl
          k v.if-back-gt0.true back rest.0 j (from + q) (from + n * o.cycles) _ _ (omega arith) (omega (arith, c.requires.before)) limit again in
          rw (v.port-is, v.at-is, due) (rw zero at (served-then once others))
      | else-back-gt0 v ↦
          rw (v.port-is, v.at-is, regs, v.due-is)
          (rw zero at (asked-whole part bus.wired bus.memory bus.stays_at_rest bus.stays_plain g.D.TubePort.answers end byte c.cycle-cycle.ensures.value c.requires.plain
          c.requires.free outside skip some rest.1 refl from 0 _ _ (omega arith) c.requires.before fits (omega (arith, fits, rest.0)) c.in-Some-ask.ensures))
    ])
