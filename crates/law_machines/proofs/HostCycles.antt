-- The host keeps to its cycles.
use Rattle.std.proofs.Common.{◌≡◌, ◌∙◌, sym, ap, subst, refl, ℕ, ◌+◌, ◌-◌, ◌*◌, ◌/◌, ◌%◌, ◌<◌, ◌&&◌, ◌||◌, Bool, true, false, arith}
use Rattle.std.specs.Prelude.{Option, None, Some, is_none, if◌then◌else◌}
use Rattle.beeb_bits.specs.declared.clock.Clock.{Clock}
use Rattle.beeb_bits.specs.declared.clock.Clock.TheVariants.{Three, Four}
use Rattle.beeb_bits.specs.Clock.{host}
use Rattle.op_table.specs.declared.names.Part.TheVariants.{Nmos}
use Rattle.cpu_alu.specs.declared.Cycle.{Cycle}
use Rattle.cpu_alu.specs.declared.Regs.{Regs}
use Rattle.cpu_core.specs.declared.Sequence.{Sequence}
use Rattle.cpu_core.specs.declared.Sequence.TheVariants.{Instruction, Reset, Nmi, Irq}
use Rattle.cpu6502.specs.State as cpu
use Rattle.cpu6502.specs.Sequences.{next_cycle, halted, fresh}
use Rattle.tube_chip.specs.declared.Answer.{Answer}
use Rattle.host_devices.specs.Map.{stretch}
use Rattle.host_bus.specs.Bus.{clock_of, bus_break_pending}
use Rattle.host_mach.specs.State.{HostState, cycle_of, power_on}
use Rattle.host_mach.specs.Step.{address, byte_of, is_break, after_break, after_step, host_closed}
use Rattle.tube_machine.specs.Step.{is_last_tick}
use Rattle.host_mach.specs.SameClock.{access-same}
use Rattle.host_mach.specs.SameBreaks.{access-leaves}
use Rattle.law_machines.specs.HostTicks.{IsAt, IsOnCycle, HostKeepsCycles}
use Rattle.law_machines.proofs.Counts.{never_ends, stays}

behind : (clock : Clock) (t : ℕ) → t % host clock ≡ host clock - 1 → (t + 1) % host clock ≡ 0
behind Three t h = omega arith
behind Four t h = omega arith

begun : (clock : Clock) (t k : ℕ) → t % host clock ≡ 0 → (t + host clock * k) % host clock ≡ 0
begun Three t k h = omega arith
begun Four t k h = omega arith

pub ended : (clock : Clock) (t : ℕ) {k : ℕ} → 0 < k → t % host clock ≡ 0 → (t + (host clock * k - 1)) % host clock ≡ host clock - 1
ended Three t some h = omega arith
ended Four t some h = omega arith

not_last : (clock : Clock) (t : ℕ) → t % host clock ≡ 0 → is_last_tick (host clock) t ≡ false
not_last Three t h = rw h
not_last Four t h = rw h

pub last : (clock : Clock) (t : ℕ) → t % host clock ≡ host clock - 1 → is_last_tick (host clock) t ≡ true
last Three t h = rw h
last Four t h = rw h

pub some_cycles : (slow even : Bool) → 0 < (if slow then (if even then 2 else 3) else 1)
some_cycles true true = omega arith
some_cycles true false = omega arith
some_cycles false even = omega arith

-- a sequence that begins has an access, and no break step
begins : (pending at_last : Bool) (q : Sequence) (r : Regs) →
    ((pending && (is_none (next_cycle (fresh q r)) || (halted (fresh q r) && at_last))) || is_none (next_cycle (fresh q r))) ≡ false
begins true at_last Instruction r = refl
begins true at_last Reset r = refl
begins true at_last Nmi r = refl
begins true at_last Irq r = refl
begins false at_last Instruction r = refl
begins false at_last Reset r = refl
begins false at_last Nmi r = refl
begins false at_last Irq r = refl

fresh_at : (y : HostState) {q : Sequence} {r : Regs} → y.cpu ≡ fresh q r → y.due % cycle_of y ≡ 0 → IsOnCycle y
fresh_at y {q} {r} cpu_is first =
    let none = ap (λ (c : cpu.State). (bus_break_pending y.bus.bus y.due && (is_none (next_cycle c) || (halted c && is_last_tick (cycle_of y) y.due))) || is_none (next_cycle c)) cpu_is
    ∙ begins (bus_break_pending y.bus.bus y.due) (is_last_tick (cycle_of y) y.due) q r in
    first ∙ sym (ap (λ (b : Bool). if b then cycle_of y - 1 else 0) none)

-- after a look or a break step
fresh_on : (y : HostState) (q : Sequence) (r : Regs) (t : ℕ) → y.cpu ≡ fresh q r → y.due ≡ t + 1 → t % cycle_of y ≡ cycle_of y - 1 → IsOnCycle y
fresh_on y q r t cpu_is due_is ends = fresh_at y cpu_is (ap (λ (u : ℕ). u % cycle_of y) due_is ∙ behind (clock_of y.bus.bus) t ends)

or_true : (b : Bool) → (b || true) ≡ true
or_true true = refl
or_true false = refl

none_left : (p h : Bool) → ((p && (false || (h && false))) || false) ≡ false
none_left true true = refl
none_left true false = refl
none_left false h = refl

-- after an access that began a cycle
access_on : {clock : Clock} (y : HostState) (t : ℕ) {k : ℕ} {p h v : Bool} → 0 < k → t % host clock ≡ 0 → clock_of y.bus.bus ≡ clock →
    y.due ≡ (if (p && h) || v then t + (host clock * k - 1) else t + host clock * k) → is_none (next_cycle y.cpu) ≡ v →
    (h ≡ true → (v ≡ false) × (halted y.cpu ≡ true)) → bus_break_pending y.bus.bus (t + (host clock * k - 1)) ≡ p → IsOnCycle y
access_on {clock} y t {k} {p} {h} {v} some zero clock_is due_is over halts pending_is =
    subst (λ (c : Clock). IsAt (is_break y || is_none (next_cycle y.cpu)) (host c) y.due) (sym clock_is) (by p h v refl refl refl)
  where
    at_end : y.due ≡ t + (host clock * k - 1) → (is_break y || is_none (next_cycle y.cpu)) ≡ true → IsAt (is_break y || is_none (next_cycle y.cpu)) (host clock) y.due
    at_end e ends = ap (λ (u : ℕ). u % host clock) e ∙ ended clock t some zero ∙ sym (ap (λ (b : Bool). if b then host clock - 1 else 0) ends)

    at_start : y.due ≡ t + host clock * k → v ≡ false → IsAt (is_break y || is_none (next_cycle y.cpu)) (host clock) y.due
    at_start e on =
        let first : y.due % host clock ≡ 0 = ap (λ (u : ℕ). u % host clock) e ∙ begun clock t k zero in
        let not_end = ap (λ (c : Clock). is_last_tick (host c) y.due) clock_is ∙ not_last clock y.due first in
        let none = ap (λ (n : Bool). (bus_break_pending y.bus.bus y.due && (n || (halted y.cpu && is_last_tick (cycle_of y) y.due))) || n) (over ∙ on)
        ∙ ap (λ (l : Bool). (bus_break_pending y.bus.bus y.due && (false || (halted y.cpu && l))) || false) not_end
        ∙ none_left _ _ in
        first ∙ sym (ap (λ (b : Bool). if b then host clock - 1 else 0) none)

    breaks_on : y.due ≡ t + (host clock * k - 1) → p ≡ true → h ≡ true → (is_break y || is_none (next_cycle y.cpu)) ≡ true
    breaks_on e pe he =
        let there = ap (λ (u : ℕ). u % host clock) e ∙ ended clock t some zero in
        let end = ap (λ (c : Clock). is_last_tick (host c) y.due) clock_is ∙ last clock y.due there in
        let pending = ap (λ (u : ℕ). bus_break_pending y.bus.bus u) e ∙ pending_is ∙ pe in
        ap (λ (n : Bool). (bus_break_pending y.bus.bus y.due && (n || (halted y.cpu && is_last_tick (cycle_of y) y.due))) || n) (over ∙ (halts he).0)
        ∙ ap (λ (b : Bool). (b && (false || (halted y.cpu && is_last_tick (cycle_of y) y.due))) || false) pending
        ∙ ap (λ (b : Bool). (true && (false || (b && is_last_tick (cycle_of y) y.due))) || false) (halts he).1
        ∙ ap (λ (b : Bool). (true && (false || (true && b))) || false) end

    tick_by : (a b c : Bool) → p ≡ a → h ≡ b → v ≡ c → y.due ≡ (if (a && b) || c then t + (host clock * k - 1) else t + host clock * k)
    tick_by a b c pe he ve =
        due_is ∙ ap (λ (x : Bool). if (x && h) || v then t + (host clock * k - 1) else t + host clock * k) pe
        ∙ ap (λ (x : Bool). if (a && x) || v then t + (host clock * k - 1) else t + host clock * k) he
        ∙ ap (λ (x : Bool). if (a && b) || x then t + (host clock * k - 1) else t + host clock * k) ve

    over_true : v ≡ true → (is_break y || is_none (next_cycle y.cpu)) ≡ true
    over_true ve = ap (λ (n : Bool). is_break y || n) (over ∙ ve) ∙ or_true (is_break y)

    by : (a b c : Bool) → p ≡ a → h ≡ b → v ≡ c → IsAt (is_break y || is_none (next_cycle y.cpu)) (host clock) y.due
    by true true true pe he ve = at_end (tick_by true true true pe he ve) (over_true ve)
    by true false true pe he ve = at_end (tick_by true false true pe he ve) (over_true ve)
    by false true true pe he ve = at_end (tick_by false true true pe he ve) (over_true ve)
    by false false true pe he ve = at_end (tick_by false false true pe he ve) (over_true ve)
    by true true false pe he ve = at_end (tick_by true true false pe he ve) (breaks_on (tick_by true true false pe he ve) pe he)
    by true false false pe he ve = at_start (tick_by true false false pe he ve) ve
    by false true false pe he ve = at_start (tick_by false true false pe he ve) ve
    by false false false pe he ve = at_start (tick_by false false false pe he ve) ve

on_by : (b : Bool) (o : Option Cycle) (s : HostState) (a : Option Answer) → next_cycle s.cpu ≡ o → IsAt (b || is_none o) (cycle_of s) s.due →
    IsOnCycle (if b then after_break (host_closed s (s.due + 1)) else after_step o (host_closed s (s.due + 1)) a)
on_by true o s a is at =
    let y : HostState = after_break (host_closed s (s.due + 1)) in
    fresh_on y Reset y.cpu.regs s.due refl refl at
on_by false None s a is at =
    let y : HostState = after_step None (host_closed s (s.due + 1)) a in
    fresh_on y y.cpu.sequence y.cpu.regs s.due refl refl at
on_by false (Some c) s a is at =
    let x : HostState = host_closed s (s.due + 1) in
    let y : HostState = after_step (Some c) x a in
    let byte : ℕ = byte_of x.bus s.due a c in
    let k : ℕ = stretch (address c) (s.due / cycle_of s) in
    let stays_halted : halted s.cpu ≡ true → (is_none (next_cycle y.cpu) ≡ false) × (halted y.cpu ≡ true) =
    λ h. (ap (λ (p : cpu.State). is_none (next_cycle p)) (stays Nmos byte h) ∙ never_ends Nmos s.cpu h, ap halted (stays Nmos byte h) ∙ h) in
    access_on y s.due
    (some_cycles _ _) at (access-same x.bus.bus c) refl refl stays_halted (access-leaves x.bus.bus c (s.due + (cycle_of s * k - 1)))

no_ticks : (clock : Clock) → 0 % host clock ≡ 0
no_ticks Three = refl
no_ticks Four = refl

pub host_keeps : HostKeepsCycles
host_keeps = record {
  first = λ clock roms d0 d1 script plugs.
      let y : HostState = power_on clock roms d0 d1 script plugs in
      fresh_at y refl (no_ticks clock);
  next = λ s a on. on_by (is_break s) _ s a refl on;
}
