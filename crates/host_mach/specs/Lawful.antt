-- The host is a party that plays the host's side.
use Rattle.std.specs.Prelude.{ℕ, ◌≡◌, ◌≤◌, ◌+◌, Bool, true, false, IsTrue, Option, Some, refl, if◌then◌else◌}
use Rattle.std.proofs.Common.{arith, ap}
use Rattle.beeb_bits.specs.declared.Side.{Side}
use Rattle.beeb_bits.specs.declared.Side.TheVariants.{Host, Para}
use Rattle.beeb_bits.specs.declared.clock.Clock.{Clock}
use Rattle.beeb_bits.specs.Clock.{host, some-host, few-host}
use Rattle.op_table.specs.declared.names.Part.TheVariants.{Nmos}
use Rattle.cpu_alu.specs.declared.Cycle.{Cycle}
use Rattle.cpu_core.specs.Sequences.{next_cycle}
use Rattle.tube_chip.specs.declared.Op.TheVariants as op
use Rattle.tube_chip.specs.Act.{MayDo}
use Rattle.tube_chip.specs.Events.{is_side}
use Rattle.tube_chip.specs.declared.Answer.TheVariants.{Seen}
use Rattle.tube_party.specs.Transitions.{IsLawful, IsPermitted, SeesHirqAlone}
use Rattle.host_bus.specs.Bus.{BusState, clock_of}
use Rattle.host_bus.specs.Closing.{closed-again, closed-still}
use Rattle.tube_machine.specs.BusModel.{IsWired, StaysPlain}
use Rattle.tube_machine.specs.Lawful.{lawful, may_play}
use Rattle.host_mach.specs.State.{HostBusState, HostState}
use Rattle.host_mach.specs.Step.{host_bus_model, host_transitions, host_closed, is_break, after_break, after_step, cycle_ticks}
use Rattle.host_mach.specs.SameClock.{access-same}
use Rattle.host_mach.specs.SameBreaks.{access-leaves}

pub cycle-ticks : (clock : Clock) (t : ℕ) (c : Cycle) → host clock ≤ cycle_ticks clock t c
cycle-ticks clock t c = grind arith

pub host_wired : IsWired host_bus_model
host_wired = record {
  some = λ b. omega (arith, some-host (clock_of b.bus));
  few = λ b. few-host (clock_of b.bus);
  ticks = λ b t c. cycle-ticks (clock_of b.bus) t c;
  closed = λ b t. refl;
  again = λ b t u high. ap (λ (x : BusState). record b { bus = x }) (closed-again b.bus t u high);
  still = λ b t low. ap (λ (x : BusState). record b { bus = x }) (closed-still b.bus t low);
  tube_close = λ b t. refl;
  cycle_close = λ b t. refl;
  cycle_after = λ b c. ap host (access-same b.bus c);
  cycle_taken = λ b l. refl;
  pending_close = λ b u t. refl;
  pending_after = λ b c t. access-leaves b.bus c t;
  pending_taken = λ b l t. refl;
  closed_taken = λ b l. refl;
  closed_held = λ b. refl;
  closed_reset = λ b l. refl;
  closed_broken = λ b t. refl;
  cycle_held = λ b. refl;
  cycle_reset = λ b l. refl;
  cycle_broken = λ b t. refl;
}

-- each look is plain
pub host_plain : StaysPlain host_bus_model (λ b l. true)
host_plain = record { resets = λ b l is. refl; close = λ b l t. refl; after = λ b l c. refl; taken = λ b l is. refl }

-- nothing is noted of it
pub host_even : true ≡ false → (b : HostBusState) (t : ℕ) (c : Cycle) → host_bus_model.takes b t c ≡ host_bus_model.cycle b
host_even is b t c = absurd (cc)

pub host_joined : true ≡ false → (b : HostBusState) → host_bus_model.has_tube b ≡ true
host_joined is b = absurd (cc)

pub host_lawful : IsLawful host_transitions
host_lawful = lawful Nmos host_bus_model host_wired

-- the reset is the host's
resets_by : (side : Side) → IsTrue (is_side Host side) → MayDo side op.Reset
resets_by Host plays = refl
resets_by Para plays = absurd (cc)

pub host_permitted : IsPermitted host_transitions (is_side Host)
host_permitted = may_play Nmos host_bus_model (is_side Host) (λ b t side plays pending. resets_by side plays)

-- Of the lines, its looks see the host's interrupt request alone.
pub host_sees : SeesHirqAlone host_transitions
host_sees s a b same = by (is_break s) (next_cycle Nmos s.cpu)
  where
    closed : HostState
    closed = host_closed s (s.due + 1)

    by : (breaks : Bool) (c : Option Cycle)
        → (if breaks then after_break closed else after_step c closed (Some (Seen a))) ≡ (if breaks then after_break closed else after_step c closed (Some (Seen b)))
    by breaks c = grind arith
