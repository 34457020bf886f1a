-- The beginning of BREAK, over whole runs of the host. (Acorn, BBC Microcomputer Advanced User
-- Guide, the BREAK key. This project's own: BREAK comes in place of a look, and at the end of a
-- cycle of a halted processor.)
use Rattle.std.specs.Prelude.{ℕ, ◌+◌, ◌-◌, ◌≡◌, ◌≤◌, ◌<◌, ◌⊎◌, Bool, true, List, [], ◌∷◌, ◌++◌, Option, Some, None, if◌then◌else◌}
use Rattle.beeb_bits.specs.declared.clock.Clock.{Clock}
use Rattle.cpu_alu.specs.declared.Cycle.{Cycle}
use Rattle.cpu6502.specs.Sequences.{next_cycle, halted}
use Rattle.bus_plug.specs.Plug.{Plug}
use Rattle.rom_set.specs.Roms.{Roms}
use Rattle.disc_image.specs.Image.{Image}
use Rattle.key_script.specs.declared.Event.{Event}
use Rattle.key_script.specs.Events.{tick_of}
use Rattle.tube_chip.specs.declared.Answer.{Answer}
use Rattle.host_devices.specs.Breaks as breaks
use Rattle.host_bus.specs.Bus.{clock_of}
use Rattle.tube_machine.specs.Step.{is_last_tick}
use Rattle.host_mach.specs.State.{HostState, cycle_of, power_on, with_tube}
use Rattle.host_mach.specs.Step.{cycle_ticks, is_break, next_state}
use Rattle.law_machines.specs.HostTicks.{run}

-- the last tick of an access that begins at `due`; `due` itself if it is the last tick of a cycle
abbrev pub end_from : HostState → Cycle → ℕ
end_from s c = if is_last_tick (cycle_of s) s.due then s.due else s.due + (cycle_ticks (clock_of s.bus.bus) s.due c - 1)

-- The tick at which BREAK may begin: that of a look, or the last one of an access of a halted
-- processor. An access of a processor that is not halted has none.
abbrev pub chance_by : Option Cycle → Bool → HostState → Option ℕ
chance_by None stopped s = Some s.due
chance_by (Some c) stopped s = if stopped then Some (end_from s c) else None

abbrev pub chance : HostState → Option ℕ
chance s = chance_by (next_cycle s.cpu) (halted s.cpu) s

abbrev pub listed : Option ℕ → List ℕ
listed None = []
listed (Some t) = t ∷ []

-- the ticks at which BREAK may begin in these steps
abbrev pub chances : List (Option Answer) → HostState → List ℕ
chances [] s = []
chances (a ∷ answers) s = listed (chance s) ++ chances answers (next_state s a)

-- the script has a break at tick `t`
abbrev pub HasBreak : ℕ → List Event → Type 0
HasBreak t [] = ⊥
HasBreak t (e ∷ events) = ((breaks.is_break e ≡ true) × (tick_of e ≡ t)) ⊎ HasBreak t events

-- each of these ticks is before `break`, or is `t`
abbrev pub NoneBetween : ℕ → ℕ → List ℕ → Type 0
NoneBetween break t [] = Unit {0}
NoneBetween break t (u ∷ ticks) = ((u < break) ⊎ (u ≡ t)) × NoneBetween break t ticks

-- A break of the script is at tick `t` or earlier. The ticks `before`, at which BREAK might have
-- begun, are earlier than this break, or are `t`.
pub record IsFirst (script : List Event) (t : ℕ) (before : List ℕ) : Type 0 where
  pub break : ℕ
  pub pressed : HasBreak break script
  pub behind : break ≤ t
  pub none : NoneBetween break t before

-- A break step is done at tick `t`. It is the next step, or the one after an access that ends at
-- `t`.
abbrev pub BreaksAt : ℕ → HostState → Type 0
BreaksAt t s = ((is_break s ≡ true) × (s.due ≡ t)) ⊎ ((a : Option Answer) → (is_break (next_state s a) ≡ true) × ((next_state s a).due ≡ t))

-- From power-on, with a Tube or without, after any steps: a break step is done at the first tick,
-- at or after each break of the script, at which BREAK may begin. No other is done.
pub record BreaksBegin : Type 0 where
  pub only : (clock : Clock) (roms : Roms) (d0 d1 : Option Image) (script : List Event) (plugs : List Plug) (tube : Bool) (answers : List (Option Answer)) →
      let p : HostState = with_tube tube (power_on clock roms d0 d1 script plugs) in
      let s : HostState = run answers p in
      is_break s ≡ true → (chance s ≡ Some s.due) × IsFirst script s.due (chances answers p)
  pub each : (clock : Clock) (roms : Roms) (d0 d1 : Option Image) (script : List Event) (plugs : List Plug) (tube : Bool) (answers : List (Option Answer)) (t : ℕ) →
      let p : HostState = with_tube tube (power_on clock roms d0 d1 script plugs) in
      let s : HostState = run answers p in
      chance s ≡ Some t → IsFirst script t (chances answers p) → BreaksAt t s
