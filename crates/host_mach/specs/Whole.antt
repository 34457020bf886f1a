-- The host's addresses that are plain memory.
use Rattle.std.specs.Prelude.{ℕ, zero, suc, length, Option, None, Some, MatchOption, ◌≡◌, ◌≤◌, ◌<◌, ◌+◌, ◌*◌, ◌/◌}
use Rattle.std.specs.Prelude.{max, nat_lt, ◌&&◌, ◌||◌, not, Bool, true, false, slice_index, slice_set, if◌then◌else◌}
use Rattle.std.proofs.Common.{arith, ap, ◌∙◌, sym, subst, inl, inr}
use Rattle.std.proofs.lemmas.Bool.{ltb-true, lt-ltb, cases_lt}
use Rattle.std.proofs.lemmas.Grind.{common_steps}
use Rattle.std.proofs.lemmas.List.{set-get_or}
use Rattle.std.proofs.Math.Nat.{mul-one}
use Rattle.op_table.specs.declared.names.Part.{Part}
use Rattle.cpu_alu.specs.declared.Cycle.{Cycle}
use Rattle.cpu_alu.specs.declared.Cycle.TheVariants.{Read, Write}
use Rattle.cpu_core.specs.State.{State}
use Rattle.cpu_core.specs.Sequences.{next_cycle, after_byte}
use Rattle.beeb_bits.specs.Clock.{host}
use Rattle.tube_chip.specs.declared.Lines.{Lines}
use Rattle.host_devices.specs.Map.{Place, Ram, PagedRom, OsRom, place_of, stretch, stretched_in, memory_map}
use Rattle.host_bus.specs.Bus.{BusState, clock_of, bus_closed, closed_at, bus_irq, bus_nmis, bus_answer, bus_after_read, bus_after_write}
use Rattle.host_bus.specs.Closing.{closed-again, closed-still}
use Rattle.tube_machine.specs.Whole.{reach_of, later, IsMemory, IsAtRest, StaysAtRest}
use Rattle.cpu_whole.specs.Whole.{Reach, Carried, is_plain, shows, leaves}
use Rattle.host_bus.specs.StoredLines.{irq-stored, nmis-stored}
use Rattle.host_mach.specs.State.{HostBusState}
use Rattle.host_mach.specs.SameClock.{access-same}
use Rattle.host_mach.specs.TubeAccess.{tube-leaves}
use Rattle.host_mach.specs.Step.{is_tube, host_bus_model}

-- reads below the devices, and writes to the RAM
abbrev pub plain_read : ℕ → Bool
plain_read at = nat_lt at 0xFC00

abbrev pub plain_write : ℕ → Bool
plain_write at = nat_lt at 0x8000

abbrev reach : Reach HostBusState
reach = reach_of host_bus_model plain_read plain_write

-- the place of an address of memory
abbrev memory_place : Bool → Bool → Place
memory_place ram paged = if ram then Ram else if paged then PagedRom else OsRom

is-ram : (at : ℕ) → at < 0x8000 → place_of at ≡ Ram
is-ram at low = grind (arith, common_steps)

not-tube : (at : ℕ) → at < 0xfc00 → is_tube at ≡ false
not-tube at low = grind (arith, common_steps)

not-stretched : (at : ℕ) → at < 0xfc00 → stretched_in memory_map at ≡ false
not-stretched at low = grind (arith, common_steps)

fast : (n at cycle : ℕ) → at < 0xfc00 → n * stretch at cycle ≡ n
fast n at cycle low = rw (not-stretched at low) (mul-one n)

answers : (b : BusState) (u t at : ℕ) → at < 0xfc00 → bus_answer (bus_closed b u) t at ≡ bus_answer b 0 at
answers b u t at low = grind arith

reads-leave : (b : BusState) (at : ℕ) → at < 0xfc00 → bus_after_read b at ≡ b
reads-leave b at low = grind arith

-- a byte of the RAM is written
abbrev stored : BusState → ℕ → ℕ → BusState
stored b at v = record b { board = record b.board { ram = slice_set b.board.ram at v } }

writes-store : (b : BusState) (at v : ℕ) → at < 0x8000 → bus_after_write b at v ≡ stored b at v
writes-store b at v low = rw (is-ram at low)

-- the byte stored there
stands : (b : BusState) (at : ℕ) → at < 0x8000 → bus_answer b 0 at ≡ slice_index b.board.ram at
stands b at low = rw (is-ram at low)

twice : (b : BusState) (t u at v : ℕ) → at < 0x8000 → t ≤ u →
    bus_after_write (bus_closed (bus_after_write (bus_closed b t) at (bus_answer b 0 at)) u) at v ≡ bus_after_write (bus_closed b u) at v
twice b t u at v low high =
    let c : BusState = bus_closed b t in
    let back : bus_after_write c at (bus_answer b 0 at) ≡ c =
    rw (writes-store c at (bus_answer b 0 at) low, stands b at low, set-get_or b.board.ram at 0) in
    ap (λ (x : BusState). bus_after_write (bus_closed x u) at v) back ∙ ap (λ (x : BusState). bus_after_write x at v) (closed-again b t u high)

clock-stays : (b : BusState) (at v : ℕ) → at < 0x8000 → clock_of (bus_after_write b at v) ≡ clock_of b
clock-stays b at v low = ap clock_of (writes-store b at v low)

again : (m : HostBusState) (t n at byte : ℕ) → at < 0x8000 → reach.put (reach.put m t n at (bus_answer m.bus 0 at)) t (suc n) at byte ≡ reach.put m t (suc n) at byte
again m t n at byte low =
    let c : ℕ = host (clock_of m.bus) in
    let x : BusState = bus_after_write (bus_closed m.bus (t + c * n + 1)) at (bus_answer m.bus 0 at) in
    ap (λ (k : ℕ). record m { bus = bus_after_write (bus_closed x (t + k * suc n + 1)) at byte }) (ap host (clock-stays (bus_closed m.bus (t + c * n + 1)) at (bus_answer m.bus 0 at) low))
    ∙ ap (λ (b : BusState). record m { bus = b }) (twice m.bus (t + c * n + 1) (t + c * suc n + 1) at byte low (later c t n))

pub host_memory : IsMemory host_bus_model plain_read plain_write
host_memory = record {
  plain = record {
    low_read = λ at low. lt-ltb at 0xFC00 (omega (arith, low));
    low_written = λ at low. lt-ltb at 0x8000 (omega (arith, low));
    again = λ m t n at byte low. again m t n at byte (ltb-true at 0x8000 low);
  };
  read_apart = λ at low. not-tube at (ltb-true at 0xFC00 low);
  read_leaves = λ b at low. ap (λ (x : BusState). record b { bus = x }) (reads-leave b.bus at (ltb-true at 0xFC00 low));
  read_ticks = λ b t at low. fast (host (clock_of b.bus)) at (t / host (clock_of b.bus)) (ltb-true at 0xFC00 low);
  shows = λ b t u at low. answers b.bus u t at (ltb-true at 0xFC00 low);
  write_apart = λ at low. not-tube at (let below : at < 0x8000 = ltb-true at 0x8000 low in omega (arith, below));
  write_ticks = λ b t at byte low. fast (host (clock_of b.bus)) at (t / host (clock_of b.bus)) (let below : at < 0x8000 = ltb-true at 0x8000 low in omega (arith, below));
  write_closed = λ b at byte low. ap (λ (x : BusState). x.board.closed) (writes-store b.bus at byte (ltb-true at 0x8000 low));
}

-- A look asks for nothing if the count of NMIs is the one taken, and no line for an IRQ is on or
-- the flag I masks it. Looks up to a tick ask for nothing if this holds for the bus closed at each
-- tick up to there.
abbrev pub AsksNothing : BusState → ℕ → Lines → Bool → Type 0
AsksNothing b nmis l masks = (bus_nmis b ≡ nmis) × (((bus_irq b || l.hirq) && not masks) ≡ false)

abbrev pub rests : HostBusState → Lines → Bool → ℕ → Type 0
rests b l masks far = 0 < far → (u : ℕ) → u ≤ far → AsksNothing (bus_closed b.bus u) b.nmis l masks

at-rest : (b : HostBusState) (l : Lines) (masks : Bool) → AsksNothing b.bus b.nmis l masks → IsAtRest host_bus_model b l masks
at-rest b l masks h = grind arith

closed-rests : (b : HostBusState) (l : Lines) (masks : Bool) (far t : ℕ) → rests b l masks far → t ≤ far → rests (record b { bus = bus_closed b.bus t }) l masks far
closed-rests b l masks far t rest low some u near = elim (cases_lt u t) [
  | inl less ↦
      let still : u ≤ max t (closed_at b.bus) = omega (arith, less) in
      subst (λ (x : BusState). AsksNothing x b.nmis l masks) (sym (closed-still (bus_closed b.bus t) u still)) (rest some t low)
  | inr more ↦ subst (λ (x : BusState). AsksNothing x b.nmis l masks) (sym (closed-again b.bus t u more)) (rest some u near)
]

stored-rests : (b : HostBusState) (l : Lines) (masks : Bool) (far at v : ℕ) → at < 0x8000 → rests b l masks far → rests (record b { bus = bus_after_write b.bus at v }) l masks far
stored-rests b l masks far at v low rest some u near =
    let there = rest some u near in
    rw (writes-store b.bus at v low) (nmis-stored b.bus.board at v u ∙ there.0, rw (irq-stored b.bus.board at v u) there.1)

pub host_rests : StaysAtRest host_bus_model plain_write rests
host_rests = record {
  looks = λ b l masks far t rest low. at-rest (record b { bus = bus_closed b.bus (t + 1) }) l masks (rest (omega (arith, low)) (t + 1) (omega (arith, low)));
  close = λ b l masks far t rest low. closed-rests b l masks far t rest low;
  write = λ b l masks far at byte rest low. stored-rests b l masks far at byte (ltb-true at 0x8000 low) rest;
  tube = λ b l masks far c rest at some u near. rw (tube-leaves b c at) (rest some u near);
}

-- after an instruction the bus is closed no further than the instruction's cycles
pub comes_behind : (c t n closed : ℕ) → 1 < c → 0 < n → closed ≤ t + max 1 (c * n) → closed ≤ t + c * n
comes_behind c t n closed h more low = grind arith

-- no access changes the clock
pub carried-clock : (part : Part) (t k : ℕ) (s : State) (m : HostBusState) (last : State) (there : HostBusState) → Carried reach t part k s m last there → clock_of there.bus ≡ clock_of m.bus
carried-clock part t zero s m last there h = ap (λ (x : HostBusState). clock_of x.bus) (sym h.1)
carried-clock part t (suc k) s m last there h = by (λ on b more. carried-clock part t k on b last there more) (next_cycle part s) h
  where
    by : ((on : State) (b : HostBusState) → Carried reach t part k on b last there → clock_of there.bus ≡ clock_of b.bus) → (o : Option Cycle)
        → MatchOption o ⊥ (λ c. (is_plain reach c ≡ true) × Carried reach t part k (after_byte part s (shows reach m c)) (leaves reach t m (length s.seen) c) last there)
        → clock_of there.bus ≡ clock_of m.bus
    by rest None h = absurd h
    by rest (Some (Read at)) h = rest _ _ h.1
    by rest (Some (Write at v)) h = rest _ _ h.1 ∙ access-same (bus_closed m.bus (t + host (clock_of m.bus) * length s.seen + 1)) (Write at v)
