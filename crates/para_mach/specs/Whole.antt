-- The second processor's addresses that are plain memory, and its looks that ask for nothing.
use Rattle.std.specs.Prelude.{ℕ, suc, ◌≡◌, ◌≤◌, ◌<◌, ◌+◌, ◌*◌, ◌&&◌, max, nat_lt, Bool, true, false, not, refl, slice_set, if◌then◌else◌}
use Rattle.std.proofs.Common.{arith}
use Rattle.std.proofs.lemmas.Bool.{lt-ltb}
use Rattle.std.proofs.lemmas.List.{set-set}
use Rattle.cpu_alu.specs.declared.Cycle.TheVariants.{Read}
use Rattle.tube_chip.specs.declared.Lines.{Lines}
use Rattle.beeb_bits.specs.Clock.{para}
use Rattle.tube_machine.specs.Whole.{later, IsMemory, IsAtRest, StaysAtRest}
use Rattle.para_mach.specs.State.{ParaBusState}
use Rattle.para_mach.specs.Step.{is_tube, para_bus_model}

-- reads below the Tube, and writes below the boot ROM
abbrev pub plain_read : ℕ → Bool
plain_read at = nat_lt at 0xFEF8

abbrev pub plain_write : ℕ → Bool
plain_write at = nat_lt at 0xF800

-- Looks ask for nothing if the count of NMIs is the one taken, the processor is not held, and the
-- line for an IRQ is off or the flag I masks it.
abbrev pub rests : ParaBusState → Lines → Bool → ℕ → Type 0
rests b l masks far = 0 < far → (l.nmis ≡ b.nmis) × (b.is_held ≡ false) × ((l.pirq && not masks) ≡ false)

read-apart : (at : ℕ) → plain_read at ≡ true → is_tube at ≡ false
read-apart at low = grind arith

write-apart : (at : ℕ) → plain_write at ≡ true → is_tube at ≡ false
write-apart at low = grind arith

and-true : (b : Bool) → (b && true) ≡ b
and-true true = refl
and-true false = refl

-- a write, to the Tube or to another address
abbrev written_by : Bool → ParaBusState → ℕ → ℕ → ParaBusState
written_by tube b at x = record b { ram = (if tube then b.ram else slice_set b.ram at x); rom_in = b.rom_in && not tube }

abbrev closed_at : ParaBusState → ℕ → ParaBusState
closed_at b t = record b { closed = max t b.closed }

latest : (c t u : ℕ) → t ≤ u → max u (max t c) ≡ max u c
latest c t u high = omega (arith, high)

twice-apart : (b : ParaBusState) (t u at x y : ℕ) → t ≤ u → written_by false (closed_at (written_by false (closed_at b t) at x) u) at y ≡ written_by false (closed_at b u) at y
twice-apart b t u at x y high =
    rw (set-set b.ram at x y, and-true b.rom_in, and-true b.rom_in, latest b.closed t u high)

-- a byte that is written twice
twice : (tube : Bool) → tube ≡ false → (b : ParaBusState) (t u at x y : ℕ) → t ≤ u → written_by tube (closed_at (written_by tube (closed_at b t) at x) u) at y ≡ written_by tube (closed_at b u) at y
twice false is b t u at x y high = twice-apart b t u at x y high
twice true is b t u at x y high = absurd (cc)

read-leaves : (b : ParaBusState) (at : ℕ) → plain_read at ≡ true → para_bus_model.after b (Read at) ≡ b
read-leaves b at low = rw (read-apart at low, and-true b.rom_in)

pub para_memory : IsMemory para_bus_model plain_read plain_write
para_memory = record {
  plain = record {
    low_read = λ at low. lt-ltb at 0xFEF8 (omega (arith, low));
    low_written = λ at low. lt-ltb at 0xF800 (omega (arith, low));
    again = λ m t n at byte low. twice (is_tube at) (write-apart at low) m (t + para m.clock * n + 1) (t + para m.clock * suc n + 1) at _ byte (later (para m.clock) t n);
  };
  read_apart = read-apart;
  read_leaves = read-leaves;
  read_ticks = λ b t at low. refl;
  shows = λ b t u at low. refl;
  write_apart = write-apart;
  write_ticks = λ b t at byte low. refl;
  write_closed = λ b at byte low. refl;
}

at-rest : (b : ParaBusState) (l : Lines) (masks : Bool) → l.nmis ≡ b.nmis → b.is_held ≡ false → (l.pirq && not masks) ≡ false → IsAtRest para_bus_model b l masks
at-rest b l masks nmis held irq = grind arith

pub para_rests : StaysAtRest para_bus_model plain_write rests
para_rests = record {
  looks = λ b l masks far t rest low. let there = rest (omega (arith, low)) in at-rest (record b { closed = max (t + 1) b.closed }) l masks there.0 there.1 there.2;
  close = λ b l masks far t rest low. rest;
  write = λ b l masks far at byte rest low. rest;
  tube = λ b l masks far c rest at. rest;
}
