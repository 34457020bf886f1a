-- Notes of writes, and the rollback by them.
use Rattle.std.specs.Prelude.{ℕ, List, [], ◌∷◌, ◌≡◌, ◌≤◌, ◌+◌, ◌-◌, ◌*◌, min, Bool, true, false, is_none, slice_set}
use Rattle.beeb_bits.specs.declared.clock.Clock.{Clock}
use Rattle.beeb_bits.specs.Clock.{para}
use Rattle.cpu65c02.specs.State as cpu
use Rattle.cpu65c02.specs.Sequences.{next_cycle}
use Rattle.para_mach.specs.declared.notes.Stood.{Stood}
use Rattle.tube_machine.specs.Step.{at_of}
use Rattle.tube_party.specs.declared.party.Ask.{Ask}
use Rattle.tube_party.specs.Transitions.{Shown, Looks, IsAsk}
use Rattle.para_mach.specs.State.{ParaBusState, ParaState}
use Rattle.para_mach.specs.Step.{para_transitions}

-- the RAM before writes, from the RAM after them and the former bytes of their addresses, the
-- oldest first
abbrev pub put_back : List Stood → List ℕ → List ℕ
put_back [] ram = ram
put_back (x ∷ xs) ram = slice_set (put_back xs ram) x.at x.byte

-- the bus before accesses and looks that left the taken counts, but for what changes at each step
abbrev pub part_kept : List ℕ → ParaBusState → ParaBusState
part_kept ram b = record b { ram = ram; is_held = false; closed = 0 }

-- the machine before them
abbrev pub roll_back_leaves : cpu.State → Bool → ℕ → ℕ → List Stood → ParaState → ParaState
roll_back_leaves c held due closed stood s = at_of c (record s.bus { ram = put_back stood s.bus.ram; is_held = held; closed = closed }) due

-- the notes at the machine's present state, without a write
abbrev pub IsNoted : ParaState → cpu.State → Bool → ℕ → ℕ → List Stood → Type 0
IsNoted s c held due closed stood = (c ≡ s.cpu) × (held ≡ s.bus.is_held) × (due ≡ s.due) × (closed ≡ s.bus.closed) × (stood ≡ [])

-- A machine that is held is at a look.
abbrev pub IsHeldAtLook : ParaState → Type 0
IsHeldAtLook s = s.bus.is_held ≡ true → is_none (next_cycle s.cpu) ≡ true

-- Steps of a run in which no access is answered, and the next ask, which may be a safe look.
pub record LooksOn (n : ℕ) (v : Shown) (old : ParaState) (ask : Ask) (new : ParaState) : Type 0 where
  pub steps : ℕ
  pub last : ParaState
  pub looks : Looks para_transitions n v steps old last
  pub asked : IsAsk para_transitions n last ask new

-- a tick below which a run from a step at tick `due` has room for its notes: a write takes a cycle,
-- and a sequence has at most 16 accesses
abbrev pub IsNear : Clock → ℕ → ℕ → ℕ → ℕ → Type 0
IsNear clock safe_until due room near = (near ≤ safe_until) × (near ≤ due + para clock * (min room 65536 - 16))
