-- The byte stored at an address of the second processor's memory.
use Rattle.std.specs.Prelude.{ℕ, ◌≡◌, List, Bool, Option, Some, None, if◌then◌else◌, refl}
use Rattle.para_mach.specs.State.{ParaState}
use Rattle.para_mach.specs.Step.{is_tube, memory, para_transitions}

-- the byte that a read yields, of the RAM or of the boot ROM while that is in; none if the Tube
-- answers
abbrev pub peek_of : List ℕ → List ℕ → Bool → ℕ → Option ℕ
peek_of ram rom rom_in at = if is_tube at then None else Some (memory ram rom rom_in at)

abbrev pub para_peek : ParaState → ℕ → Option ℕ
para_peek s at = peek_of s.bus.ram s.bus.rom s.bus.rom_in at

-- Closing the machine does not change it.
pub peek-leaves : (s : ParaState) (t at : ℕ) → para_peek (para_transitions.close s t) at ≡ para_peek s at
peek-leaves s t at = refl
