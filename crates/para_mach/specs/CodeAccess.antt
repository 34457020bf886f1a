-- The result of an access to the memory.
use Rattle.std.specs.Prelude.{ℕ, List, Bool, true, false, ◌≡◌, ◌%◌, if◌then◌else◌, Some, None, Result, Ok, Err}
use Rattle.cpu_alu.specs.declared.Cycle.{Cycle}
use Rattle.cpu_alu.specs.declared.Cycle.TheVariants.{Read, Write}
use Rattle.tube_chip.specs.Act.{access}
use Rattle.tube_chip.specs.declared.Op.TheVariants as op
use Rattle.tube_machine.specs.declared.bus.AccessError.{AccessError}
use Rattle.tube_machine.specs.declared.bus.AccessError.TheVariants.{Tube, Full}
use Rattle.tube_machine.specs.Step.{asks_by}
use Rattle.para_mach.specs.State.{ParaBusState}
use Rattle.para_mach.specs.Step.{para_bus_model, is_tube, memory, ram_after, rom_in_after}

-- a read yields the byte of its address, or asks the Tube for it
abbrev pub IsRead : List ℕ → List ℕ → Bool → ℕ → Result ℕ AccessError → Type 0
IsRead ram rom rom_in at (Ok byte) = (is_tube at ≡ false) × (byte ≡ memory ram rom rom_in at)
IsRead ram rom rom_in at (Err (Tube o)) = (is_tube at ≡ true) × (o ≡ op.Read (at % 8))
IsRead ram rom rom_in at (Err Full) = ⊥

-- the byte that an access shows the processor
abbrev pub byte_shown : List ℕ → List ℕ → Bool → Cycle → ℕ
byte_shown ram rom rom_in (Read at) = if is_tube at then 0 else memory ram rom rom_in at
byte_shown ram rom rom_in (Write at byte) = 0

-- an access is done, or asks the Tube
abbrev pub IsExchanged : List ℕ → List ℕ → Bool → Cycle → Result ℕ AccessError → List ℕ → Type 0
IsExchanged ram rom rom_in c (Ok byte) new =
    ((b : ParaBusState) → asks_by para_bus_model b (Some c) ≡ None) × (byte ≡ byte_shown ram rom rom_in c) × (new ≡ ram_after ram c) × (rom_in ≡ rom_in_after rom_in c)
IsExchanged ram rom rom_in c (Err (Tube o)) new = ((b : ParaBusState) → asks_by para_bus_model b (Some c) ≡ Some (access o)) × (new ≡ ram)
IsExchanged ram rom rom_in c (Err Full) new = new ≡ ram
