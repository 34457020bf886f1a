-- An access to the Tube with the boot ROM switched out leaves the bus, and takes one cycle.
use Rattle.std.proofs.Common.{◌≡◌, refl, Bool, true, false, Option, None, Some, MatchOption, if◌then◌else◌}
use Rattle.cpu_alu.specs.declared.Cycle.{Cycle}
use Rattle.cpu_alu.specs.declared.Cycle.TheVariants.{Read, Write}
use Rattle.tube_chip.specs.Act.{Query, access}
use Rattle.tube_chip.specs.declared.Op.{Op}
use Rattle.tube_machine.specs.Step.{asks_by}
use Rattle.tube_machine.specs.Exchange.{IsOneCycle}
use Rattle.para_mach.specs.State.{ParaBusState}
use Rattle.para_mach.specs.Step.{para_bus_model, is_tube, ram_after, rom_in_after}

there : (tube : Bool) (q : Query) (o : Op) → (if tube then Some q else None) ≡ Some (access o) → tube ≡ true
there true q o asks = refl
there false q o asks = cc

same_rom : (b : ParaBusState) (c : Cycle) → b.rom_in ≡ false → rom_in_after b.rom_in c ≡ b.rom_in
same_rom b (Read at) out = rw out
same_rom b (Write at v) out = rw out

same_ram : (b : ParaBusState) (c : Cycle) (o : Op) → asks_by para_bus_model b (Some c) ≡ Some (access o) → ram_after b.ram c ≡ b.ram
same_ram b (Read at) o asks = refl
same_ram b (Write at v) o asks = rw (there (is_tube at) _ o asks)

passes_it : (b : ParaBusState) (c : Cycle) (o : Op) → b.rom_in ≡ false → asks_by para_bus_model b (Some c) ≡ Some (access o) → IsOneCycle para_bus_model b c o
passes_it b c o out asks = record {
  asks = asks;
  leaves = λ t. rw (same_ram b c o asks, same_rom b c out);
  fast = λ t u. refl;
}

pub passes : (b : ParaBusState) (c : Cycle) (asked : Option Op) → b.rom_in ≡ false → MatchOption asked (Unit {0}) (λ o. asks_by para_bus_model b (Some c) ≡ Some (access o))
    → MatchOption asked (Unit {0}) (λ o. IsOneCycle para_bus_model b c o)
passes b c None out asks = tt
passes b c (Some o) out asks = passes_it b c o out asks
