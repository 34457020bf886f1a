-- The image that holds the drawn bytes.
use Rattle.std.proofs.Common.{◌≡◌, refl, ℕ, List, Result, Ok}
use Rattle.asm65.specs.declared.AsmError.{AsmError}
use Rattle.asm65.specs.Source.{Program}
use Rattle.demo_gen.specs.Demo.{image_with, image_holding}

pub image_holds : {bytes image held drawn : List ℕ} {origin : ℕ} {meant : Result Program AsmError} → meant ≡ Ok (origin, image) → bytes ≡ drawn → held ≡ image_with bytes image →
    image_holding drawn meant ≡ Ok held
image_holds is same held = rw (is, held, same) refl
