-- The first of some devices.
use Rattle.std.proofs.Common.{◌≡◌, refl, ap, ℕ, zero, suc, List, [], ◌∷◌, map, take}
use Rattle.bus_plug.specs.Plug.{Plug}

pub first_plugs : {D : Type 0} (plug : D → Plug) (n : ℕ) (devices : List D) → map plug (take n devices) ≡ take n (map plug devices)
first_plugs plug zero devices = refl
first_plugs plug (suc n) [] = refl
first_plugs plug (suc n) (d ∷ devices) = ap (λ (ps : List Plug). plug d ∷ ps) (first_plugs plug n devices)
