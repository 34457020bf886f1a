-- An access in FC00 to FDFF: one call of the first owner in the list. Every other device stays.
use Rattle.std.specs.Prelude.{ℕ, List, [], ◌∷◌, if◌then◌else◌}
use Rattle.bus_plug.specs.Plug.{Plug, plug_owns, plug_answer, after_read, after_write}

-- the answer of the first owner, or FF if there is none
abbrev pub plugs_answer : List Plug → ℕ → ℕ
plugs_answer [] at = 0xFF
plugs_answer (p ∷ ps) at = if plug_owns p at then plug_answer p at else plugs_answer ps at

-- the devices after a read
abbrev pub plugs_after_read : List Plug → ℕ → List Plug
plugs_after_read [] at = []
plugs_after_read (p ∷ ps) at = if plug_owns p at then after_read p at ∷ ps else p ∷ plugs_after_read ps at

-- the devices after a write
abbrev pub plugs_after_write : List Plug → ℕ → ℕ → List Plug
plugs_after_write [] at v = []
plugs_after_write (p ∷ ps) at v = if plug_owns p at then after_write p at v ∷ ps else p ∷ plugs_after_write ps at v
