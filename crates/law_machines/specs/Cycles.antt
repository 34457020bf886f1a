-- The access of a step, if it is one.
use Rattle.std.specs.Prelude.{List, [], ◌∷◌, Option, None, Some}
use Rattle.cpu_alu.specs.declared.Cycle.{Cycle}

abbrev pub the_cycle : Option Cycle → List Cycle
the_cycle None = []
the_cycle (Some c) = c ∷ []
