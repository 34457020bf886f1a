-- How the logic stores lists of starts.
use Rattle.std.specs.Prelude.{ℕ, List, Option, refl}
use Rattle.std.specs.Coded.{Coded, code_by, coded×, coded_ℕ, coded_list, coded_option}
use Rattle.cpu_alu.specs.declared.Regs.{Regs}
use Rattle.cpu_core.specs.CodeState.{regs_coded}
use Rattle.follow.specs.Start.{StartState}

abbrev pub start_coded : Coded StartState
start_coded =
    code_by (ℕ × (Regs × (List ℕ × Option ℕ)))
    (coded× coded_ℕ (coded× regs_coded (coded× (coded_list coded_ℕ) (coded_option coded_ℕ))))
    (λ s. (s.tick, (s.regs, (s.code, s.watched))))
    (λ p. record { tick = p.0; regs = p.1.0; code = p.1.1.0; watched = p.1.1.1 })
    (λ s. refl)

abbrev pub starts_coded : Coded (List StartState)
starts_coded = coded_list start_coded
