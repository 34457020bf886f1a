-- The logic's code for the state of a processor.
use Rattle.std.specs.Prelude.{◌≡◌, ℕ, List, Option, cond, ◌==◌, refl}
use Rattle.std.specs.Coded.{Coded, code_by, coded×, coded_ℕ, coded_list, coded_option}
use mathlib.Core.Path.{ap}
use Rattle.cpu_alu.specs.declared.Regs.{Regs}
use Rattle.cpu_core.specs.State.{State}
use Rattle.cpu_core.specs.declared.Sequence.{Sequence}
use Rattle.cpu_core.specs.declared.Sequence.TheVariants.{Instruction, Reset, Nmi, Irq}

abbrev number_of : Sequence → ℕ
number_of Instruction = 0
number_of Reset = 1
number_of Nmi = 2
number_of Irq = 3

abbrev sequence_at : ℕ → Sequence
sequence_at n = cond (n == 0) Instruction (cond (n == 1) Reset (cond (n == 2) Nmi Irq))

pub sequence_at-number_of : (q : Sequence) → sequence_at (number_of q) ≡ q
sequence_at-number_of Instruction = refl
sequence_at-number_of Reset = refl
sequence_at-number_of Nmi = refl
sequence_at-number_of Irq = refl

-- PC, A, X, Y, S and P
abbrev Registers : Type 0
Registers = ℕ × (ℕ × (ℕ × (ℕ × (ℕ × ℕ))))

abbrev pub regs_coded : Coded Regs
regs_coded =
    code_by Registers
    (coded× coded_ℕ (coded× coded_ℕ (coded× coded_ℕ (coded× coded_ℕ (coded× coded_ℕ coded_ℕ)))))
    (λ r. (r.pc, (r.a, (r.x, (r.y, (r.s, r.p))))))
    (λ n. record { pc = n.0; a = n.1.0; x = n.1.1.0; y = n.1.1.1.0; s = n.1.1.1.1.0; p = n.1.1.1.1.1 })
    (λ r. refl)

abbrev Parts : Type 0
Parts = ℕ × (Regs × List (Option ℕ))

abbrev parts_of : State → Parts
parts_of s = (number_of s.sequence, (s.regs, s.seen))

abbrev state_of : Parts → State
state_of p = record { sequence = sequence_at p.0; regs = p.1.0; seen = p.1.1 }

pub state_of-parts_of : (s : State) → state_of (parts_of s) ≡ s
state_of-parts_of s = ap (λ (q : Sequence). record s { sequence = q }) (sequence_at-number_of s.sequence)

abbrev pub state_coded : Coded State
state_coded = code_by Parts (coded× coded_ℕ (coded× regs_coded (coded_list (coded_option coded_ℕ)))) parts_of state_of state_of-parts_of
