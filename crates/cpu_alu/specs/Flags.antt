-- The flags in P: MCS6500 Programming Manual, chapter 3.
use Rattle.std.specs.Prelude.{ℕ, ◌-◌, Bool, cond, not, eqb, bit_and, bit_or}
use Rattle.cpu_alu.specs.declared.Sum.{Sum}
use Rattle.cpu_alu.specs.declared.flags.TheConstants.{CARRY, ZERO, OVERFLOW, NEGATIVE}
use Rattle.cpu_alu.specs.Arithmetic.{bit_7}

-- true if the bit of value weight is set
abbrev pub has_flag : ℕ → ℕ → Bool
has_flag p weight = not (eqb (bit_and p weight) 0)

-- p with the bit of value weight set or cleared
abbrev pub with_flag : ℕ → ℕ → Bool → ℕ
with_flag p weight set = cond set (bit_or p weight) (bit_and p (255 - weight))

-- p with N and Z from a byte
abbrev pub with_n_z : ℕ → ℕ → ℕ
with_n_z p value = with_flag (with_flag p NEGATIVE (bit_7 value)) ZERO (eqb value 0)

-- p with N, Z and C from an operation
abbrev pub with_n_z_c : ℕ → Sum → ℕ
with_n_z_c p sum = with_flag (with_flag (with_flag p NEGATIVE sum.n) ZERO sum.z) CARRY sum.c

-- p with N, V, Z and C from an operation
abbrev pub with_n_v_z_c : ℕ → Sum → ℕ
with_n_v_z_c p sum = with_flag (with_n_z_c p sum) OVERFLOW sum.v
