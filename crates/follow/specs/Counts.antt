-- The counts of each address, and their text. (This project's own format.)
use Rattle.std.specs.Prelude.{ℕ, zero, suc, ◌+◌, ◌-◌, ◌==◌, ◌&&◌, nat_le, nat_lt, List, [], ◌∷◌, ◌++◌}
use Rattle.std.specs.Prelude.{length, filter, Bool, true, false, Option, None, Some, if◌then◌else◌, codes}
use Rattle.std.specs.Fmt.{decimal}
use Rattle.digits.specs.Hexadecimal.{hex_digits}
use Rattle.op_table.specs.declared.names.Mnemonic.{Mnemonic}
use Rattle.op_table.specs.declared.names.Mnemonic.TheVariants.{Bpl, Bmi, Bvc, Bvs, Bcc, Bcs, Bne, Beq}
use Rattle.cpu_alu.specs.declared.Regs.{Regs}
use Rattle.cpu_alu.specs.Instructions.{takes_branch}
use Rattle.follow.specs.declared.count.Count.{Count}
use Rattle.follow.specs.declared.choice.Choice.{Choice}
use Rattle.follow.specs.Start.{StartState}

-- ---- The counted starts: if counts are requested, all at tick `from` or later, chosen or not

abbrev pub is_counted : Choice → ℕ → Bool
is_counted choice tick = choice.counts && nat_le choice.from tick

abbrev pub counted_of : Choice → List StartState → List StartState
counted_of choice starts = filter (λ s. is_counted choice s.tick) starts

-- ---- Conditional branches

-- the branch of a conditional branch's opcode
abbrev pub branch_of : ℕ → Option Mnemonic
branch_of opcode =
    if opcode == 16 then Some Bpl
    else if opcode == 48 then Some Bmi
    else if opcode == 80 then Some Bvc
    else if opcode == 112 then Some Bvs
    else if opcode == 144 then Some Bcc
    else if opcode == 176 then Some Bcs
    else if opcode == 208 then Some Bne
    else if opcode == 240 then Some Beq
    else None

-- the condition of a branch, by the flags in P
abbrev pub condition_of : Option Mnemonic → Regs → Option Bool
condition_of None regs = None
condition_of (Some branch) regs = Some (takes_branch branch regs)

-- the condition of the branch among the bytes at the program counter, or none if there is no branch
-- or no byte
abbrev pub condition_at : List ℕ → Regs → Option Bool
condition_at [] regs = None
condition_at (opcode ∷ operand) regs = condition_of (branch_of opcode) regs

abbrev pub is_branch : Option Bool → Bool
is_branch None = false
is_branch (Some holds) = true

abbrev pub is_taken : Option Bool → Bool
is_taken None = false
is_taken (Some holds) = holds

-- ---- The counts of an address, over all counted starts

abbrev pub is_of : ℕ → StartState → Bool
is_of pc s = s.regs.pc == pc

-- the starts at address `pc`
abbrev pub starts_at : ℕ → List StartState → List StartState
starts_at pc starts = filter (λ s. is_of pc s) starts

-- the tick of the first of `starts`, or `n` if there is none
abbrev pub tick_or : ℕ → List StartState → ℕ
tick_or n [] = n
tick_or n (s ∷ starts) = s.tick

-- the sum, over the starts at `pc`, of the ticks to the next start of the run, or to `n` from the
-- last start
abbrev pub ticks_at : ℕ → ℕ → List StartState → ℕ
ticks_at n pc [] = 0
ticks_at n pc (s ∷ starts) = (if is_of pc s then tick_or n starts - s.tick else 0) + ticks_at n pc starts

-- the starts at `pc` whose instruction is a conditional branch, and those whose condition holds
abbrev pub branches_at : ℕ → List StartState → List StartState
branches_at pc starts = filter (λ s. is_of pc s && is_branch (condition_at s.code s.regs)) starts

abbrev pub taken_at : ℕ → List StartState → List StartState
taken_at pc starts = filter (λ s. is_of pc s && is_taken (condition_at s.code s.regs)) starts

abbrev pub is_some_there : List StartState → Bool
is_some_there [] = false
is_some_there (s ∷ starts) = true

abbrev pub count_at : ℕ → ℕ → List StartState → Count
count_at n pc starts = record {
  starts = length (starts_at pc starts);
  ticks = ticks_at n pc starts;
  branches = is_some_there (branches_at pc starts);
  taken = length (taken_at pc starts);
}

-- ---- The text: a line for each address that has a start, in ascending order

-- a space and a number
abbrev pub number_text : ℕ → List ℕ
number_text n = codes " " ++ decimal n

abbrev pub taken_text : Bool → ℕ → List ℕ
taken_text branches taken = if branches then number_text taken else []

unfoldable pub count_line : ℕ → Count → List ℕ
count_line pc c =
    if c.starts == 0 then []
    else hex_digits 4 pc ++ number_text c.starts ++ number_text c.ticks ++ taken_text c.branches c.taken ++ codes "\n"

-- the lines of `k` addresses from `pc` on
abbrev pub count_lines : ℕ → ℕ → (ℕ → Count) → List ℕ
count_lines zero pc count = []
count_lines (suc k) pc count = count_line pc (count pc) ++ count_lines k (pc + 1) count

unfoldable pub counts_text : ℕ → List StartState → List ℕ
counts_text n starts = count_lines 65536 0 (λ pc. count_at n pc starts)

-- the text of the counts of a run up to tick `n`, if counts are requested
abbrev pub counts_of_counted : Bool → ℕ → List StartState → Option (List ℕ)
counts_of_counted counts n counted = if counts then Some (counts_text n counted) else None
