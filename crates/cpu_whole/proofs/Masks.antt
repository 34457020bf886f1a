-- Operations that leave the flag I unchanged.
use Rattle.std.proofs.Common.{◌≡◌, ℕ, ◌+◌, ◌-◌, ◌%◌, Bool, true, false, not, eqb, refl, ap, ◌∙◌, rules, bit_and}
use Rattle.std.proofs.lemmas.Nat.{and_or_apart, and_assoc}
use Rattle.op_table.specs.declared.names.Part.{Part}
use Rattle.op_table.specs.declared.names.Mode.{Mode}
use Rattle.op_table.specs.declared.names.Mode.TheVariants.{Acc, Imm}
use Rattle.op_table.specs.declared.names.Mnemonic.{Mnemonic}
use Rattle.op_table.specs.declared.names.Mnemonic.TheVariants.{Bit, Clc, Cld, Cli, Clv, Inc, Pla, Plx, Ply, Sec, Sed, Sei}
use Rattle.cpu_alu.specs.declared.Sum.{Sum}
use Rattle.cpu_alu.specs.declared.Regs.{Regs}
use Rattle.cpu_alu.specs.declared.flags.TheConstants.{CARRY, ZERO, INTERRUPT, DECIMAL, OVERFLOW, NEGATIVE}
use Rattle.cpu_alu.specs.Arithmetic.{bit_7}
use Rattle.cpu_alu.specs.Flags.{has_flag, with_flag, with_n_z, with_n_z_c, with_n_v_z_c}
use Rattle.cpu_alu.specs.Instructions.{bit_flags, with_masked_z, read_result, modify_flags, modify_result, implied_result, pull_result}
use Rattle.cpu_whole.specs.CodeWays.{moves_i, pulls_flags}

flag_kept : (p weight : ℕ) (set : Bool) → bit_and weight INTERRUPT ≡ 0 → bit_and (255 - weight) INTERRUPT ≡ INTERRUPT
    → has_flag (with_flag p weight set) INTERRUPT ≡ has_flag p INTERRUPT
flag_kept p weight true apart within = ap (λ k. not (eqb k 0)) (and_or_apart INTERRUPT p weight apart)
flag_kept p weight false apart within = ap (λ k. not (eqb k 0)) (and_assoc INTERRUPT p (255 - weight) ∙ ap (bit_and p) within)

n_z_kept : (p value : ℕ) → has_flag (with_n_z p value) INTERRUPT ≡ has_flag p INTERRUPT
n_z_kept p value = flag_kept (with_flag p NEGATIVE (bit_7 value)) ZERO (eqb value 0) refl refl ∙ flag_kept p NEGATIVE (bit_7 value) refl refl

n_z_c_kept : (p : ℕ) (sum : Sum) → has_flag (with_n_z_c p sum) INTERRUPT ≡ has_flag p INTERRUPT
n_z_c_kept p sum =
    flag_kept (with_flag (with_flag p NEGATIVE sum.n) ZERO sum.z) CARRY sum.c refl refl
    ∙ flag_kept (with_flag p NEGATIVE sum.n) ZERO sum.z refl refl
    ∙ flag_kept p NEGATIVE sum.n refl refl

n_v_z_c_kept : (p : ℕ) (sum : Sum) → has_flag (with_n_v_z_c p sum) INTERRUPT ≡ has_flag p INTERRUPT
n_v_z_c_kept p sum = flag_kept (with_n_z_c p sum) OVERFLOW sum.v refl refl ∙ n_z_c_kept p sum

masked_kept : (p a m : ℕ) → has_flag (with_masked_z p a m) INTERRUPT ≡ has_flag p INTERRUPT
masked_kept p a m = flag_kept p ZERO (eqb (bit_and a m) 0) refl refl

bit_kept : (way : Mode) (p a m : ℕ) → has_flag (bit_flags way p a m) INTERRUPT ≡ has_flag p INTERRUPT
bit_kept Imm p a m = masked_kept p a m
bit_kept _ p a m =
    flag_kept (with_flag (with_masked_z p a m) NEGATIVE (bit_7 m)) OVERFLOW (has_flag m 0x40) refl refl
    ∙ flag_kept (with_masked_z p a m) NEGATIVE (bit_7 m) refl refl
    ∙ masked_kept p a m

pub read_kept : (part : Part) (name : Mnemonic) (way : Mode) (r : Regs) (m : ℕ) → has_flag (read_result part name way r m).p INTERRUPT ≡ has_flag r.p INTERRUPT
read_kept part Bit way r m = bit_kept way r.p r.a m
read_kept part _ way r m = search (rules, n_z_kept, n_z_c_kept, n_v_z_c_kept)

flags_kept : (name : Mnemonic) (r : Regs) (m : ℕ) → has_flag (modify_flags name r m) INTERRUPT ≡ has_flag r.p INTERRUPT
flags_kept Inc r m = n_z_kept r.p ((m + 1) % 256)
flags_kept _ r m = search (rules, n_z_kept, n_z_c_kept, masked_kept)

pub modify_kept : (name : Mnemonic) (way : Mode) (r : Regs) (m : ℕ) → has_flag (modify_result name way r m).p INTERRUPT ≡ has_flag r.p INTERRUPT
modify_kept name Acc r m = flags_kept name r r.a
modify_kept name _ r m = flags_kept name r m

pub implied_kept : (name : Mnemonic) (r : Regs) → moves_i name ≡ false → has_flag (implied_result name r).p INTERRUPT ≡ has_flag r.p INTERRUPT
implied_kept Clc r h = flag_kept r.p CARRY false refl refl
implied_kept Cld r h = flag_kept r.p DECIMAL false refl refl
implied_kept Cli r h = cc
implied_kept Clv r h = flag_kept r.p OVERFLOW false refl refl
implied_kept Sec r h = flag_kept r.p CARRY true refl refl
implied_kept Sed r h = flag_kept r.p DECIMAL true refl refl
implied_kept Sei r h = cc
implied_kept _ r h = search (rules, n_z_kept)

pub pull_kept : (name : Mnemonic) (r : Regs) (m : ℕ) → pulls_flags name ≡ false → has_flag (pull_result name r m).p INTERRUPT ≡ has_flag r.p INTERRUPT
pull_kept Pla r m h = n_z_kept r.p m
pull_kept Plx r m h = n_z_kept r.p m
pull_kept Ply r m h = n_z_kept r.p m
pull_kept _ r m h = cc
