use Rattle.std.proofs.Common.{◌≡◌, ℕ, ◌<◌, slice_index_or}
use Rattle.op_table.specs.declared.names.Mnemonic.TheVariants.{Adc}
use Rattle.op_table.specs.Names.{name_of, all_mnemonics}
use Rattle.op_table.proofs.names.named.Given as goal

abbrev pub invariant-loop-mnemonic : goal.invariant-loop-mnemonic
invariant-loop-mnemonic l = (k : ℕ) → k < l.mnemonic-index → name_of (slice_index_or all_mnemonics k Adc) ≡ l.upper → ⊥
