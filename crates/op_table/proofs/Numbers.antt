-- Each mnemonic and each mode is in the list of all at its own number.
use Rattle.std.proofs.Common.{◌≡◌, ℕ, ◌<◌, List, [], ◌∷◌, refl, subst, slice_index_or, Bool, true, eqb, eqb-true}
use Rattle.std.proofs.lemmas.Bool.{agree_below, agree_below_at}
use denote.Enum.Bare.{tag_one}
use denote.Enum.Declared.{tag_of, variants}
use denote.Enum.Enum.{tag_below}
use Rattle.op_table.specs.contracts.names.Mnemonic.{the_type as mnemonics}
use Rattle.op_table.specs.contracts.names.Mode.{the_type as modes}
use Rattle.op_table.specs.declared.names.Mnemonic.{Mnemonic}
use Rattle.op_table.specs.declared.names.Mnemonic.TheVariants.{Adc}
use Rattle.op_table.specs.declared.names.Mode.{Mode}
use Rattle.op_table.specs.declared.names.Mode.TheVariants.{Imp, Acc, Imm, Zp, ZpX, ZpY, Abs, AbsX, AbsY, IndX, IndY, IndZp, Rel, Ind, IndAbsX, Spare}
use Rattle.op_table.specs.Names.{all_mnemonics}

mnemonic_number : (k : ℕ) → k < 64 → tag_of mnemonics (slice_index_or all_mnemonics k Adc) ≡ k
mnemonic_number k h =
    eqb-true _ _ (agree_below_at (λ i. eqb (tag_of mnemonics (slice_index_or all_mnemonics i Adc)) i) (λ _. true) 64 k refl h)

pub below_64 : (name : Mnemonic) → tag_of mnemonics name < 64
below_64 name = tag_below (variants mnemonics) (mnemonics.to name)

pub all_mnemonics-at : (name : Mnemonic) → slice_index_or all_mnemonics (tag_of mnemonics name) Adc ≡ name
all_mnemonics-at name = tag_one mnemonics tt _ name (mnemonic_number (tag_of mnemonics name) (below_64 name))

-- a test that each of the list passes holds for all
pub test_all : (p : Mnemonic → Bool) → agree_below (λ k. p (slice_index_or all_mnemonics k Adc)) (λ _. true) 64 ≡ true
    → (name : Mnemonic) → p name ≡ true
test_all p h name =
    subst (λ (n : Mnemonic). p n ≡ true) (all_mnemonics-at name)
    (agree_below_at (λ k. p (slice_index_or all_mnemonics k Adc)) (λ _. true) 64 (tag_of mnemonics name) h (below_64 name))

abbrev pub all_modes : List Mode
all_modes =
    Imp ∷ Acc ∷ Imm ∷ Zp ∷ ZpX ∷ ZpY ∷ Abs ∷ AbsX ∷ AbsY ∷ IndX ∷ IndY ∷ IndZp ∷ Rel ∷ Ind ∷ IndAbsX ∷ Spare ∷ []

mode_number : (k : ℕ) → k < 16 → tag_of modes (slice_index_or all_modes k Imp) ≡ k
mode_number k h =
    eqb-true _ _ (agree_below_at (λ i. eqb (tag_of modes (slice_index_or all_modes i Imp)) i) (λ _. true) 16 k refl h)

pub below_16 : (way : Mode) → tag_of modes way < 16
below_16 way = tag_below (variants modes) (modes.to way)

pub all_modes-at : (way : Mode) → slice_index_or all_modes (tag_of modes way) Imp ≡ way
all_modes-at way = tag_one modes tt _ way (mode_number (tag_of modes way) (below_16 way))
