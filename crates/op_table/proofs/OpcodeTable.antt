-- The table of opcodes by mnemonic and mode in the code is the definition at each.
use Rattle.std.proofs.Common.{◌≡◌, ℕ, List, map, refl, ap, ◌∙◌, slice_index_or, Option}
use Rattle.std.proofs.lemmas.List.{get_or-map}
use denote.Enum.Declared.{tag_of}
use Rattle.op_table.specs.contracts.names.Mnemonic.{the_type as mnemonics}
use Rattle.op_table.specs.contracts.names.Mode.{the_type as modes}
use Rattle.op_table.specs.declared.names.Part.TheVariants.{Cmos}
use Rattle.op_table.specs.declared.names.Mnemonic.{Mnemonic}
use Rattle.op_table.specs.declared.names.Mnemonic.TheVariants.{Adc}
use Rattle.op_table.specs.declared.names.Mode.{Mode}
use Rattle.op_table.specs.declared.names.Mode.TheVariants.{Imp}
use Rattle.op_table.specs.declared.opcodes.TheConstants.{OPCODES}
use Rattle.op_table.specs.Names.{all_mnemonics}
use Rattle.op_table.specs.Forms.{find_form}
use Rattle.op_table.proofs.Numbers.{below_64, below_16, all_mnemonics-at, all_modes, all_modes-at}

-- a line of the table
line_of : Mnemonic → List (Option ℕ)
line_of name = map (find_form Cmos name) all_modes

OPCODES_is : OPCODES ≡ map line_of all_mnemonics
unfolding find_form line_of
OPCODES_is = refl

line_of-at : (name : Mnemonic) (way : Mode) (d : Option ℕ) → slice_index_or (line_of name) (tag_of modes way) d ≡ find_form Cmos name way
unfolding line_of
line_of-at name way d =
    get_or-map (find_form Cmos name) all_modes (tag_of modes way) Imp d (below_16 way)
    ∙ ap (find_form Cmos name) (all_modes-at way)

pub OPCODES-at : (name : Mnemonic) (way : Mode) (e : List (Option ℕ)) (d : Option ℕ)
    → slice_index_or (slice_index_or OPCODES (tag_of mnemonics name) e) (tag_of modes way) d ≡ find_form Cmos name way
OPCODES-at name way e d =
    let row = λ (t : List (List (Option ℕ))). slice_index_or (slice_index_or t (tag_of mnemonics name) e) (tag_of modes way) d in
    let cell = λ (l : List (Option ℕ)). slice_index_or l (tag_of modes way) d in
    ap row OPCODES_is
    ∙ ap cell (get_or-map line_of all_mnemonics (tag_of mnemonics name) Adc e (below_64 name))
    ∙ ap (λ (n : Mnemonic). cell (line_of n)) (all_mnemonics-at name)
    ∙ line_of-at name way d
