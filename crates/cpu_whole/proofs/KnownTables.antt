-- The tables in the code are the definition, opcode by opcode.
use Rattle.std.proofs.Common.{◌≡◌, ℕ, ◌<◌, List, map, refl, ap, ◌∙◌, slice_index_or, arith}
use Rattle.std.specs.List.{range_with_len}
use Rattle.std.proofs.lemmas.List.FromFn.{get_or-map-range_with_len}
use Rattle.op_table.specs.Rows.{nmos_row, cmos_row}
use Rattle.op_table.specs.declared.names.Part.{Part}
use Rattle.op_table.specs.declared.names.Part.TheVariants.{Nmos, Cmos}
use Rattle.cpu_whole.specs.declared.known.Known.{Known}
use Rattle.cpu_whole.specs.declared.known.TheConstants.{CMOS, NMOS}
use Rattle.cpu_whole.specs.CodeWays.{known_at}

abbrev table : Part → List Known
table Nmos = NMOS
table Cmos = CMOS

table_is : (part : Part) → table part ≡ map (known_at part) (range_with_len 0 256)
unfolding nmos_row cmos_row
table_is Nmos = refl
table_is Cmos = refl

pub table-at : (part : Part) (op : ℕ) (d : Known) → op < 256 → slice_index_or (table part) op d ≡ known_at part op
table-at part op d h =
    ap (λ (t : List Known). slice_index_or t op d) (table_is part)
    ∙ get_or-map-range_with_len (known_at part) 0 256 op op d h (omega arith)
