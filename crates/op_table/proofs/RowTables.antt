-- The tables of rows in the code are the definitions, opcode by opcode.
use Rattle.std.proofs.Common.{◌≡◌, ℕ, ◌<◌, ◌≤◌, List, map, refl, ap, ◌∙◌, slice_index_or, arith, Option, Some, None, Bool, true, ◌&&◌, ltb, leb, IfSome}
use Rattle.std.specs.List.{range_with_len}
use Rattle.std.proofs.lemmas.Bool.{agree_below_at}
use Rattle.std.proofs.lemmas.Bool.Decides.{nat_tests}
use Rattle.std.proofs.lemmas.List.FromFn.{get_or-map-range_with_len}
use Rattle.op_table.specs.declared.rows.Row.{Row}
use Rattle.op_table.specs.declared.rows.TheConstants.{CMOS, NMOS}
use Rattle.op_table.specs.Rows.{cmos_row, nmos_row}

-- a table of 256 entries is its definition at each
table-at : {X : Type 0} (f : ℕ → X) (table : List X) → table ≡ map f (range_with_len 0 256) → (op : ℕ) (d : X) → op < 256 → slice_index_or table op d ≡ f op
table-at {X} f table is op d h = ap (λ (t : List X). slice_index_or t op d) is ∙ get_or-map-range_with_len f 0 256 op op d h (omega arith)

pub NMOS-at : (op : ℕ) (d : Option Row) → op < 256 → slice_index_or NMOS op d ≡ nmos_row op
unfolding nmos_row
NMOS-at = table-at nmos_row NMOS refl

pub CMOS-at : (op : ℕ) (d : Row) → op < 256 → slice_index_or CMOS op d ≡ cmos_row op
unfolding cmos_row
CMOS-at = table-at cmos_row CMOS refl

-- ---- the sizes of a row

abbrev is_within : ℕ → Row → Bool
is_within most r = ltb 0 r.bytes && (leb r.bytes 3 && (ltb 0 r.cycles && leb r.cycles most))

abbrev pub Within : ℕ → Row → Type 0
Within most r = (0 < r.bytes) × (r.bytes ≤ 3) × (0 < r.cycles) × (r.cycles ≤ most)

within : (most : ℕ) (r : Row) → is_within most r ≡ true → Within most r
within most r e = grind (arith, nat_tests)

pub cmos_row-within : (op : ℕ) → op < 256 → Within 8 (cmos_row op)
unfolding cmos_row
cmos_row-within op h = within 8 (cmos_row op) (agree_below_at (λ k. is_within 8 (cmos_row k)) (λ _. true) 256 op refl h)

abbrev none_or_within : Option Row → Bool
none_or_within None = true
none_or_within (Some r) = is_within 7 r

some_within : (o : Option Row) → none_or_within o ≡ true → IfSome o (Within 7)
some_within None e = tt
some_within (Some r) e = within 7 r e

pub nmos_row-within : (op : ℕ) → op < 256 → IfSome (nmos_row op) (Within 7)
unfolding nmos_row
nmos_row-within op h = some_within (nmos_row op) (agree_below_at (λ k. none_or_within (nmos_row k)) (λ _. true) 256 op refl h)
