-- The program's labels, as the definitions see them.
use Rattle.std.specs.Prelude.{ℕ, List, map, unwrap_or}
use Rattle.std.specs.Borrow.{Bor}
use Rattle.std.specs.BTreeMap.{BTreeMap}
use Rattle.op_table.specs.declared.Mode.{Mode}
use Rattle.op_table.specs.declared.Mode.TheVariants.{Imp, Acc, Imm, Zp, ZpX, ZpY, Abs, AbsX, AbsY, IndX, IndY, IndZp, Rel, Ind, IndAbsX, Spare}
use Rattle.asm_lines.specs.Syntax.{Value}
use Rattle.asm65.specs.Source.{Labels, base_value}

abbrev pub seen_name : Bor (List ℕ) → List ℕ
seen_name name = name.now

abbrev pub labels_in : BTreeMap (Bor (List ℕ)) ℕ → Labels
labels_in m = map (λ e. (e.0.now, e.1)) m.entries

abbrev pub names_in : BTreeMap (Bor (List ℕ)) ℕ → List (List ℕ)
names_in m = map (λ e. e.0.now) m.entries

-- the base of a value; 0 if its label is unknown
abbrev pub base_or_zero : Labels → Value → ℕ
base_or_zero labels v = unwrap_or (base_value labels v.base) 0

-- the limit of a value in an operand of this mode
abbrev pub room_of : Mode → ℕ
room_of Rel = 65536
room_of Abs = 65536
room_of AbsX = 65536
room_of AbsY = 65536
room_of Ind = 65536
room_of IndAbsX = 65536
room_of Imp = 256
room_of Acc = 256
room_of Imm = 256
room_of Zp = 256
room_of ZpX = 256
room_of ZpY = 256
room_of IndX = 256
room_of IndY = 256
room_of IndZp = 256
room_of Spare = 256
