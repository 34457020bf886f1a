-- The program's values, as the definitions see them.
use Rattle.std.specs.Prelude.{◌≡◌, ⊤, ℕ, List, map, Result, Ok, Err, string_bytes}
use Rattle.std.specs.declared.string.String.{String}
use Rattle.std.specs.declared.vec.Vec.{Vec}
use Rattle.std.specs.declared.alloc.Global.{Global}
use Rattle.std.specs.Borrow.{Bor}
use Rattle.std.specs.declared.borrow.CowSlice.{CowSlice}
use Rattle.std.specs.Cow.{cow_slice_items}
use Rattle.cmd_stages.specs.declared.stop.Refusal.{Refusal}
use Rattle.cmd_stages.specs.declared.stop.Refusal.TheVariants.{Cause, NoMemory}
use Rattle.cmd_stages.specs.declared.outcome.Outcome.{Outcome}
use Rattle.cmd_stages.specs.Plan.{Verdict, Want}

abbrev pub seen_want : {K : Type 0} → K × Bor (List ℕ) × ℕ → Want K
seen_want w = (w.0, w.1.now, w.2)

abbrev pub seen_input : {K : Type 0} → K × Vec ℕ Global → K × List ℕ
seen_input i = (i.0, i.1.items)

abbrev pub seen_file : String Global × CowSlice ℕ Global → List ℕ × List ℕ
seen_file f = (string_bytes f.0, cow_slice_items f.1)

-- The result of a function, mapped by view, is that of the stage, or NoMemory.
abbrev pub Gives : {X Y C : Type 0} → (X → Y) → Result X (Refusal C) → Result Y (Refusal C) → Type 0
Gives view (Ok x) stage = stage ≡ Ok (view x)
Gives view (Err (Cause c)) stage = stage ≡ Err (Cause c)
Gives view (Err NoMemory) stage = ⊤

-- The verdict of an outcome, if file_of gives the file of each output.
abbrev pub verdict_of : {E O L : Type 0} → (L → O → List ℕ × List ℕ) → Outcome E O L → Verdict E
verdict_of file_of o = record { ending = o.ending; files = map (file_of o.left) o.outputs.items; said = o.said.items }
