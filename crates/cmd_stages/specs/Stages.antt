-- The promises of the stages of a command: reading its files, working, and writing the outcome.
use Rattle.std.specs.Prelude.{◌≡◌, ◌⊎◌, ◌<◌, ◌≤◌, ⊤, ℕ, Bool, List, map, length, Result, Ok, Err, IfSome, Contains, IsOkAnd}
use Rattle.std.specs.declared.vec.Vec.{Vec}
use Rattle.std.specs.declared.alloc.Global.{Global}
use Rattle.beeb_files.specs.Counts.{Rose, Stayed, NoneFell}
use Rattle.beeb_files.specs.Crew.{Counts}
use Rattle.beeb_files.specs.Shelf.{ShelfState}
use Rattle.beeb_files.specs.Outlet.{OutletState, NoCountFell}
use Rattle.cmd_stages.specs.declared.stop.Stop.{Stop}
use Rattle.cmd_stages.specs.declared.stop.Stop.TheVariants.{Refused, ReadFault, TooLong, WriteFault, NoThread, NoMemory}
use Rattle.cmd_stages.specs.declared.stop.Refusal.{Refusal}
use Rattle.cmd_stages.specs.declared.stop.Refusal.TheVariants as refusals
use Rattle.cmd_stages.specs.Plan.{Verdict, Plan, Want, within, read_all, AreWithin}
use Rattle.beeb_files.specs.Files.{bytes_of, put, say, IsPartPut, IsPartSaid}
use Rattle.cmd_stages.specs.Promise.{World, HasPaired, HasNoThread, IsCrewAfter, CarriesOut, IsUnread, IsTooLong, IsWhole, IsUntouched, IsUnwritten, IsCutShort, IsCutAtFile, names, dash, put_all}
use Rattle.cmd_stages.specs.View.{seen_input}

-- the bytes of one file, or the cause of an error
abbrev pub ReadsOne : {C : Type 0} → List ℕ → ℕ → ShelfState → ShelfState → Result (Vec ℕ Global) (Stop C) → Type 0
ReadsOne {C = C} name cap old new (Ok v) =
    (new.faults ≡ old.faults) × (length v.items ≤ cap) × IfSome old.files (λ files. within {C = C} name cap (bytes_of files name) ≡ Ok v.items)
ReadsOne name cap old new (Err (ReadFault who)) = (who ≡ name) × Rose (old.faults name) (new.faults name)
ReadsOne {C = C} name cap old new (Err (TooLong who)) =
    (who ≡ name)
    × IfSome old.files (λ files. Stayed (old.faults name) (new.faults name) × (within {C = C} name cap (bytes_of files name) ≡ Err (TooLong name)))
ReadsOne name cap old new (Err NoMemory) = ⊤
ReadsOne name cap old new (Err stop) = ⊥

-- the bytes of all files to read, or the cause of an error
abbrev pub ReadsAll : {K C : Type 0} → List (Want K) → ShelfState → ShelfState → Result (Vec (K × Vec ℕ Global) Global) (Stop C) → Type 0
ReadsAll {C = C} ws old new (Ok v) =
    AreWithin ws (map seen_input v.items) × IfSome old.files (λ files. read_all {C = C} files ws ≡ Ok (map seen_input v.items))
ReadsAll {C = C} ws old new (Err (ReadFault name)) = IsUnread C ws name old new
ReadsAll {C = C} ws old new (Err (TooLong name)) = IsTooLong C ws name old new
ReadsAll ws old new (Err NoMemory) = ⊤
ReadsAll ws old new (Err stop) = ⊥

-- The work of a command on the bytes that it read, with a crew if it has a pair. `view` maps the
-- program's result to that of the definitions, `stage`. NoThread comes only for a command that has
-- a verdict.
abbrev pub Works : {X Y C : Type 0} → (X → Y) → Bool → Counts → Counts → Result X (Stop C) → Result Y (Refusal C) → Type 0
Works view paired old new (Ok x) stage = (stage ≡ Ok (view x)) × HasPaired paired old new
Works view paired old new (Err (Refused cause)) stage = stage ≡ Err (refusals.Cause cause)
Works view paired old new (Err NoThread) stage = IsOkAnd stage (λ _. ⊤) × HasNoThread paired old new
Works view paired old new (Err NoMemory) stage = ⊤
Works view paired old new (Err stop) stage = ⊥

-- the writing of a command's outcome
abbrev pub Writes : {E C : Type 0} → Verdict E → OutletState → OutletState → Result E (Stop C) → Type 0
Writes v old new (Ok ending) = (ending ≡ v.ending) × IsWhole v old new
Writes v old new (Err (WriteFault name)) = IsUnwritten v name old new
Writes v old new (Err NoMemory) = IsUntouched old new ⊎ IsCutShort v old new
Writes v old new (Err stop) = ⊥

-- one file was put, or a part of it
abbrev pub PutsOne : {C : Type 0} → List ℕ → List ℕ → OutletState → OutletState → Result (Unit {0}) (Stop C) → Type 0
PutsOne name bytes old new (Ok done) = (new.files ≡ put name bytes old.files) × (new.said ≡ old.said)
PutsOne name bytes old new (Err (WriteFault who)) =
    (who ≡ name) × Rose (old.faults name) (new.faults name) × IsPartPut name bytes old.files new.files × (new.said ≡ old.said)
PutsOne name bytes old new (Err NoMemory) = IsPartPut name bytes old.files new.files × (new.said ≡ old.said)
PutsOne name bytes old new (Err stop) = ⊥

-- all files were put, or those before one that failed
abbrev pub PutsAll : {C : Type 0} → List (List ℕ × List ℕ) → OutletState → OutletState → Result (Unit {0}) (Stop C) → Type 0
PutsAll fs old new (Ok done) = (new.files ≡ put_all fs old.files) × (new.said ≡ old.said)
PutsAll fs old new (Err (WriteFault name)) = Contains (names fs) name × Rose (old.faults name) (new.faults name) × IsCutAtFile name fs old new
PutsAll fs old new (Err NoMemory) = (name : List ℕ) × IsCutAtFile name fs old new
PutsAll fs old new (Err stop) = ⊥

-- the text was said, or a part of it
abbrev pub Says : {C : Type 0} → List ℕ → OutletState → OutletState → Result (Unit {0}) (Stop C) → Type 0
Says text old new (Ok done) = (new.said ≡ say text old.said) × (new.files ≡ old.files)
Says text old new (Err (WriteFault name)) =
    (name ≡ dash) × (0 < length text) × Rose old.say_faults new.say_faults × IsPartSaid text old.said new.said × (new.files ≡ old.files)
Says text old new (Err NoMemory) = IsPartSaid text old.said new.said × (new.files ≡ old.files)
Says text old new (Err stop) = ⊥

-- The stages also leave this: no count fell, and the files of the shelf are unchanged.
pub record HasKept {K E C : Type 0} (p : Plan K E C) (old new : World) : Type 0 where
  pub read : NoneFell old.shelf.faults new.shelf.faults
  pub written : NoCountFell old.outlet new.outlet
  pub crew : IsCrewAfter p.paired old.crew new.crew
  pub files : new.shelf.files ≡ old.shelf.files

-- A command that stops while it reads, before its work and before anything is written, is carried
-- out.
abbrev pub StopsAtReading : (K E C : Type 0) → Type 0
StopsAtReading K E C =
    (p : Plan K E C) (old new : World) (stop : Stop C) → ReadsAll {K = K} p.reads old.shelf new.shelf (Err stop) →
    new.outlet ≡ old.outlet → new.crew ≡ old.crew → HasKept p old new → CarriesOut p old new (Err stop)

-- A command that read its files and stops during its work, before anything is written, is carried
-- out.
abbrev pub StopsAtWork : (K E C : Type 0) → Type 0
StopsAtWork K E C =
    (p : Plan K E C) (old new : World) (inputs : Vec (K × Vec ℕ Global) Global) (stop : Stop C) →
    ReadsAll {C = C} p.reads old.shelf new.shelf (Ok inputs) → Works (λ (v : Verdict E). v) p.paired old.crew new.crew (Err stop) (p.after (map seen_input inputs.items)) →
    new.outlet ≡ old.outlet → HasKept p old new → CarriesOut p old new (Err stop)

-- A command that read its files, worked, and wrote its outcome, or a part of it, is carried out.
abbrev pub GoesOnToWriting : (K E C : Type 0) → Type 0
GoesOnToWriting K E C =
    (p : Plan K E C) (old new : World) (inputs : Vec (K × Vec ℕ Global) Global) (v : Verdict E) (result : Result E (Stop C)) →
    ReadsAll {C = C} p.reads old.shelf new.shelf (Ok inputs) → Works {C = C} (λ (x : Verdict E). x) p.paired old.crew new.crew (Ok v) (p.after (map seen_input inputs.items)) →
    Writes v old.outlet new.outlet result → HasKept p old new → CarriesOut p old new result
