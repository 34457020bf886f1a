-- The promise of a call that carries out a command.
use Rattle.std.specs.Prelude.{◌≡◌, ◌⊎◌, ◌<◌, ⊤, ℕ, Bool, true, false, List, [], ◌∷◌, ◌++◌, map, length, Option, IfSome, Result, Ok, Err, Contains, codes}
use Rattle.beeb_files.specs.Files.{Files, put, say, IsPartPut, IsPartSaid}
use Rattle.beeb_files.specs.Counts.{Rose, Stayed, NoneFell}
use Rattle.beeb_files.specs.Crew.{Counts, no_counts, Grows}
use Rattle.beeb_files.specs.Shelf.{ShelfState}
use Rattle.beeb_files.specs.Outlet.{OutletState, NoCountFell}
use Rattle.cmd_stages.specs.declared.stop.Stop.{Stop}
use Rattle.cmd_stages.specs.declared.stop.Stop.TheVariants.{Refused, ReadFault, TooLong, WriteFault, NoThread, NoMemory}
use Rattle.cmd_stages.specs.Plan.{Verdict, Want, Inputs, Plan, read_all, verdict, ComesTo}

-- the counts without a crew
abbrev pub nobody : Counts
nobody = no_counts

-- the shelf, the outlet and the crew at one time
pub record World : Type 0 where
  pub shelf : ShelfState
  pub outlet : OutletState
  pub crew : Counts

abbrev pub world : ShelfState → OutletState → Counts → World
world shelf outlet crew = record { shelf = shelf; outlet = outlet; crew = crew }

-- a pair was worked, if the command has one
abbrev pub HasPaired : Bool → Counts → Counts → Type 0
HasPaired true old new = Rose old.pairs new.pairs
HasPaired false old new = ⊤

-- No thread could be started: the command has a pair, and the crew's count of faults rose.
abbrev pub HasNoThread : Bool → Counts → Counts → Type 0
HasNoThread true old new = Rose old.faults new.faults
HasNoThread false old new = ⊥

-- no fault of the crew was counted, if the command has a pair
abbrev pub HasCrewStayed : Bool → Counts → Counts → Type 0
HasCrewStayed true old new = Stayed old.faults new.faults
HasCrewStayed false old new = ⊤

-- no count of the crew fell, and a command without a pair changed none
abbrev pub IsCrewAfter : Bool → Counts → Counts → Type 0
IsCrewAfter true old new = Grows old new
IsCrewAfter false old new = new ≡ old

abbrev pub read_names : {K : Type 0} → List (Want K) → List (List ℕ)
read_names ws = map (λ w. w.1) ws

abbrev pub names : List (List ℕ × List ℕ) → List (List ℕ)
names fs = map (λ f. f.0) fs

-- the name for the text that is said
abbrev pub dash : List ℕ
dash = codes "-"

-- the files before the name were read
abbrev pub IsReached : {K : Type 0} → Type 0 → List (Want K) → List ℕ → Files → Type 0
IsReached {K = K} C ws name files =
    (front : List (Want K)) × (w : Want K) × (rest : List (Want K)) × (inputs : Inputs K)
    × (ws ≡ front ++ w ∷ rest) × (w.1 ≡ name) × (read_all {C = C} files front ≡ Ok inputs)

-- A read fault comes only if its count rose, for a name that the command reads. If the shelf shows
-- its files, those before the name were read.
pub record IsUnread {K : Type 0} (C : Type 0) (ws : List (Want K)) (name : List ℕ) (old new : ShelfState) : Type 0 where
  pub wanted : Contains (read_names ws) name
  pub rose : Rose (old.faults name) (new.faults name)
  pub reached : IfSome old.files (IsReached C ws name)

-- If the shelf shows its files, the file is too long by its bytes, and no fault of its name was
-- counted.
pub record IsTooLong {K : Type 0} (C : Type 0) (ws : List (Want K)) (name : List ℕ) (old new : ShelfState) : Type 0 where
  pub wanted : Contains (read_names ws) name
  pub told : IfSome old.files (λ files. Stayed (old.faults name) (new.faults name) × (read_all {C = C} files ws ≡ Err (TooLong name)))

-- the files after the given ones were put in order
abbrev pub put_all : List (List ℕ × List ℕ) → Option Files → Option Files
put_all [] files = files
put_all (f ∷ fs) files = put_all fs (put f.0 f.1 files)

-- nothing was written and nothing was said
pub record IsUntouched (old new : OutletState) : Type 0 where
  pub files : new.files ≡ old.files
  pub said : new.said ≡ old.said

-- all outputs were written
pub record IsWhole {E : Type 0} (v : Verdict E) (old new : OutletState) : Type 0 where
  pub files : new.files ≡ put_all v.files old.files
  pub said : new.said ≡ say v.said old.said

-- the files before one are whole, a part of that one may be written, and nothing was said
pub record IsCutAtFile (name : List ℕ) (outputs : List (List ℕ × List ℕ)) (old new : OutletState) : Type 0 where
  pub front : List (List ℕ × List ℕ)
  pub bytes : List ℕ
  pub rest : List (List ℕ × List ℕ)
  pub place : outputs ≡ front ++ (name, bytes) ∷ rest
  pub files : IsPartPut name bytes (put_all front old.files) new.files
  pub said : new.said ≡ old.said

-- all files are whole, and a part of the text was said
pub record IsCutAtText {E : Type 0} (v : Verdict E) (old new : OutletState) : Type 0 where
  pub files : new.files ≡ put_all v.files old.files
  pub said : IsPartSaid v.said old.said new.said

-- A write fault comes only if its count rose, for a file to write, or for the text, if there is
-- one.
abbrev pub IsUnwritten : {E : Type 0} → Verdict E → List ℕ → OutletState → OutletState → Type 0
IsUnwritten v name old new =
    (Contains (names v.files) name × Rose (old.faults name) (new.faults name) × IsCutAtFile name v.files old new)
    ⊎ ((name ≡ dash) × (0 < length v.said) × Rose old.say_faults new.say_faults × IsCutAtText v old new)

-- the outputs that were written before memory ran out
abbrev pub IsCutShort : {E : Type 0} → Verdict E → OutletState → OutletState → Type 0
IsCutShort v old new = ((name : List ℕ) × IsCutAtFile name v.files old new) ⊎ IsCutAtText v old new

-- The command has this verdict, and its pair was worked, if it has one. Only then is anything
-- written.
abbrev pub ComesOut : {K E C : Type 0} → Plan K E C → World → World → Verdict E → Type 0
ComesOut p old new v = ComesTo p old.shelf.files (Ok v) × HasPaired p.paired old.crew new.crew

-- The ending of the command, its cause, and the outputs that it leaves.
abbrev pub EndsAs : {K E C : Type 0} → Plan K E C → World → World → Result E (Stop C) → Type 0
EndsAs {E = E} p old new (Ok ending) =
    (v : Verdict E) × ComesOut p old new v × (ending ≡ v.ending) × IsWhole v old.outlet new.outlet
EndsAs p old new (Err (Refused cause)) = ComesTo p old.shelf.files (Err (Refused cause)) × IsUntouched old.outlet new.outlet
EndsAs {C = C} p old new (Err (ReadFault name)) = IsUnread C p.reads name old.shelf new.shelf × IsUntouched old.outlet new.outlet
EndsAs {C = C} p old new (Err (TooLong name)) = IsTooLong C p.reads name old.shelf new.shelf × IsUntouched old.outlet new.outlet
EndsAs {E = E} p old new (Err (WriteFault name)) =
    (v : Verdict E) × ComesOut p old new v × IsUnwritten v name old.outlet new.outlet
EndsAs {E = E} p old new (Err NoThread) =
    (v : Verdict E) × ComesTo p old.shelf.files (Ok v) × HasNoThread p.paired old.crew new.crew × IsUntouched old.outlet new.outlet
EndsAs {E = E} p old new (Err NoMemory) =
    IsUntouched old.outlet new.outlet ⊎ ((v : Verdict E) × ComesOut p old new v × IsCutShort v old.outlet new.outlet)

-- no fault was counted: under a name that the command reads or writes, for the text, or by the crew
-- if the command has a pair
pub record NoFaultCounted {K E C : Type 0} (p : Plan K E C) (files : Files) (old new : World) : Type 0 where
  pub read : (name : List ℕ) → Contains (read_names p.reads) name → Stayed (old.shelf.faults name) (new.shelf.faults name)
  pub written : (v : Verdict E) → verdict p files ≡ Ok v → (name : List ℕ) → Contains (names v.files) name →
      Stayed (old.outlet.faults name) (new.outlet.faults name)
  pub said : Stayed old.outlet.say_faults new.outlet.say_faults
  pub crew : HasCrewStayed p.paired old.crew new.crew

abbrev pub ending_of : {E C : Type 0} → Result (Verdict E) (Stop C) → Result E (Stop C)
ending_of (Ok v) = Ok v.ending
ending_of (Err stop) = Err stop

-- If no fault was counted, the ending is the verdict's, or memory ran out.
abbrev pub IsComplete : {K E C : Type 0} → Plan K E C → World → World → Result E (Stop C) → Files → Type 0
IsComplete p old new result files = NoFaultCounted p files old new → (result ≡ ending_of (verdict p files)) ⊎ (result ≡ Err NoMemory)

-- The whole promise.
pub record CarriesOut {K E C : Type 0} (p : Plan K E C) (old new : World) (result : Result E (Stop C)) : Type 0 where
  pub ends : EndsAs p old new result
  pub complete : IfSome old.shelf.files (IsComplete p old new result)
  pub counts : NoneFell old.shelf.faults new.shelf.faults × NoCountFell old.outlet new.outlet × IsCrewAfter p.paired old.crew new.crew
  -- the files of the shelf are unchanged
  pub shelf : new.shelf.files ≡ old.shelf.files
