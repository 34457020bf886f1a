-- The files that a command reads and its result on the files of a shelf, if no fault is counted and
-- memory does not run out.
use Rattle.std.specs.Prelude.{◌≡◌, ◌≤◌, ⊤, ℕ, nat_lt, Bool, List, [], ◌∷◌, length, Option, Some, None, Result, Ok, Err, if◌then◌else◌}
use Rattle.beeb_files.specs.Files.{Files, bytes_of}
use Rattle.cmd_stages.specs.declared.stop.Stop.{Stop}
use Rattle.cmd_stages.specs.declared.stop.Stop.TheVariants.{Refused, ReadFault, TooLong, NoMemory}
use Rattle.cmd_stages.specs.declared.stop.Refusal.{Refusal}
use Rattle.cmd_stages.specs.declared.stop.Refusal.TheVariants as refusals

-- the ending of a command after the files were put in order and the text was said
pub record Verdict (E : Type 0) : Type 0 where
  pub ending : E
  pub files : List (List ℕ × List ℕ)
  pub said : List ℕ

-- a file to read: its purpose, its name, and the most bytes that it may have
abbrev pub Want : Type 0 → Type 0
Want K = K × List ℕ × ℕ

-- the bytes that were read, each with its purpose
abbrev pub Inputs : Type 0 → Type 0
Inputs K = List (K × List ℕ)

-- The files that a command reads, in order; true if a crew works a pair of jobs for it; and the
-- result for the bytes of the files. That result is NoMemory only in place of an error that never
-- occurs.
pub record Plan (K E C : Type 0) : Type 0 where
  pub reads : List (Want K)
  pub paired : Bool
  pub after : Inputs K → Result (Verdict E) (Refusal C)

-- the next step, if no stop came before it
infixl 10 ◌>>=◌
abbrev pub ◌>>=◌ : {A B C : Type 0} → Result A C → (A → Result B C) → Result B C
(Ok x) >>= f = f x
(Err s) >>= f = Err s

-- the bytes of a name, if they are at most cap
abbrev pub within : {C : Type 0} → List ℕ → ℕ → Option (List ℕ) → Result (List ℕ) (Stop C)
within name cap None = Err (ReadFault name)
within name cap (Some bytes) = if nat_lt cap (length bytes) then Err (TooLong name) else Ok bytes

-- the bytes of the files to read, in order
abbrev pub read_all : {K C : Type 0} → Files → List (Want K) → Result (Inputs K) (Stop C)
read_all files [] = Ok []
read_all files (w ∷ ws) = within w.1 w.2 (bytes_of files w.1) >>= λ bytes. read_all files ws >>= λ more. Ok ((w.0, bytes) ∷ more)

-- one input for each file to read, at most as long as it may be
abbrev pub AreWithin : {K : Type 0} → List (Want K) → Inputs K → Type 0
AreWithin [] [] = ⊤
AreWithin [] (i ∷ is) = ⊥
AreWithin (w ∷ ws) [] = ⊥
AreWithin (w ∷ ws) (i ∷ is) = (i.0 ≡ w.0) × (length i.1 ≤ w.2) × AreWithin ws is

-- the result of a lower part, with its error as a refusal
abbrev pub or_refusal : {A B C : Type 0} → (B → Refusal C) → Result A B → Result A (Refusal C)
or_refusal refusal (Ok x) = Ok x
or_refusal refusal (Err error) = Err (refusal error)

-- A refusal stops the command.
abbrev pub stop_of : {C : Type 0} → Refusal C → Stop C
stop_of (refusals.Cause cause) = Refused cause
stop_of refusals.NoMemory = NoMemory

abbrev pub or_stop : {A C : Type 0} → Result A (Refusal C) → Result A (Stop C)
or_stop (Ok x) = Ok x
or_stop (Err refusal) = Err (stop_of refusal)

-- the result of a command on the given files
abbrev pub verdict : {K E C : Type 0} → Plan K E C → Files → Result (Verdict E) (Stop C)
verdict p files = read_all files p.reads >>= λ inputs. or_stop (p.after inputs)

-- The command has the result v on the files, if the shelf shows them. Otherwise v is its result on
-- some inputs within their limits.
abbrev pub ComesTo : {K E C : Type 0} → Plan K E C → Option Files → Result (Verdict E) (Stop C) → Type 0
ComesTo p (Some files) v = verdict p files ≡ v
ComesTo {K = K} p None v = (inputs : Inputs K) × AreWithin p.reads inputs × (or_stop (p.after inputs) ≡ v)
