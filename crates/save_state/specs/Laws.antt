-- What is written reads back, and no other bytes are read so.
use Rattle.std.specs.Prelude.{ℕ, ◌≡◌, ◌<◌, List, Ok}
use Rattle.std.specs.Prelude.{slice_index_or}
use Rattle.save_state.specs.Saved.{Session}
use Rattle.save_state.specs.File.{file, file_of, IsSession}

-- the file of a session that keeps the rules is read as that session
abbrev pub FileReadsBack : Type 0
FileReadsBack = (s : Session) → IsSession s → file (file_of s) ≡ Ok s

-- each place has a byte, below 256
abbrev pub AreBytes : List ℕ → Type 0
AreBytes bytes = (at : ℕ) → slice_index_or bytes at 0 < 256

-- no other bytes are read as that session, and what is read keeps the rules
abbrev pub OnlyFileReads : Type 0
OnlyFileReads = (bytes : List ℕ) (s : Session) → AreBytes bytes → file bytes ≡ Ok s → (bytes ≡ file_of s) × IsSession s
