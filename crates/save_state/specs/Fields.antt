-- A file of fields, which are tried in order from its first byte on. The offset of a fault is that
-- of the first field at fault. (This project's own format.)
use Rattle.std.specs.Prelude.{ℕ, ◌+◌, ◌==◌, ◌≡◌, nat_le, List, length, slice_range, slice_index, Option, None, Some, Result, Ok, Err, if◌then◌else◌}
use Rattle.std.specs.Int.{w32, from_be_bytes}
use Rattle.std.specs.Str.{bytes_eq}
use Rattle.save_state.specs.declared.StateError.{StateError}
use Rattle.save_state.specs.declared.StateError.TheVariants.{BadField, NoMemory}

-- What a file holds from an offset on: a value, and the offset after its last field; or the first
-- fault.
abbrev pub Fields : Type 0 → Type 0
Fields A = List ℕ → ℕ → Result (A × ℕ) StateError

-- a field's meaning, if it has one: the field is in its set
abbrev pub value_or_fault : {A : Type 0} → ℕ → ℕ → Option A → Result (A × ℕ) StateError
value_or_fault at next None = Err (BadField at)
value_or_fault at next (Some a) = Ok (a, next)

-- A field of `size` bytes. `meaning` gives their value, or none if they are outside the field's
-- set: the fault is then at the field's offset. If the file ends inside the field or before it, the
-- fault is at the file's length.
abbrev pub field : {A : Type 0} → ℕ → (List ℕ → Option A) → Fields A
field size meaning bytes at =
    if nat_le (at + size) (length bytes) then value_or_fault at (at + size) (meaning (slice_range bytes at (at + size)))
    else Err (BadField (length bytes))

-- one thing and then another, which depends on the value and the offset of the first
infixl 10 ◌>>=◌
abbrev pub ◌>>=◌ : {A B : Type 0} → Result A StateError → (A → Result B StateError) → Result B StateError
(Ok a) >>= more = more a
(Err e) >>= more = Err e

-- Nothing follows the last field; otherwise the fault is at the offset of the first byte after it.
abbrev pub with_nothing_behind : {A : Type 0} → List ℕ → A × ℕ → Result A StateError
with_nothing_behind bytes x = if length bytes == x.1 then Ok x.0 else Err (BadField x.1)

-- exactly these bytes
abbrev pub exactly : List ℕ → List ℕ → Option (List ℕ)
exactly want bytes = if bytes_eq bytes want then Some want else None

-- a number up to a limit, if it is one
abbrev pub up_to : ℕ → ℕ → Option ℕ
up_to most n = if nat_le n most then Some n else None

-- a number of four bytes, the highest first
abbrev pub number : List ℕ → ℕ
number bytes = from_be_bytes w32 bytes

-- a number of one byte
abbrev pub byte : List ℕ → ℕ
byte bytes = slice_index bytes 0

-- what a call returns, seen by `view`, is what the file holds, unless memory runs out
abbrev pub Fails : {A : Type 0} → StateError → Result A StateError → Type 0
Fails (BadField at) stands = stands ≡ Err (BadField at)
Fails NoMemory stands = Unit {0}

abbrev pub Gives : {A B : Type 0} → (A → B) → Result A StateError → Result B StateError → Type 0
Gives view (Ok x) stands = stands ≡ Ok (view x)
Gives view (Err e) stands = Fails e stands
