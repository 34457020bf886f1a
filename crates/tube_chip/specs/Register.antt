-- One direction of one of the four registers of the Tube: a list of bytes, oldest first.
use Rattle.std.specs.Prelude.{ℕ, List, [], ◌∷◌, ◌++◌, ◌==◌, nat_lt, length, if◌then◌else◌}

-- An empty one remembers the byte last taken from it. One that holds bytes remembers nothing
-- besides them. (Application Note 004 has the lists; what an empty one answers is this project's
-- profile.)
pub data Register : Type 0 where
  empty : (remembered : ℕ) → Register
  holds : (front : ℕ) (rest : List ℕ) → Register

-- the bytes that it holds
abbrev pub held_bytes : Register → List ℕ
held_bytes (empty remembered) = []
held_bytes (holds front rest) = front ∷ rest

-- the number of bytes that it holds
abbrev pub count : Register → ℕ
count r = length (held_bytes r)

-- the byte that a read answers: the front one, or the remembered one
abbrev pub front_of : Register → ℕ
front_of (empty remembered) = remembered
front_of (holds front rest) = front

-- what a read leaves: the front byte is taken
abbrev pub take_leaves : Register → Register
take_leaves (empty remembered) = empty remembered
take_leaves (holds front []) = empty front
take_leaves (holds front (next ∷ rest)) = holds next rest

-- the byte joins the end of the list, or is ignored if the list has its capacity already
abbrev pub add_leaves : ℕ → ℕ → Register → Register
add_leaves capacity byte (empty remembered) = holds byte []
add_leaves capacity byte (holds front rest) = if nat_lt (length (front ∷ rest)) capacity then holds front (rest ++ byte ∷ []) else holds front rest

-- What a write leaves: in a register for one byte that byte alone; in a longer one the byte is
-- added.
abbrev pub write_leaves : ℕ → ℕ → Register → Register
write_leaves capacity byte r = if capacity == 1 then holds byte [] else add_leaves capacity byte r

-- the register that holds these bytes, or remembers `remembered` if there are none
abbrev pub register_of : List ℕ → ℕ → Register
register_of [] remembered = empty remembered
register_of (front ∷ rest) remembered = holds front rest
