-- The number of bytes that a register of the Tube holds.
use Rattle.std.proofs.Common.{◌≡◌, ◌∙◌, sym, ap, refl, ℕ, ◌-◌, ◌*◌, ◌%◌, ◌≤◌, ◌<◌, ◌==◌, Bool, true, false, List, [], ◌∷◌, ◌++◌, arith, inl, inr}
use Rattle.std.specs.Prelude.{nat_lt, length, take, if◌then◌else◌}
use Rattle.std.proofs.lemmas.Bool.{cases_Bool, ltb-true, ltb-false, eq-eqb, ne_eqb}
use Rattle.std.proofs.lemmas.List.{append-nil, append_assoc, take-append-le, take_all, length-append}
use Rattle.beeb_bits.specs.declared.Side.{Side}
use Rattle.beeb_bits.specs.declared.Side.TheVariants.{Host, Para}
use Rattle.tube_chip.specs.declared.Op.TheVariants.{Write}
use Rattle.tube_chip.specs.Register.{Register, held_bytes, count, empty, holds, add_leaves, write_leaves}
use Rattle.tube_chip.specs.State.{State, capacity, is_empty}
use Rattle.tube_chip.specs.Act.{is_status, is_not_full, chip_after}
use Rattle.law_chips.specs.Queues.{queue, byte_number, all_written, HasRoom, IsForOne, RegistersHold}
use Rattle.law_chips.proofs.Queueing.{four, after_odd_write}

-- a byte joins a list that has room
abbrev joined : ℕ → List ℕ → ℕ → List ℕ
joined room bytes byte = if nat_lt (length bytes) room then bytes ++ byte ∷ [] else bytes

added : (room byte : ℕ) (q : Register) → 1 ≤ room → held_bytes (add_leaves room byte q) ≡ joined room (held_bytes q) byte
added room byte (empty remembered) some = grind arith
added room byte (holds front rest) some = grind arith

written : (room byte : ℕ) (q : Register) → 2 ≤ room → held_bytes (write_leaves room byte q) ≡ joined room (held_bytes q) byte
written room byte q some = grind (arith, added)

joined_fits : (room byte : ℕ) (bytes : List ℕ) → length bytes ≤ room → length (joined room bytes byte) ≤ room
joined_fits room byte bytes fits = elim (cases_Bool (nat_lt (length bytes) room)) [
  | inl is_less ↦
      let less : length bytes < room = ltb-true (length bytes) room is_less in
      rw (is_less, length-append bytes (byte ∷ [])) (omega (arith, less))
  | inr is_full ↦ rw is_full fits
]

one_in : (room byte : ℕ) (bytes more : List ℕ) → length bytes ≤ room → take room (joined room bytes byte ++ more) ≡ take room (bytes ++ byte ∷ more)
one_in room byte bytes more fits = elim (cases_Bool (nat_lt (length bytes) room)) [
  | inl is_less ↦ rw is_less (ap (take room) (append_assoc bytes (byte ∷ []) more))
  | inr is_full ↦
      let full : room ≤ length bytes = ltb-false (length bytes) room is_full in
      rw is_full (take-append-le room bytes more full ∙ sym (take-append-le room bytes (byte ∷ more) full))
]

-- one write of the byte of register `k`
one_written : (from : Side) (k byte : ℕ) (c : State) → 1 ≤ k → k ≤ 4 →
    queue from k (chip_after c from (Write (byte_number k) byte)) ≡ write_leaves (capacity from k c.flags) byte (queue from k c)
one_written from k byte c lk hk =
    let odd : is_status (byte_number k) ≡ false = ne_eqb (byte_number k % 2) 0 (λ z. omega arith) in
    after_odd_write from k (byte_number k) byte c odd (omega arith) lk hk
    ∙ ap (λ b. if b then write_leaves (capacity from k c.flags) byte (queue from k c) else queue from k c) (eq-eqb (byte_number k) (byte_number k) refl)

flags_stay : (from : Side) (k byte : ℕ) (c : State) → 1 ≤ k → k ≤ 4 → (chip_after c from (Write (byte_number k) byte)).flags ≡ c.flags
flags_stay Host k byte c lk hk = four (λ k. (chip_after c Host (Write (byte_number k) byte)).flags ≡ c.flags) refl refl refl refl k lk hk
flags_stay Para k byte c lk hk = four (λ k. (chip_after c Para (Write (byte_number k) byte)).flags ≡ c.flags) refl refl refl refl k lk hk

-- all bytes, from the register's contents on
fills : (from : Side) (k room : ℕ) (bytes : List ℕ) (c : State) → 1 ≤ k → k ≤ 4 → 2 ≤ room → capacity from k c.flags ≡ room →
    length (held_bytes (queue from k c)) ≤ room →
    held_bytes (queue from k (all_written from k bytes c)) ≡ take room (held_bytes (queue from k c) ++ bytes)
fills from k room [] c lk hk some is fits =
    sym (ap (take room) (append-nil (held_bytes (queue from k c))) ∙ take_all room (held_bytes (queue from k c)) fits)
fills from k room (byte ∷ bytes) c lk hk some is fits =
    let d : State = chip_after c from (Write (byte_number k) byte) in
    let now : held_bytes (queue from k d) ≡ joined room (held_bytes (queue from k c)) byte =
    ap held_bytes (one_written from k byte c lk hk)
    ∙ ap (λ n. held_bytes (write_leaves n byte (queue from k c))) is
    ∙ written room byte (queue from k c) some in
    let same : capacity from k d.flags ≡ room = ap (capacity from k) (flags_stay from k byte c lk hk) ∙ is in
    let less : length (held_bytes (queue from k d)) ≤ room = rw now (joined_fits room byte (held_bytes (queue from k c)) fits) in
    fills from k room bytes d lk hk some same less
    ∙ ap (λ h. take room (h ++ bytes)) now
    ∙ one_in room byte (held_bytes (queue from k c)) bytes fits

none_held : (q : Register) → is_empty q ≡ true → held_bytes q ≡ []
none_held (empty remembered) is = refl
none_held (holds front rest) is = grind arith

none_fits : (room : ℕ) (bytes : List ℕ) → bytes ≡ [] → length bytes ≤ room
none_fits room bytes is = rw is (omega arith)

has_room : (from : Side) (k room : ℕ) (c : State) → 1 ≤ k → k ≤ 4 → 2 ≤ room → capacity from k c.flags ≡ room → HasRoom from k room c
has_room from k room c lk hk some is = record {
  holds = λ bytes none.
      let none_yet : held_bytes (queue from k c) ≡ [] = none_held (queue from k c) none in
      fills from k room bytes c lk hk some is (none_fits room (held_bytes (queue from k c)) none_yet)
      ∙ ap (λ h. take room (h ++ bytes)) none_yet;
  shows = ap (nat_lt (count (queue from k c))) is;
}

room_for_one : (n : ℕ) → nat_lt n 1 ≡ (n == 0)
room_for_one n = grind arith

is_for_one : (from : Side) (k : ℕ) (c : State) → 1 ≤ k → k ≤ 4 → capacity from k c.flags ≡ 1 → IsForOne from k c
is_for_one from k c lk hk is = record {
  holds = λ byte.
      ap held_bytes (one_written from k byte c lk hk) ∙ ap (λ n. held_bytes (write_leaves n byte (queue from k c))) is;
  shows = ap (nat_lt (count (queue from k c))) is ∙ room_for_one (count (queue from k c));
}

two : (from : Side) (c : State) → c.flags.v ≡ true → capacity from 3 c.flags ≡ 2
two Host c v = rw v refl
two Para c v = rw v refl

one : (from : Side) (c : State) → c.flags.v ≡ false → capacity from 3 c.flags ≡ 1
one Host c v = rw v refl
one Para c v = rw v refl

one_second : (from : Side) (c : State) → capacity from 2 c.flags ≡ 1
one_second Host c = refl
one_second Para c = refl

one_fourth : (from : Side) (c : State) → capacity from 4 c.flags ≡ 1
one_fourth Host c = refl
one_fourth Para c = refl

pub all_hold : RegistersHold
all_hold = record {
  fifo = λ c. has_room Para 1 24 c (omega arith) (omega arith) (omega arith) refl;
  pair = λ from c v. has_room from 3 2 c (omega arith) (omega arith) (omega arith) (two from c v);
  single = λ from c v. is_for_one from 3 c (omega arith) (omega arith) (one from c v);
  first = λ c. is_for_one Host 1 c (omega arith) (omega arith) refl;
  second = λ from c. is_for_one from 2 c (omega arith) (omega arith) (one_second from c);
  fourth = λ from c. is_for_one from 4 c (omega arith) (omega arith) (one_fourth from c);
}
