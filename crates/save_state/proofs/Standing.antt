-- Bytes that a file holds from an offset on, and fields that are read there.
use Rattle.std.proofs.Common.{◌≡◌, ◌∙◌, refl, sym, ℕ, ◌+◌, ◌-◌, ◌<◌, ◌≤◌, ◌^◌, Bool, true, false, cond, List, [], ◌∷◌, ◌++◌, length, drop, Option, Some, Result}
use Rattle.std.proofs.Common.{Ok, Err, append_assoc, arith, leb, leb-true, le-leb}
use Rattle.std.specs.Prelude.{slice_range, slice_index}
use Rattle.std.specs.Int.{w32, to_be_bytes}
use Rattle.std.proofs.lemmas.Bool.Decides.{nat_tests}
use Rattle.std.proofs.lemmas.Grind.{common_steps, elements}
use Rattle.std.proofs.lemmas.List.{take_at, drop_at, drop-drop, take-append-drop, length-append, length-take, length-drop, get_or_past}
use Rattle.std.proofs.lemmas.Nat.{be_bytes_4, from_be_bytes-to_be_bytes_4}
use Rattle.save_state.specs.declared.StateError.{StateError}
use Rattle.save_state.specs.declared.StateError.TheVariants.{BadField}
use Rattle.save_state.specs.Fields.{field, value_or_fault, up_to, number, ◌>>=◌}
use Rattle.save_state.specs.Laws.{AreBytes}

-- A file holds bytes from one offset to another.
pub record Stands (bytes : List ℕ) (at : ℕ) (text : List ℕ) (next : ℕ) : Type 0 where
  pub here : drop at bytes ≡ text ++ drop next bytes
  pub to : next ≡ at + length text
  pub within : next ≤ length bytes

pub stands_then : {bytes : List ℕ} {at : ℕ} {x : List ℕ} {mid : ℕ} {y : List ℕ} {next : ℕ} → Stands bytes at x mid → Stands bytes mid y next → Stands bytes at (x ++ y) next
stands_then {x} {y} p q = record { here = rw (p.here, q.here, append_assoc); to = omega (arith, length-append x y); within = q.within }

-- two parts of a file, one after the other
pub stands_apart : {bytes : List ℕ} {at : ℕ} (x : List ℕ) {y : List ℕ} {next : ℕ} → Stands bytes at (x ++ y) next →
    Stands bytes at x (at + length x) × Stands bytes (at + length x) y next
stands_apart {bytes} {at} x {y} {next} s =
    let rest : drop (at + length x) bytes ≡ y ++ drop next bytes =
    sym (drop-drop (length x) at bytes) ∙ (rw (s.here, append_assoc) (drop_at x (y ++ drop next bytes) (length x) refl)) in
    let long = length-append x y in (
      record { here = rw rest (s.here ∙ append_assoc x y (drop next bytes)); to = refl; within = omega (arith, long) },
      record { here = rest; to = omega (arith, long); within = s.within },
    )

-- ---- bytes

pub range_bytes : (bytes : List ℕ) (a b : ℕ) → AreBytes bytes → AreBytes (slice_range bytes a b)
range_bytes bytes a b are i = grind (arith, elements, get_or_past, are (a + i))

-- ---- what did not fail

pub bind_ok : {A B : Type 0} (r : Result A StateError) {f : A → Result B StateError} {y : B} → (r >>= f) ≡ Ok y → (x : A) × (r ≡ Ok x) × (f x ≡ Ok y)
bind_ok (Ok x) e = (x, refl, e)
bind_ok (Err d) e = absurd cc

abbrev pub done : {A : Type 0} → A → Result A StateError
done x = Ok x

pub ok_is : {A : Type 0} {x y : A} → done x ≡ done y → x ≡ y
ok_is e = cc

pub some_is : {A : Type 0} {x y : A} → Some x ≡ Some y → x ≡ y
some_is e = cc

-- ---- one field

-- What was read of a field: the file holds these bytes there, and they have this meaning.
pub record Held {A : Type 0} (size : ℕ) (meaning : List ℕ → Option A) (bytes : List ℕ) (at : ℕ) (a : A) (next : ℕ) : Type 0 where
  pub text : List ℕ
  pub stands : Stands bytes at text next
  pub long : length text ≡ size
  pub means : meaning text ≡ Some a
  pub are : AreBytes bytes → AreBytes text

told_ok : {A : Type 0} (at : ℕ) {next : ℕ} (o : Option A) {x : A × ℕ} → value_or_fault at next o ≡ Ok x → (o ≡ Some x.0) × (next ≡ x.1)
told_ok at o e = grind arith

pub field_by : {A : Type 0} {size : ℕ} {meaning : List ℕ → Option A} {bytes : List ℕ} {at : ℕ} {a : A} {next : ℕ} (t : Bool) → leb (at + size) (length bytes) ≡ t →
    cond t (value_or_fault at (at + size) (meaning (slice_range bytes at (at + size)))) (Err (BadField (length bytes))) ≡ Ok (a, next) → Held size meaning bytes at a next
field_by false long e = absurd cc
field_by {size} {meaning} {bytes} {at} {a} {next} true long e =
    let le : at + size ≤ length bytes = leb-true (at + size) (length bytes) long in
    let text : List ℕ = slice_range bytes at (at + size) in
    let parts = told_ok at (meaning text) e in
    let width : at + (at + size - at) ≡ next = omega (arith, parts.1) in
    let room : length text ≡ size = omega (arith, length-take (at + size - at) (drop at bytes), length-drop at bytes) in
    record {
      text = text;
      stands = record {
        here = rw (← width, ← (drop-drop (at + size - at) at bytes), take-append-drop);
        to = omega (arith, parts.1);
        within = omega (arith, parts.1);
      };
      long = room;
      means = parts.0;
      are = range_bytes bytes at (at + size);
    }

pub field_again : {A : Type 0} {size : ℕ} (meaning : List ℕ → Option A) {bytes : List ℕ} {at : ℕ} {a : A} {next : ℕ} {text : List ℕ} →
    Stands bytes at text next → length text ≡ size → meaning text ≡ Some a → field size meaning bytes at ≡ Ok (a, next)
field_again {size} meaning {bytes} {at} {next} {text} stands long means =
    let end_ : at + size ≡ next = omega (arith, stands.to) in
    let room : leb (at + size) (length bytes) ≡ true = le-leb (at + size) (length bytes) (omega (arith, stands.within)) in
    let width : at + size - at ≡ size = omega arith in
    rw (room, width, stands.here, take_at text (drop next bytes) size long, means, end_)

-- ---- numbers

pub one_byte : (bs : List ℕ) → length bs ≡ 1 → slice_index bs 0 ∷ [] ≡ bs
one_byte bs l = grind (arith, common_steps)

-- the text of a number of four bytes
pub number_text : {text : List ℕ} → length text ≡ 4 → AreBytes text → to_be_bytes w32 (number text) ≡ text
number_text {text} long are = be_bytes_4 text _ long are refl

pub number_of_text : {n : ℕ} → n < 2 ^ 32 → number (to_be_bytes w32 n) ≡ n
number_of_text {n} lt = from_be_bytes-to_be_bytes_4 n lt

pub up_to_some : {most n m : ℕ} → up_to most n ≡ Some m → (n ≡ m) × (n ≤ most)
up_to_some e = grind (arith, nat_tests)
