-- An access that is read is in the file, and is read where it is.
use Rattle.std.proofs.Common.{◌≡◌, ◌∙◌, refl, sym, ap, ℕ, zero, suc, ◌+◌, ◌*◌, ◌/◌, ◌%◌, ◌<◌, ◌≤◌, ◌^◌, true, List, [], ◌∷◌, ◌++◌, length, get_or, drop, Option, None}
use Rattle.std.proofs.Common.{Some, Ok, All, arith, lt-ltb}
use Rattle.std.proofs.lemmas.List.{nil_from_length}
use Rattle.std.proofs.lemmas.List.FromFn.{fill_by_all}
use Rattle.std.specs.List.{flat_map}
use Rattle.std.specs.Int.{w64, from_be_bytes}
use Rattle.std.proofs.lemmas.Bool.Decides.{nat_tests}
use Rattle.std.proofs.lemmas.Nat.{be_bytes_8, from_be_bytes-to_be_bytes_8}
use Rattle.std.proofs.lemmas.List.Elements.{All-nil, All-cons, All-head, All-tail}
use Rattle.beeb_bits.specs.declared.Side.{Side}
use Rattle.beeb_bits.specs.declared.Side.TheVariants.{Host, Para}
use Rattle.tube_chip.specs.declared.Op.{Op}
use Rattle.tube_chip.specs.declared.Op.TheVariants.{Read, Write, Reset}
use Rattle.tube_chip.specs.Act.{MayDo}
use Rattle.tube_trace.specs.declared.Entry.{Entry}
use Rattle.tube_trace.specs.Line.{answer_in, entry_by}
use Rattle.tube_trace.specs.Text.{number_of, line_byte, IsAnswer, HasLine}
use Rattle.tube_trace.specs.Trace.{follows}
use Rattle.tube_trace.proofs.RiseLemmas.{RisesBehind, none_behind, rises_on, follows_behind}
use Rattle.save_state.specs.Fields.{field, ◌>>=◌}
use Rattle.save_state.specs.Entries.{tick_in, side_in, op_by, op_in, entry_in, in_order, next_entry, entries_at, side_bits, op_bits, tick_bytes, entry_bytes}
use Rattle.save_state.specs.Laws.{AreBytes}
use Rattle.save_state.proofs.Standing.{range_bytes}
use Rattle.save_state.proofs.Reading as reading
use Rattle.save_state.proofs.Reading.{Reads, then, stop, of_field}

-- ---- the byte of side, operation and register

-- What it says of an operation with a byte: its bits, and that the operation determines the byte.
record Says (s : Side) (k r y : ℕ) (op : Op) : Type 0 where
  bits : op_bits op + number_of op ≡ 32 * k + r
  may : MayDo s op
  byte : line_byte op (answer_in op y) ≡ y
  answer : IsAnswer op (answer_in op y)

op_says : (k : ℕ) (s : Side) (r y : ℕ) {op : Op} → r < 8 → op_by k s r y ≡ Some op → Says s k r y op
op_says k s r y lt e = grind (arith, nat_tests)

-- What was read of it.
record Formed (f y : ℕ) (op : Op) : Type 0 where
  form : side_bits (side_in f) + op_bits op + number_of op ≡ f
  may : MayDo (side_in f) op
  byte : line_byte op (answer_in op y) ≡ y
  answer : IsAnswer op (answer_in op y)

side_value : {f : ℕ} → f < 256 → side_bits (side_in f) ≡ 128 * (f / 128)
side_value lt = grind (arith, nat_tests)

op_reads : {f y : ℕ} {op : Op} → f < 256 → op_in f y ≡ Some op → Formed f y op
op_reads {f} {y} {op} lt e =
    let t : (f / 8 % 4 ≡ 0) × (op_by (f / 32 % 4) (side_in f) (f % 8) y ≡ Some op) = grind (arith, nat_tests) in
    let says : Says (side_in f) (f / 32 % 4) (f % 8) y op = op_says (f / 32 % 4) (side_in f) (f % 8) y (omega arith) t.1 in
    record { form = omega (arith, side_value lt); may = says.may; byte = says.byte; answer = says.answer }

-- What is read of the bytes of an operation.
record Again (s : Side) (op : Op) (y f : ℕ) : Type 0 where
  side : side_in f ≡ s
  op_is : op_in f y ≡ Some op

formed : (s : Side) (k r y : ℕ) {f : ℕ} {op : Op} → k < 4 → r < 8 → f ≡ side_bits s + 32 * k + r → op_by k s r y ≡ Some op → Again s op y f
formed s k r y {f} {op} few low e is =
    let bits : side_bits s ≤ 128 = grind arith in
    let side : side_in f ≡ s = grind (arith, nat_tests) in
    let clear : f / 8 % 4 ≡ 0 = grind arith in
    let kind : f / 32 % 4 ≡ k = grind arith in
    let register : f % 8 ≡ r = grind arith in
    record { side = side; op_is = rw (clear, kind, register, side) is }

op_again : (s : Side) (op : Op) (answer : ℕ) {f : ℕ} → MayDo s op → f ≡ side_bits s + op_bits op + number_of op → Again s op (line_byte op answer) f
op_again s (Read r) answer may e = formed s 0 r answer (omega arith) may (omega arith) refl
op_again s (Write r y) answer may e = formed s 1 r y (omega arith) may (omega arith) refl
op_again Host Reset answer may e = formed Host 2 0 0 (omega arith) (omega arith) (omega arith) refl
op_again Para Reset answer may e = absurd cc

answer_again : (op : Op) {answer : ℕ} → IsAnswer op answer → answer_in op (line_byte op answer) ≡ answer
answer_again (Read r) is = refl
answer_again (Write r y) is = sym is
answer_again Reset is = sym is

-- ---- the field

-- with the high bytes of a number in front of them
number_bytes : (bs : List ℕ) → AreBytes bs → AreBytes (0 ∷ 0 ∷ 0 ∷ bs)
number_bytes bs are zero = omega arith
number_bytes bs are (suc zero) = omega arith
number_bytes bs are (suc (suc zero)) = omega arith
number_bytes bs are (suc (suc (suc i))) = are i

-- an access by its parts
with_op : {tick : ℕ} {s : Side} {y : ℕ} (o : Option Op) {e : Entry} → entry_by tick s y o ≡ Some e →
    (op : Op) × (o ≡ Some op) × (record { tick = record { 0 = tick }; side = s; op = op; answer = answer_in op y } ≡ e)
with_op None is = absurd cc
with_op (Some op) is = (op, refl, cc)

seven_read : {a b c d g f y : ℕ} {e : Entry} → AreBytes (a ∷ b ∷ c ∷ d ∷ g ∷ f ∷ y ∷ []) → entry_in (a ∷ b ∷ c ∷ d ∷ g ∷ f ∷ y ∷ []) ≡ Some e →
    (entry_bytes e ≡ a ∷ b ∷ c ∷ d ∷ g ∷ f ∷ y ∷ []) × HasLine e
unfolding entry_bytes
seven_read {a} {b} {c} {d} {g} {f} {y} are is =
    let eight : List ℕ = 0 ∷ 0 ∷ 0 ∷ a ∷ b ∷ c ∷ d ∷ g ∷ [] in
    let parts = with_op (op_in f y) is in
    let has = op_reads (are 5) parts.1 in
    let low : AreBytes (a ∷ b ∷ c ∷ d ∷ g ∷ []) = range_bytes (a ∷ b ∷ c ∷ d ∷ g ∷ f ∷ y ∷ []) 0 5 are in
    let ticks = ap (drop 3) (be_bytes_8 eight (from_be_bytes w64 eight) refl (number_bytes (a ∷ b ∷ c ∷ d ∷ g ∷ []) low) refl) in
    rw (← parts.2) ((λ i. ticks i ++ has.form i ∷ has.byte i ∷ []), (record { may = has.may; tick = omega (arith, are 0, are 1, are 2, are 3, are 4); answer = has.answer }))

entry_reads : (bs : List ℕ) {e : Entry} → length bs ≡ 7 → AreBytes bs → entry_in bs ≡ Some e → (entry_bytes e ≡ bs) × HasLine e
entry_reads bs {e} long are is =
    let whole = fill_by_all (λ i. get_or bs i 0) bs 7 0 long (λ k lt. refl) in
    rw whole (seven_read {a = get_or bs 0 0} {e = e} (rw whole at are) (rw whole at is))

tick_again : {t : ℕ} → t < 2 ^ 40 → tick_in (tick_bytes t) ≡ t
tick_again {t} lt =
    let h7 : 0 ≡ t / 72057594037927936 % 256 = omega arith in
    let h6 : 0 ≡ t / 281474976710656 % 256 = omega arith in
    let h5 : 0 ≡ t / 1099511627776 % 256 = omega arith in
    ap (from_be_bytes w64) (λ i. h7 i ∷ h6 i ∷ h5 i ∷ tick_bytes t) ∙ from_be_bytes-to_be_bytes_8 t (omega arith)

entry_again : {e : Entry} → HasLine e → entry_in (entry_bytes e) ≡ Some e
unfolding entry_bytes
entry_again {e} has =
    let again = op_again e.side e.op e.answer has.may refl in
    rw (again.op_is, again.side, tick_again has.tick, answer_again e.op has.answer)

long_entry : (e : Entry) → length (entry_bytes e) ≡ 7
unfolding entry_bytes
long_entry e = refl

-- ---- an access after another

placed_some : {ticks : ℕ} (last o : Option Entry) {e : Entry} → in_order ticks last o ≡ Some e → (o ≡ Some e) × ((e.tick).0 < ticks) × (follows last e ≡ true)
placed_some last o is = grind (arith, nat_tests)

abbrev pub IsBelow : ℕ → Entry → Type 0
IsBelow ticks e = (e.tick).0 < ticks

-- Accesses that have fields, below a tick, each after the one before it.
pub record Behind (ticks : ℕ) (last : Option Entry) (es : List Entry) : Type 0 where
  pub lines : All HasLine es
  pub below : All (IsBelow ticks) es
  pub rises : RisesBehind last es

-- an access that may follow another
abbrev Next : ℕ → Option Entry → Entry → Type 0
Next ticks last e = HasLine e × ((e.tick).0 < ticks) × (follows last e ≡ true)

next_law : (ticks : ℕ) (last : Option Entry) → Reads (field 7 (next_entry ticks last)) entry_bytes (Next ticks last)
unfolding next_entry
next_law ticks last = of_field 7 (next_entry ticks last) to (λ e is. (long_entry e, rw (entry_again is.0, lt-ltb (e.tick).0 ticks is.1, is.2) refl))
  where
    to : (b : List ℕ) (e : Entry) → length b ≡ 7 → AreBytes b → next_entry ticks last b ≡ Some e → (entry_bytes e ≡ b) × Next ticks last e
    to b e long are means =
        let p = placed_some last (entry_in b) means in
        let r = entry_reads b long are p.0 in
        (r.0, (r.1, p.1, p.2))

behind_cons : {ticks : ℕ} (last : Option Entry) {e : Entry} {es : List Entry} → Next ticks last e → Behind ticks (Some e) es → Behind ticks last (e ∷ es)
behind_cons {ticks} last {e} {es} is are = record {
  lines = All-cons HasLine e es is.0 are.lines;
  below = All-cons (IsBelow ticks) e es is.1 are.below;
  rises = rises_on last e es is.2 are.rises;
}

behind_apart : {ticks : ℕ} (last : Option Entry) {e : Entry} {es : List Entry} → Behind ticks last (e ∷ es) → Next ticks last e × Behind ticks (Some e) es
behind_apart {ticks} last {e} {es} are =
    let rises = follows_behind last e es are.rises in (
      (All-head HasLine e es are.lines, All-head (IsBelow ticks) e es are.below, rises.0),
      record { lines = All-tail HasLine e es are.lines; below = All-tail (IsBelow ticks) e es are.below; rises = rises.1 },
    )

-- the first of accesses
abbrev first_of_all : List Entry → Entry
first_of_all [] = record { tick = record { 0 = 0 }; side = Host; op = Reset; answer = 0 }
first_of_all (e ∷ es) = e

pub entries_law : (n ticks : ℕ) (last : Option Entry) → Reads (entries_at ticks n last) (flat_map entry_bytes) (λ es. (length es ≡ n) × Behind ticks last es)
unfolding entries_at
entries_law zero ticks last =
    stop [] (refl, record { lines = All-nil HasLine; below = All-nil (IsBelow ticks); rises = none_behind last }) refl (λ es is. nil_from_length es is.0)
entries_law (suc n) ticks last =
    then (λ e bytes at. entries_at ticks n (Some e) bytes at >>= λ others. Ok (e ∷ others.0, others.1)) first_of_all (λ es. flat_map entry_bytes (drop 1 es)) (next_law ticks last) split
    (λ e is. reading.last (λ others. e ∷ others) (entries_law n ticks (Some e)) (λ others are. (((ap suc are.0, behind_cons last is are.1), refl), refl)) (there e))
  where
    split : (es : List Entry) → (length es ≡ suc n) × Behind ticks last es →
        Next ticks last (first_of_all es) × (flat_map entry_bytes es ≡ entry_bytes (first_of_all es) ++ flat_map entry_bytes (drop 1 es))
    split [] is = absurd (omega (arith, is.0))
    split (e ∷ es) is = ((behind_apart last is.1).0, refl)

    there : (e : Entry) (es : List Entry) → ((length es ≡ suc n) × Behind ticks last es) × (first_of_all es ≡ e) →
        (others : List Entry) × ((length others ≡ n) × Behind ticks (Some e) others) × (e ∷ others ≡ es)
    there e [] is = absurd (omega (arith, is.0.0))
    there e (d ∷ es) is = rw (← is.1) (es, (omega (arith, is.0.0), (behind_apart last is.0.1).1), refl)
