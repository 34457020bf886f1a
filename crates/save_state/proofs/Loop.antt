-- Reading and writing one after the other, as loops do.
use Rattle.std.proofs.Common.{◌≡◌, ℕ, suc, ◌-◌, ◌+◌, ◌≤◌, ◌<◌, List, [], ◌∷◌, ◌++◌, length, get_or, drop, Option, Some, Result, Ok, Err, refl, sym, ◌∙◌, append_assoc, append-nil}
use Rattle.std.proofs.Common.{arith}
use Rattle.std.proofs.lemmas.List.{drop_more}
use Rattle.std.proofs.Math.ListN.{drop_of_length-le}
use Rattle.tube_trace.specs.declared.Entry.{Entry}
use Rattle.save_state.specs.declared.StateError.{StateError}
use Rattle.save_state.specs.declared.StateError.TheVariants.{BadField, NoMemory}
use Rattle.save_state.specs.declared.parts.Kind.{Kind}
use Rattle.save_state.specs.Fields.{◌>>=◌, field, Fails}
use Rattle.save_state.specs.Parts.{part_at, each_at}
use Rattle.save_state.specs.Entries.{next_entry, entries_at}

abbrev pub Read : Type 0 → Type 0
Read A = Result (A × ℕ) StateError

-- what was read before, and what is still read
abbrev pub with_front : {A : Type 0} → List A → Read (List A) → Read (List A)
with_front front read = read >>= λ x. Ok (front ++ x.0, x.1)

-- one thing, and then a list after it
abbrev step : {A : Type 0} → Read A → (A × ℕ → Read (List A)) → Read (List A)
step one others = one >>= λ x. others x >>= λ y. Ok (x.0 ∷ y.0, y.1)

pub more : {A : Type 0} (front : List A) {a : A} {next : ℕ} {one : Read A} (others : A × ℕ → Read (List A)) {read total : Read (List A)} →
    read ≡ step one others → one ≡ Ok (a, next) → with_front front read ≡ total → with_front (front ++ a ∷ []) (others (a, next)) ≡ total
more {A} front {a} {next} others is ok so_far = regroup (others (a, next)) ∙ (rw (is, ok) at so_far)
  where
    regroup : (read : Read (List A)) → with_front (front ++ a ∷ []) read ≡ with_front front (read >>= λ x. Ok (a ∷ x.0, x.1))
    regroup (Ok x) = rw append_assoc
    regroup (Err e) = refl

pub fails : {A : Type 0} (e : StateError) (front : List A) (one : Read A) (others : A × ℕ → Read (List A)) {read total : Read (List A)} →
    read ≡ step one others → Fails e one → with_front front read ≡ total → Fails e total
fails NoMemory front one others is fault so_far = tt
fails (BadField place) front one others is fault so_far = sym (rw (is, fault) at so_far)

pub over : {A : Type 0} {front : List A} {at : ℕ} {read total : Read (List A)} → read ≡ Ok ([], at) → with_front front read ≡ total → total ≡ Ok (front, at)
over is so_far = sym (rw (is, append-nil) at so_far)

-- ---- parts

pub part_step : (kinds : List Kind) {i : ℕ} (d : Kind) (bytes : List ℕ) (at : ℕ) → i < length kinds →
    each_at (drop i kinds) bytes at ≡ step (part_at (get_or kinds i d) bytes at) (λ x. each_at (drop (i + 1) kinds) bytes x.1)
unfolding each_at
part_step kinds {i} d bytes at lt = rw (drop_more kinds i d lt)

pub parts_over : (kinds : List Kind) {i : ℕ} (bytes : List ℕ) {at : ℕ} → length kinds ≤ i → each_at (drop i kinds) bytes at ≡ Ok ([], at)
unfolding each_at
parts_over kinds bytes le = rw (drop_of_length-le kinds le)

-- ---- accesses

pub entry_step : (ticks : ℕ) {count i : ℕ} (last : Option Entry) (bytes : List ℕ) (at : ℕ) → i < count →
    entries_at ticks (count - i) last bytes at ≡ step (field 7 (next_entry ticks last) bytes at) (λ x. entries_at ticks (count - (i + 1)) (Some x.0) bytes x.1)
unfolding entries_at
entry_step ticks {count} {i} last bytes at lt = let k : count - i ≡ suc (count - (i + 1)) = omega arith in rw k

pub entries_over : (ticks : ℕ) {count i : ℕ} (last : Option Entry) (bytes : List ℕ) {at : ℕ} → count ≤ i → entries_at ticks (count - i) last bytes at ≡ Ok ([], at)
unfolding entries_at
entries_over ticks {count} {i} last bytes le = let k : count - i ≡ 0 = omega arith in rw k
