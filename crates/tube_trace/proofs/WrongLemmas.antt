-- The entries done one by one, and what the first wrong one says of those before it.
use Rattle.std.proofs.Common.{◌≡◌, ◌≢◌, sym, refl, ap, ℕ, zero, suc, ◌+◌, ◌<◌, ◌≤◌, List, [], ◌∷◌, length, take, drop, get_or, true, false, ◌==◌, Option, Some, None, arith, eqb-true, ◌↔◌, IfSome}
use Rattle.std.specs.Prelude.{IsNone, IsSomeAnd, slice_get}
use Rattle.std.proofs.lemmas.Bool.Decides.{nat_tests}
use Rattle.std.proofs.lemmas.List.{drop_more}
use Rattle.std.proofs.Math.ListN.{drop_of_length-le}
use Rattle.tube_chip.specs.declared.Answer.TheVariants.{Byte}
use Rattle.tube_chip.specs.State.{State, power_on}
use Rattle.tube_chip.specs.Act.{answer_of, chip_after}
use Rattle.tube_chip.specs.Events.{IsAnsweredFrom, after_from}
use Rattle.tube_trace.specs.declared.Entry.{Entry}
use Rattle.tube_trace.specs.Entries.{events_of}
use Rattle.tube_trace.specs.FirstWrong.{wrong_from, wrong, IsFirstWrong}

-- a right answer leads to the next entry
pub wrong_more : (c new : State) (entries : List Entry) (place answer : ℕ) (d : Entry) → place < length entries →
    answer ≡ answer_of c (get_or entries place d).side (get_or entries place d).op → answer ≡ (get_or entries place d).answer →
    new ≡ chip_after c (get_or entries place d).side (get_or entries place d).op →
    wrong_from c place (drop place entries) ≡ wrong_from new (place + 1) (drop (place + 1) entries)
wrong_more c new entries place answer d h is right after = grind (arith, nat_tests, drop_more entries place d)

-- a wrong one ends them
pub wrong_here : (c : State) (entries : List Entry) (place answer : ℕ) (d : Entry) → place < length entries →
    answer ≡ answer_of c (get_or entries place d).side (get_or entries place d).op → answer ≢ (get_or entries place d).answer →
    wrong_from c place (drop place entries) ≡ Some (place, answer)
wrong_here c entries place answer d h is differs = grind (arith, nat_tests, drop_more entries place d)

pub wrong_past : (c : State) (entries : List Entry) (place : ℕ) → length entries ≤ place → wrong_from c place (drop place entries) ≡ None
wrong_past c entries place h = rw (drop_of_length-le entries h)

-- if no place is wrong, each answer is the chip's
none_answered : (c : State) (i : ℕ) (entries : List Entry) → wrong_from c i entries ≡ None → IsAnsweredFrom c (events_of entries)
none_answered c i [] none = tt
none_answered c i (e ∷ entries) none = grind (arith, nat_tests, none_answered (chip_after c e.side e.op) (i + 1) entries)

answered_none : (c : State) (i : ℕ) (entries : List Entry) → IsAnsweredFrom c (events_of entries) → wrong_from c i entries ≡ None
answered_none c i [] all = refl
answered_none c i (e ∷ entries) all = grind (arith, nat_tests, answered_none (chip_after c e.side e.op) (i + 1) entries)

pub none_iff : (entries : List Entry) {o : Option (ℕ × ℕ)} → o ≡ wrong entries → IsNone o ↔ IsAnsweredFrom power_on (events_of entries)
unfolding wrong
none_iff entries is = (λ none. none_answered power_on 0 entries (grind arith), λ all. grind (arith, answered_none power_on 0 entries all))

-- the first wrong place, k entries on
record WrongAt (c : State) (entries : List Entry) (k byte : ℕ) : Type 0 where
  pub before : IsAnsweredFrom c (events_of (take k entries))
  pub here : IsSomeAnd (slice_get entries k) (λ e. (answer_of (after_from c (events_of (take k entries))) e.side e.op ≡ byte) × (e.answer ≢ byte))

wrong_at : (c : State) (i : ℕ) (entries : List Entry) (w : ℕ × ℕ) → wrong_from c i entries ≡ Some w → (k : ℕ) × (w.0 ≡ i + k) × WrongAt c entries k w.1
wrong_at c i [] w is = cc
wrong_at c i (e ∷ entries) w is =
    elim (answer_of c e.side e.op == e.answer) as (λ t. (answer_of c e.side e.op == e.answer) ≡ t → (k : ℕ) × (w.0 ≡ i + k) × WrongAt c (e ∷ entries) k w.1) [
      | true ↦ λ same.
          let later = wrong_at (chip_after c e.side e.op) (i + 1) entries w (rw same at is) in
          let place : w.0 ≡ i + 1 + later.0 = later.1 in
          (suc later.0, omega arith, record { before = (ap Byte (eqb-true _ _ same), later.2.before); here = later.2.here })
      | false ↦ λ other.
          let parts : (w.0 ≡ i) × (answer_of c e.side e.op ≡ w.1) = grind arith in
          (zero, omega (arith, parts.0), record { before = tt; here = (parts.1, λ same. grind (arith, nat_tests)) })
    ] refl

pub first_wrong_is : (entries : List Entry) {o : Option (ℕ × ℕ)} → o ≡ wrong entries → IfSome o (λ w. IsFirstWrong entries w.0 w.1)
unfolding wrong
first_wrong_is entries {o = None} is = tt
first_wrong_is entries {o = Some w} is =
    let at = wrong_at power_on 0 entries w (sym is) in
    let place : w.0 ≡ at.0 = omega (arith, at.1) in
    rw place (record { before = at.2.before; here = at.2.here })
