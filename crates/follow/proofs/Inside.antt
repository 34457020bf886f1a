-- A replay of a party is the same for both views of its states.
use Rattle.std.proofs.Common.{ℕ, zero, suc, max, ◌≡◌, nat_lt, ap, List, [], ◌∷◌, length, Bool, true, false, Option, Some, None, if◌then◌else◌, refl}
use Rattle.beeb_bits.specs.declared.Side.{Side}
use Rattle.tube_chip.specs.declared.Op.{Op}
use Rattle.tube_chip.specs.Act.{Query, access, look}
use Rattle.tube_trace.specs.declared.Entry.{Entry}
use Rattle.tube_party.specs.Transitions.{Transitions, close_leaves}
use Rattle.tube_party.specs.Replay.{Numbered, Ended, own_from, is_that, access_step, one_step, replay_from, replay_of}
use Rattle.follow.specs.Sight.{IsSame}

-- a state is closed the same in both views
pub closed_to : {X S T : Type 0} {state : X → S} {m : Transitions S} {inside : X → T} {w : Transitions T} (same : IsSame state m inside w) (n : ℕ) (s : S)
    → close_leaves w (same.to s) n ≡ same.to (close_leaves m s n)
closed_to {m = m} same n s = cc (same.closed s, same.close s (max n (m.closed s)))

module _ {X S T : Type 0} {state : X → S} {m : Transitions S} {inside : X → T} {w : Transitions T} (same : IsSame state m inside w) (side : Side) (trace : List Entry) (n : ℕ) where
  abbrev ended_to : Ended S → Ended T
  ended_to e = record { machine = same.to e.machine; place = e.place }

  abbrev Holds : ℕ → Type 0
  Holds k = (s : S) (own : List Numbered) → replay_from w side trace n k (same.to s) own ≡ ended_to (replay_from m side trace n k s own)

  either : (b : Bool) (x y : Ended S) {p q : Ended T} → p ≡ ended_to x → q ≡ ended_to y → (if b then p else q) ≡ ended_to (if b then x else y)
  either true x y one two = one
  either false x y one two = two

  access_to : (k : ℕ) → Holds k → (s : S) (op : Op) (own : List Numbered) →
      access_step w side (length trace) (same.to s) op own (replay_from w side trace n k) ≡ ended_to (access_step m side (length trace) s op own (replay_from m side trace n k))
  access_to k on s op [] = rw same.due
  access_to k on s op (x ∷ own) = rw same.due (either (is_that x.entry (m.due s) op) _ _ (rw same.next (on _ own)) refl)

  step_to : (k : ℕ) → Holds k → (s : S) (own : List Numbered) (o : Option Query) →
      one_step w side trace (same.to s) own o (replay_from w side trace n k) ≡ ended_to (one_step m side trace s own o (replay_from m side trace n k))
  step_to k on s own None = rw same.next (on _ own)
  step_to k on s own (Some look) = rw (same.due, same.next) (on _ own)
  step_to k on s own (Some (access op)) = access_to k on s op own

  replay_to : (k : ℕ) → Holds k
  replay_to zero s own = rw (closed_to same n s)
  replay_to (suc k) s own =
      rw (same.due, same.asks) (either (nat_lt (m.due s) n) _ _ (step_to k (replay_to k) s own (m.asks s)) (rw (closed_to same n s)))

  pub place_inside : (x : X) → (replay_of w side trace n (inside x)).place ≡ (replay_of m side trace n (state x)).place
  unfolding replay_of
  place_inside x = rw (← same.is x) (ap (λ (e : Ended T). e.place) (replay_to n (state x) (own_from side n 1 trace)))
