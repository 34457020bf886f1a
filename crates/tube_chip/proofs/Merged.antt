-- A rising list, put together again from its two sides.
use Rattle.std.proofs.Common.{◌≡◌, ◌∙◌, refl, ap, ℕ, ◌+◌, ◌≤◌, List, [], ◌∷◌, true, false, IsTrue, cond, arith}
use Rattle.std.proofs.lemmas.Bool.{lt-ltb, le-ltb}
use Rattle.std.proofs.lemmas.Bool.Decides.{nat_tests}
use Rattle.beeb_bits.specs.Order.{before}
use Rattle.beeb_bits.specs.declared.Side.{Side}
use Rattle.beeb_bits.specs.declared.Side.TheVariants.{Host, Para}
use Rattle.tube_chip.specs.Events.{Event, Rises, RisesAfter, merge, put_in, of_side, is_side}
use Rattle.tube_chip.specs.Laws.{RisingListIsMerge}

-- no event lies below the tick n
abbrev AllFrom : ℕ → List Event → Type 0
AllFrom n [] = Unit {0}
AllFrom n (e ∷ events) = (n ≤ e.tick) × AllFrom n events

AllFrom-lower : (m n : ℕ) (events : List Event) → m ≤ n → AllFrom n events → AllFrom m events
AllFrom-lower m n [] h all = tt
AllFrom-lower m n (e ∷ events) h all = (let t : n ≤ e.tick = all.0 in omega arith, AllFrom-lower m n events h all.1)

-- what follows a host's event lies at its tick or above, and what follows a parasite's above
abbrev first_tick : Side → ℕ → ℕ
first_tick Host tick = tick
first_tick Para tick = tick + 1

before-first : (a b : ℕ) (x y : Side) → IsTrue (before a x b y) → first_tick x a ≤ b
before-first a b x y h = grind (arith, nat_tests)

first-le : (x : Side) (a b : ℕ) → a ≤ b → a ≤ first_tick x b
first-le x a b h = grind arith

RisesAfter-first : (e : Event) (events : List Event) → RisesAfter e events → AllFrom (first_tick e.side e.tick) events
RisesAfter-first e [] rises = tt
RisesAfter-first e (f ∷ events) rises =
    let here : first_tick e.side e.tick ≤ f.tick = before-first e.tick f.tick e.side f.side rises.0 in
    (here, AllFrom-lower _ _ events (first-le f.side _ f.tick here) (RisesAfter-first f events rises.1))

pub rises_tail : (e : Event) (events : List Event) → RisesAfter e events → Rises events
rises_tail e [] rises = tt
rises_tail e (f ∷ events) rises = rises.1

AllFrom-side : (n : ℕ) (side : Side) (events : List Event) → AllFrom n events → AllFrom n (of_side side events)
AllFrom-side n side [] all = tt
AllFrom-side n side (e ∷ events) all =
    elim (is_side side e.side) as (λ b. AllFrom n (cond b (e ∷ of_side side events) (of_side side events))) [
      | true ↦ (all.0, AllFrom-side n side events all.1)
      | false ↦ AllFrom-side n side events all.1
    ]

-- a host's event that no parasite's precedes comes first
put_in-first : (a : Event) (rest : List Event → List Event) (para : List Event) → AllFrom a.tick para → put_in a rest para ≡ a ∷ rest para
put_in-first a rest [] all = refl
put_in-first a rest (b ∷ para) all = rw (le-ltb b.tick a.tick all.0)

-- so does a parasite's event that no host's precedes
merge-para : (e : Event) (host para : List Event) → AllFrom (e.tick + 1) host → merge host (e ∷ para) ≡ e ∷ merge host para
merge-para e [] para all = refl
merge-para e (a ∷ host) para all = rw (lt-ltb e.tick a.tick (omega (arith, all.0)))

abbrev both_sides : Event → Side → List Event → List Event
both_sides e side events =
    merge (cond (is_side Host side) (e ∷ of_side Host events) (of_side Host events)) (cond (is_side Para side) (e ∷ of_side Para events) (of_side Para events))

merge-cons : (e : Event) (side : Side) (events : List Event) → AllFrom (first_tick side e.tick) events →
    both_sides e side events ≡ e ∷ merge (of_side Host events) (of_side Para events)
merge-cons e Host events all = put_in-first e (merge (of_side Host events)) (of_side Para events) (AllFrom-side e.tick Para events all)
merge-cons e Para events all = merge-para e (of_side Host events) (of_side Para events) (AllFrom-side (e.tick + 1) Host events all)

pub merge-sides : RisingListIsMerge
merge-sides [] rises = refl
merge-sides (e ∷ events) rises =
    merge-cons e e.side events (RisesAfter-first e events rises)
    ∙ ap (λ rest. e ∷ rest) (merge-sides events (rises_tail e events rises))
