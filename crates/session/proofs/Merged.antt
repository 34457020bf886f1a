-- Each side's events of a merge are its own list.
use Rattle.std.proofs.Common.{ℕ, ◌≡◌, nat_lt, true, false, cond, refl, ◌∙◌, ap, List, [], ◌∷◌}
use Rattle.beeb_bits.specs.declared.Side.{Side}
use Rattle.beeb_bits.specs.declared.Side.TheVariants.{Host, Para}
use Rattle.tube_chip.specs.Events.{Event, merge, put_in, of_side}
use Rattle.tube_party.specs.Transitions.{Transitions, Runs, execution}
use Rattle.session.proofs.Runs.{along}

-- all events are of this side
abbrev pub Sided : Side → List Event → Type 0
Sided side [] = Unit {0}
Sided side (e ∷ events) = (e.side ≡ side) × Sided side events

-- the events of a run are of its side
pub sided : {S : Type 0} (r : Transitions S) (side : Side) (n k : ℕ) (s last : S) (a : List Event) → Runs r side n k s (execution a last) → Sided side a
sided r side n k s last a h = along r side n last (λ s b. Sided side b) tt (λ s b _ _ h. h) (λ s e b _ _ own _ h. (own, h)) k s a h

-- these are the events of each side
abbrev pub AreSplit : List Event → List Event → List Event → Type 0
AreSplit host para l = (of_side Host l ≡ host) × (of_side Para l ≡ para)

-- one more in front, of the host or of the parasite
host_on : (e : Event) (l : List Event) {host para : List Event} → e.side ≡ Host → AreSplit host para l → AreSplit (e ∷ host) para (e ∷ l)
host_on e l is r =
    let one : AreSplit (e ∷ of_side Host l) (of_side Para l) (e ∷ l) = rw is (refl, refl) in
    (one.0 ∙ ap (λ x. e ∷ x) r.0, one.1 ∙ r.1)

para_on : (e : Event) (l : List Event) {host para : List Event} → e.side ≡ Para → AreSplit host para l → AreSplit host (e ∷ para) (e ∷ l)
para_on e l is r =
    let one : AreSplit (of_side Host l) (e ∷ of_side Para l) (e ∷ l) = rw is (refl, refl) in
    (one.0 ∙ r.0, one.1 ∙ ap (λ x. e ∷ x) r.1)

all_of_para : (b : List Event) → Sided Para b → AreSplit [] b b
all_of_para [] h = (refl, refl)
all_of_para (x ∷ b) h = para_on x b h.0 (all_of_para b h.1)

put : (e : Event) (rest : List Event → List Event) (host : List Event) → e.side ≡ Host → ((b : List Event) → Sided Para b → AreSplit host b (rest b))
    → (b : List Event) → Sided Para b → AreSplit (e ∷ host) b (put_in e rest b)
put e rest host own on [] h = host_on e (rest []) own (on [] h)
put e rest host own on (x ∷ b) h =
    elim (nat_lt x.tick e.tick) as (λ c. AreSplit (e ∷ host) (x ∷ b) (cond c (x ∷ put_in e rest b) (e ∷ rest (x ∷ b)))) [
      | true ↦ para_on x (put_in e rest b) h.0 (put e rest host own on b h.1)
      | false ↦ host_on e (rest (x ∷ b)) own (on (x ∷ b) h)
    ]

pub split : (a : List Event) → Sided Host a → (b : List Event) → Sided Para b → AreSplit a b (merge a b)
split [] own b other = all_of_para b other
split (e ∷ a) own b other = put e (merge a) a own.0 (split a own.1) b other
