-- A list of events as the chip answers it, one more event at a time.
use Rattle.std.proofs.Common.{ℕ, ◌≡◌, refl, sym, ◌∙◌, ap, arith, List, [], ◌∷◌, ◌++◌}
use Rattle.std.specs.Prelude.{All, IsTrue}
use Rattle.std.proofs.lemmas.List.Elements.{All-head, All-tail, All-push}
use Rattle.std.proofs.lemmas.Bool.Decides.{nat_tests}
use Rattle.beeb_bits.specs.Order.{before}
use Rattle.beeb_bits.specs.declared.Side.{Side}
use Rattle.tube_chip.specs.State.{State, power_on}
use Rattle.tube_chip.specs.Act.{Query, act}
use Rattle.tube_chip.specs.Events.{Event, IsBefore, Rises, RisesAfter, IsAnsweredFrom, after, after_from}
use Rattle.tube_party.proofs.Runs.{event}

-- the event is before what the side does at tick k
abbrev pub IsEarlier : ℕ → Side → Event → Type 0
IsEarlier k side e = IsTrue (before e.tick e.side k side)

pub before-then : (a b c : ℕ) (x y z : Side) → IsTrue (before a x b y) → IsTrue (before b y c z) → IsTrue (before a x c z)
before-then a b c x y z one two = grind (arith, nat_tests)

-- a list, with all of it before what the side does at tick k
pub record Listed (k : ℕ) (side : Side) (c : State) (l : List Event) : Type 0 where
  pub rises : Rises l
  pub answered : IsAnsweredFrom power_on l
  pub chip : c ≡ after l
  pub earlier : All (IsEarlier k side) l

pub listed_on : (k i : ℕ) (side to : Side) (c : State) (l : List Event) → IsTrue (before k side i to) → Listed k side c l → Listed i to c l
listed_on k i side to c l le x = grind (arith, nat_tests)

rises_after-push : (f : Event) (l : List Event) (e : Event) → RisesAfter f l → IsBefore f e → All (λ g. IsBefore g e) l → RisesAfter f (l ++ e ∷ [])
rises_after-push f [] e h first others = (first, tt)
rises_after-push f (g ∷ l) e h first others =
    (h.0, rises_after-push g l e h.1 (All-head (λ x. IsBefore x e) g l others) (All-tail (λ x. IsBefore x e) g l others))

rises-push : (l : List Event) (e : Event) → Rises l → All (λ g. IsBefore g e) l → Rises (l ++ e ∷ [])
rises-push [] e h others = tt
rises-push (f ∷ l) e h others = rises_after-push f l e h (All-head (λ x. IsBefore x e) f l others) (All-tail (λ x. IsBefore x e) f l others)

answered-push : (c : State) (l : List Event) (e : Event) → IsAnsweredFrom c l → (act (after_from c l) e.side e.query).1 ≡ e.answer → IsAnsweredFrom c (l ++ e ∷ [])
answered-push c [] e h is = (is, tt)
answered-push c (f ∷ l) e h is = (h.0, answered-push (act c f.side f.query).0 l e h.1 is)

pub after-push : (c : State) (l : List Event) (e : Event) → after_from c (l ++ e ∷ []) ≡ (act (after_from c l) e.side e.query).0
after-push c [] e = refl
after-push c (f ∷ l) e = after-push (act c f.side f.query).0 l e

-- one more event, as the chip answers it
pub listed_more : (k i : ℕ) (side to : Side) (c : State) (l : List Event) (q : Query) → IsTrue (before k side i to) → Listed k side c l →
    Listed i to (act c side q).0 (l ++ event k side q (act c side q).1 ∷ [])
listed_more k i side to c l q le x =
    let e : Event = event k side q (act c side q).1 in
    let on : Listed i to c l = listed_on k i side to c l le x in
    record {
      rises = rises-push l e x.rises x.earlier;
      answered = answered-push power_on l e x.answered (ap (λ d. (act d side q).1) (sym x.chip));
      chip = ap (λ d. (act d side q).0) x.chip ∙ sym (after-push power_on l e);
      earlier = All-push (IsEarlier i to) l e on.earlier le;
    }
