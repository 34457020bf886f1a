-- On lists alone: an event after every event of both lists joins the end of their merge, and keeps
-- it legal if its answer is the chip's. A host's event that does not change what the parasite
-- observes may also come before observations of the parasite.
use Rattle.std.proofs.Common.{◌≡◌, ℕ, ◌+◌, ◌<◌, ◌≤◌, nat_lt, Bool, true, false, IsTrue, cond, List, [], ◌∷◌, ◌++◌, All, refl, sym, ap, ◌∙◌, subst, arith}
use Rattle.std.specs.Prelude.{slice_index_or}
use Rattle.std.proofs.lemmas.List.Elements.{All-nil, All-cons, All-head, All-tail, All-weaker}
use Rattle.std.proofs.lemmas.Bool.Decides.{nat_tests}
use Rattle.beeb_bits.specs.Order.{before}
use Rattle.beeb_bits.specs.declared.Side.{Side}
use Rattle.beeb_bits.specs.declared.Side.TheVariants.{Host, Para}
use Rattle.tube_chip.specs.State.{State, power_on}
use Rattle.tube_chip.specs.Events.{Event, IsBefore, Rises, RisesAfter, IsAnsweredFrom, IsLegal, after, after_from, merge, put_in}
use Rattle.tube_cell.specs.Views.{AllBelow, past_last, below, is_observation, chip_after_event, Answers}
use Rattle.tube_cell.proofs.Observed.{observed_stays, ShowsSame, same_answer}

-- by how much the tick has to rise from an event of one side to one of the other
unfoldable pub gap : Side → Side → ℕ
gap Host Para = 0
gap Host Host = 1
gap Para s = 1

-- e comes after x
abbrev pub Precedes : Event → Event → Type 0
Precedes e x = x.tick + gap x.side e.side ≤ e.tick

before_of : (a b : ℕ) (x y : Side) → a + gap x y ≤ b → IsTrue (before a x b y)
unfolding gap
before_of a b x y h = grind (arith, nat_tests)

is_before : (x e : Event) → Precedes e x → IsBefore x e
is_before x e h = before_of x.tick e.tick x.side e.side h

pub nat_lt-false : (m n : ℕ) → n ≤ m → nat_lt m n ≡ false
nat_lt-false m n h = grind (arith, nat_tests)

pub nat_lt-true : (m n : ℕ) → m < n → nat_lt m n ≡ true
nat_lt-true m n h = grind (arith, nat_tests)

-- ---- lists below a tick

pub low_nil : {t : ℕ} → AllBelow t []
low_nil {t} = All-nil (λ e. e.tick < t)

pub low_cons : {t : ℕ} (x : Event) (xs : List Event) → x.tick < t → AllBelow t xs → AllBelow t (x ∷ xs)
low_cons {t} = All-cons (λ e. e.tick < t)

pub low_head : {t : ℕ} (x : Event) (xs : List Event) → AllBelow t (x ∷ xs) → x.tick < t
low_head {t} = All-head (λ e. e.tick < t)

pub low_tail : {t : ℕ} (x : Event) (xs : List Event) → AllBelow t (x ∷ xs) → AllBelow t xs
low_tail {t} = All-tail (λ e. e.tick < t)

pub lower : {t u : ℕ} (xs : List Event) → AllBelow t xs → t ≤ u → AllBelow u xs
lower xs all le i d lt = let l = all i d lt in omega arith

-- ---- the host's event joins the end of the merge

-- after all of the parasite's, if each lies below it
put_in-end : (e : Event) (rest : List Event → List Event) (ys : List Event) → AllBelow e.tick ys → put_in e rest ys ≡ ys ++ e ∷ rest []
put_in-end e rest [] all = refl
put_in-end e rest (y ∷ ys) all =
    rw (nat_lt-true y.tick e.tick (low_head y ys all)) (ap (λ l. y ∷ l) (put_in-end e rest ys (low_tail y ys all)))

put_in-on : (P : Event → Type 0) (x e : Event) (f g : List Event → List Event) (ys : List Event) → All P ys → ((zs : List Event) → All P zs → g zs ≡ f zs ++ e ∷ [])
    → put_in x g ys ≡ put_in x f ys ++ e ∷ []
put_in-on P x e f g [] all same = ap (λ l. x ∷ l) (same [] (All-nil P))
put_in-on P x e f g (y ∷ ys) all same =
    elim (nat_lt y.tick x.tick) as (λ b. cond b (y ∷ put_in x g ys) (x ∷ g (y ∷ ys)) ≡ cond b (y ∷ put_in x f ys) (x ∷ f (y ∷ ys)) ++ e ∷ []) [
      | true ↦ ap (λ l. y ∷ l) (put_in-on P x e f g ys (All-tail P y ys all) same)
      | false ↦ ap (λ l. x ∷ l) (same (y ∷ ys) all)
    ]

joins_first : (xs ys : List Event) (e : Event) → AllBelow e.tick ys → merge (xs ++ e ∷ []) ys ≡ merge xs ys ++ e ∷ []
joins_first [] ys e all = put_in-end e (merge []) ys all
joins_first (x ∷ xs) ys e all = put_in-on (λ y. y.tick < e.tick) x e (merge xs) (merge (xs ++ e ∷ [])) ys all (λ zs all'. joins_first xs zs e all')

-- ---- so does the parasite's

put_in-behind : (x e : Event) (f : List Event → List Event) (ys : List Event) → x.tick ≤ e.tick → ((zs : List Event) → f (zs ++ e ∷ []) ≡ f zs ++ e ∷ [])
    → put_in x f (ys ++ e ∷ []) ≡ put_in x f ys ++ e ∷ []
put_in-behind x e f [] le same = rw (nat_lt-false e.tick x.tick le) (ap (λ l. x ∷ l) (same []))
put_in-behind x e f (y ∷ ys) le same =
    elim (nat_lt y.tick x.tick) as (λ b. cond b (y ∷ put_in x f (ys ++ e ∷ [])) (x ∷ f (y ∷ (ys ++ e ∷ []))) ≡ cond b (y ∷ put_in x f ys) (x ∷ f (y ∷ ys)) ++ e ∷ []) [
      | true ↦ ap (λ l. y ∷ l) (put_in-behind x e f ys le same)
      | false ↦ ap (λ l. x ∷ l) (same (y ∷ ys))
    ]

joins_second : (xs ys : List Event) (e : Event) → All (λ x. x.tick ≤ e.tick) xs → merge xs (ys ++ e ∷ []) ≡ merge xs ys ++ e ∷ []
joins_second [] ys e all = refl
joins_second (x ∷ xs) ys e all =
    put_in-behind x e (merge xs) ys (All-head (λ x. x.tick ≤ e.tick) x xs all) (λ zs. joins_second xs zs e (All-tail (λ x. x.tick ≤ e.tick) x xs all))

-- ---- legal lists

All-put_in : (P : Event → Type 0) (x : Event) (f : List Event → List Event) (ys : List Event) → P x → All P ys → ((zs : List Event) → All P zs → All P (f zs)) → All P (put_in x f ys)
All-put_in P x f [] p all rest = All-cons P x (f []) p (rest [] (All-nil P))
All-put_in P x f (y ∷ ys) p all rest =
    elim (nat_lt y.tick x.tick) as (λ b. All P (cond b (y ∷ put_in x f ys) (x ∷ f (y ∷ ys)))) [
      | true ↦ All-cons P y (put_in x f ys) (All-head P y ys all) (All-put_in P x f ys p (All-tail P y ys all) rest)
      | false ↦ All-cons P x (f (y ∷ ys)) p (rest (y ∷ ys) all)
    ]

All-merge : (P : Event → Type 0) (xs ys : List Event) → All P xs → All P ys → All P (merge xs ys)
All-merge P [] ys first second = second
All-merge P (x ∷ xs) ys first second =
    All-put_in P x (merge xs) ys (All-head P x xs first) second (λ zs all. All-merge P xs zs (All-tail P x xs first) all)

rises_after-on : (x e : Event) (xs : List Event) → RisesAfter x xs → IsBefore x e → All (Precedes e) xs → RisesAfter x (xs ++ e ∷ [])
rises_after-on x e [] rises here all = (here, tt)
rises_after-on x e (y ∷ ys) rises here all =
    (rises.0, rises_after-on y e ys rises.1 (is_before y e (All-head (Precedes e) y ys all)) (All-tail (Precedes e) y ys all))

rises-on : (xs : List Event) (e : Event) → Rises xs → All (Precedes e) xs → Rises (xs ++ e ∷ [])
rises-on [] e rises all = tt
rises-on (x ∷ xs) e rises all = rises_after-on x e xs rises (is_before x e (All-head (Precedes e) x xs all)) (All-tail (Precedes e) x xs all)

pub after-on : (c : State) (xs : List Event) (e : Event) → after_from c (xs ++ e ∷ []) ≡ chip_after_event (after_from c xs) e
after-on c [] e = refl
after-on c (x ∷ xs) e = after-on (chip_after_event c x) xs e

answered-on : (c : State) (xs : List Event) (e : Event) → IsAnsweredFrom c xs → Answers (after_from c xs) e → IsAnsweredFrom c (xs ++ e ∷ [])
answered-on c [] e all here = (here, tt)
answered-on c (x ∷ xs) e all here = (all.0, answered-on (chip_after_event c x) xs e all.1 here)

legal-on : {xs : List Event} (e : Event) → IsLegal xs → All (Precedes e) xs → Answers (after xs) e → IsLegal (xs ++ e ∷ [])
legal-on {xs} e legal all here = record { rises = rises-on xs e legal.rises all; answered = answered-on power_on xs e legal.answered here }

-- ---- the parasite's event at the end

pub joins_para : (xs ys : List Event) (e : Event) → All (Precedes e) xs → merge xs (ys ++ e ∷ []) ≡ merge xs ys ++ e ∷ []
joins_para xs ys e all = joins_second xs ys e (All-weaker (Precedes e) (λ x. x.tick ≤ e.tick) (λ x h. omega arith) xs all)

pub legal_end : (xs ys : List Event) (e : Event) → All (Precedes e) xs → All (Precedes e) ys → IsLegal (merge xs ys) → Answers (after (merge xs ys)) e → IsLegal (merge xs ys ++ e ∷ [])
legal_end xs ys e first second legal here = legal-on e legal (All-merge (Precedes e) xs ys first second) here

pub past_last-on : (xs : List Event) (e : Event) → past_last (xs ++ e ∷ []) ≡ e.tick + 1
past_last-on [] e = refl
past_last-on (x ∷ []) e = refl
past_last-on (x ∷ y ∷ ys) e = past_last-on (y ∷ ys) e

-- ---- the host's event before the first one at its tick or later

pub nat_lt-from_true : (m n : ℕ) → nat_lt m n ≡ true → m < n
nat_lt-from_true m n e = grind (arith, nat_tests)

-- by whether one number is below another
pub by_lt : (m n : ℕ) (P : Bool → Type 0) → (m < n → P true) → (n ≤ m → P false) → P (nat_lt m n)
by_lt m n P first second = grind (arith, nat_tests)

-- the list with e before its first event at e's tick or later
abbrev pub placed : Event → List Event → List Event
placed e xs = put_in e (λ zs. zs) xs

placed-in : (x e : Event) (f g : List Event → List Event) (ys : List Event) → x.tick < e.tick → ((zs : List Event) → g zs ≡ placed e (f zs)) → put_in x g ys ≡ placed e (put_in x f ys)
placed-in x e f g [] lt same = rw (nat_lt-true x.tick e.tick lt) (ap (λ l. x ∷ l) (same []))
placed-in x e f g (y ∷ ys) lt same =
    by_lt y.tick x.tick (λ b. cond b (y ∷ put_in x g ys) (x ∷ g (y ∷ ys)) ≡ placed e (cond b (y ∷ put_in x f ys) (x ∷ f (y ∷ ys))))
    (λ first. rw (nat_lt-true y.tick e.tick (omega arith)) (ap (λ l. y ∷ l) (placed-in x e f g ys lt same)))
    (λ le. rw (nat_lt-true x.tick e.tick lt) (ap (λ l. x ∷ l) (same (y ∷ ys))))

pub joins_placed : (xs ys : List Event) (e : Event) → AllBelow e.tick xs → merge (xs ++ e ∷ []) ys ≡ placed e (merge xs ys)
joins_placed [] ys e all = refl
joins_placed (x ∷ xs) ys e all =
    placed-in x e (merge xs) (merge (xs ++ e ∷ [])) ys (low_head x xs all) (λ zs. joins_placed xs zs e (low_tail x xs all))

-- ---- observations after it

before_le : (a b : ℕ) (x y : Side) → IsTrue (before a x b y) → a ≤ b
before_le a b x y h = grind (arith, nat_tests)

-- what may change the chip lies below this tick
abbrev pub Early : ℕ → Event → Type 0
Early t x = is_observation x.query ≡ false → x.tick < t

abbrev IsObservation : Event → Type 0
IsObservation x = is_observation x.query ≡ true

not_false : (b : Bool) → (b ≡ false → ⊥) → b ≡ true
not_false true never = refl
not_false false never = absurd (never refl)

late_observation : (t : ℕ) (x : Event) → Early t x → t ≤ x.tick → IsObservation x
late_observation t x early late = not_false (is_observation x.query) (λ is. let l = early is in absurd (omega arith))

-- from an event on that is not below the tick, none is
late_from : (t : ℕ) (x : Event) (xs : List Event) → RisesAfter x xs → t ≤ x.tick → All (λ y. t ≤ y.tick) (x ∷ xs)
late_from t x [] rises late = All-cons (λ y. t ≤ y.tick) x [] late (All-nil (λ y. t ≤ y.tick))
late_from t x (y ∷ ys) rises late =
    let le = before_le x.tick y.tick x.side y.side rises.0 in
    All-cons (λ z. t ≤ z.tick) x (y ∷ ys) late (late_from t y ys rises.1 (omega arith))

-- and all are observations
observations_from : (t : ℕ) (x : Event) (xs : List Event) → RisesAfter x xs → t ≤ x.tick → All (Early t) (x ∷ xs) → All IsObservation (x ∷ xs)
observations_from t x xs rises late all = λ i d lt. late_observation t (slice_index_or (x ∷ xs) i d) (all i d lt) (late_from t x xs rises late i d lt)

after_observations : (c : State) (xs : List Event) → All IsObservation xs → after_from c xs ≡ c
after_observations c [] all = refl
after_observations c (x ∷ xs) all =
    ap (λ d. after_from d xs) (observed_stays c x.side x.query (All-head IsObservation x xs all)) ∙ after_observations c xs (All-tail IsObservation x xs all)

abbrev IsPara : Event → Type 0
IsPara x = x.side ≡ Para

answered_observations : (c d : State) (xs : List Event) → ShowsSame c d → All IsObservation xs → All IsPara xs → IsAnsweredFrom c xs → IsAnsweredFrom d xs
answered_observations c d [] same all para h = tt
answered_observations c d (x ∷ xs) same all para h =
    let is = All-head IsObservation x xs all in
    let stays : (e : State) → chip_after_event e x ≡ e = λ e. observed_stays e x.side x.query is in (
      rw (All-head IsPara x xs para) (same_answer c d x.query same is) ∙ h.0,
      subst (λ e. IsAnsweredFrom e xs) (sym (stays d))
          (answered_observations c d xs same (All-tail IsObservation x xs all) (All-tail IsPara x xs para) (rw (stays c) at h.1)),
    )

rises_of : (x : Event) (xs : List Event) → RisesAfter x xs → Rises xs
rises_of x [] h = tt
rises_of x (y ∷ ys) h = h.1

-- ---- a list with the host's event put into it

abbrev pub Behind : ℕ → Event → Type 0
Behind t x = t ≤ x.tick → x.side ≡ Para

gap_one : (s t : Side) → gap s t ≤ 1
unfolding gap
gap_one s t = grind arith

pub precedes_below : (e x : Event) → x.tick < e.tick → Precedes e x
precedes_below e x lt = let g = gap_one x.side e.side in omega arith

goes_first : (e x : Event) → e.side ≡ Host → e.tick ≤ x.tick → x.side ≡ Para → IsBefore e x
goes_first e x host le para = grind (arith, nat_tests)

rises_after-placed : (z : Event) (xs : List Event) (e : Event) → e.side ≡ Host → RisesAfter z xs → IsBefore z e → All (Behind e.tick) xs → RisesAfter z (placed e xs)
rises_after-placed z [] e host rises here all = (here, tt)
rises_after-placed z (x ∷ xs) e host rises here all =
    by_lt x.tick e.tick (λ b. RisesAfter z (cond b (x ∷ placed e xs) (e ∷ x ∷ xs)))
    (λ lt. (rises.0, rises_after-placed x xs e host rises.1 (is_before x e (precedes_below e x lt)) (All-tail (Behind e.tick) x xs all)))
    (λ le. (here, (goes_first e x host le (All-head (Behind e.tick) x xs all le), rises.1)))

rises-placed : (xs : List Event) (e : Event) → e.side ≡ Host → Rises xs → All (Behind e.tick) xs → Rises (placed e xs)
rises-placed [] e host rises all = tt
rises-placed (x ∷ xs) e host rises all =
    by_lt x.tick e.tick (λ b. Rises (cond b (x ∷ placed e xs) (e ∷ x ∷ xs)))
    (λ lt. rises_after-placed x xs e host rises (is_before x e (precedes_below e x lt)) (All-tail (Behind e.tick) x xs all))
    (λ le. (goes_first e x host le (All-head (Behind e.tick) x xs all le), rises))

answered-placed : (c : State) (xs : List Event) (e : Event) → Rises xs → All (Early e.tick) xs → All (Behind e.tick) xs → IsAnsweredFrom c xs → Answers (after_from c xs) e
    → ShowsSame (after_from c xs) (chip_after_event (after_from c xs) e) → IsAnsweredFrom c (placed e xs)
answered-placed c [] e rises early behind all here same = (here, tt)
answered-placed c (x ∷ xs) e rises early behind all here same =
    by_lt x.tick e.tick (λ b. IsAnsweredFrom c (cond b (x ∷ placed e xs) (e ∷ x ∷ xs)))
    (λ lt. (all.0, answered-placed (chip_after_event c x) xs e (rises_of x xs rises) (All-tail (Early e.tick) x xs early) (All-tail (Behind e.tick) x xs behind) all.1 here same))
    (λ le. let seen = observations_from e.tick x xs rises le early in
    let para : All IsPara (x ∷ xs) = λ i d lt. behind i d lt (late_from e.tick x xs rises le i d lt) in
    let stays = after_observations c (x ∷ xs) seen in
    (rw stays at here, answered_observations c (chip_after_event c e) (x ∷ xs) (rw stays at same) seen para all))

after-placed : (c : State) (xs : List Event) (e : Event) → Rises xs → All (Early e.tick) xs → after_from c (placed e xs) ≡ chip_after_event (after_from c xs) e
after-placed c [] e rises early = refl
after-placed c (x ∷ xs) e rises early =
    by_lt x.tick e.tick (λ b. after_from c (cond b (x ∷ placed e xs) (e ∷ x ∷ xs)) ≡ chip_after_event (after_from (chip_after_event c x) xs) e)
    (λ lt. after-placed (chip_after_event c x) xs e (rises_of x xs rises) (All-tail (Early e.tick) x xs early))
    (λ le. let seen = observations_from e.tick x xs rises le early in
    after_observations (chip_after_event c e) (x ∷ xs) seen ∙ sym (ap (λ d. chip_after_event d e) (after_observations c (x ∷ xs) seen)))

-- The host's event joins its list after all of the list, and after all of the parasite's that may
-- change the chip. If it does not change what the parasite observes, observations of the parasite
-- may follow it.
pub legal_placed : (xs ys : List Event) (e : Event) → e.side ≡ Host → AllBelow e.tick xs → All (λ y. y.side ≡ Para) ys → All (Early e.tick) ys → IsLegal (merge xs ys)
    → Answers (after (merge xs ys)) e → ShowsSame (after (merge xs ys)) (chip_after_event (after (merge xs ys)) e)
    → IsLegal (merge (xs ++ e ∷ []) ys) × (after (merge (xs ++ e ∷ []) ys) ≡ chip_after_event (after (merge xs ys)) e)
legal_placed xs ys e host low para early legal here same =
    let joined = joins_placed xs ys e low in
    let early' = All-merge (Early e.tick) xs ys (All-weaker (λ x. x.tick < e.tick) (Early e.tick) (λ x l _. l) xs low) early in
    let behind = All-merge (Behind e.tick) xs ys (All-weaker (λ x. x.tick < e.tick) (Behind e.tick) (λ x l le. absurd (omega arith)) xs low)
    (All-weaker (λ y. y.side ≡ Para) (Behind e.tick) (λ y p _. p) ys para) in (
      subst IsLegal (sym joined) (record {
        rises = rises-placed (merge xs ys) e host legal.rises behind;
        answered = answered-placed power_on (merge xs ys) e legal.rises early' behind legal.answered here same;
      }),
      ap after joined ∙ after-placed power_on (merge xs ys) e legal.rises early',
    )

-- ---- a list cut at a tick

pub All-below : (P : Event → Type 0) (t : ℕ) (xs : List Event) → All P xs → All P (below t xs)
All-below P t [] all = All-nil P
All-below P t (x ∷ xs) all = elim (nat_lt x.tick t) as (λ b. All P (cond b (x ∷ below t xs) [])) [
  | true ↦ All-cons P x (below t xs) (All-head P x xs all) (All-below P t xs (All-tail P x xs all))
  | false ↦ All-nil P
]

pub below_lies : (t : ℕ) (xs : List Event) → AllBelow t (below t xs)
below_lies t [] = low_nil
below_lies t (x ∷ xs) =
    by_lt x.tick t (λ b. AllBelow t (cond b (x ∷ below t xs) []))
    (λ lt. low_cons x (below t xs) lt (below_lies t xs))
    (λ le. low_nil)

pub below_append : (t : ℕ) (xs ys : List Event) → AllBelow t xs → below t (xs ++ ys) ≡ xs ++ below t ys
below_append t [] ys all = refl
below_append t (x ∷ xs) ys all =
    rw (nat_lt-true x.tick t (low_head x xs all)) (ap (λ l. x ∷ l) (below_append t xs ys (low_tail x xs all)))

below-put_in : (t : ℕ) (x : Event) (f : List Event → List Event) (ys : List Event) → x.tick < t
    → ((zs : List Event) → below t (f zs) ≡ f (below t zs)) → below t (put_in x f ys) ≡ put_in x f (below t ys)
below-put_in t x f [] lt same = rw (nat_lt-true x.tick t lt) (ap (λ l. x ∷ l) (same []))
below-put_in t x f (y ∷ ys) lt same =
    (elim (nat_lt y.tick x.tick) as (λ b. nat_lt y.tick x.tick ≡ b → below t (cond b (y ∷ put_in x f ys) (x ∷ f (y ∷ ys))) ≡ put_in x f (below t (y ∷ ys))) [
      | true ↦ λ h.
          let l = nat_lt-from_true y.tick x.tick h in
          rw (nat_lt-true y.tick t (omega arith)) (rw h (ap (λ l. y ∷ l) (below-put_in t x f ys lt same)))
      | false ↦ λ h.
          rw (nat_lt-true x.tick t lt) (ap (λ l. x ∷ l) (same (y ∷ ys)) ∙ sym (stands (nat_lt y.tick t) (below t ys) h))
    ]) refl
  where
    stands : (b : Bool) (zs : List Event) → nat_lt y.tick x.tick ≡ false → put_in x f (cond b (y ∷ zs) []) ≡ x ∷ f (cond b (y ∷ zs) [])
    stands true zs h = rw h refl
    stands false zs h = refl

below-merge : (t : ℕ) (xs ys : List Event) → AllBelow t xs → below t (merge xs ys) ≡ merge xs (below t ys)
below-merge t [] ys all = refl
below-merge t (x ∷ xs) ys all = below-put_in t x (merge xs) ys (low_head x xs all) (λ zs. below-merge t xs zs (low_tail x xs all))

rises_after-below : (t : ℕ) (z : Event) (xs : List Event) → RisesAfter z xs → RisesAfter z (below t xs)
rises_after-below t z [] h = tt
rises_after-below t z (x ∷ xs) h = elim (nat_lt x.tick t) as (λ b. RisesAfter z (cond b (x ∷ below t xs) [])) [
  | true ↦ (h.0, rises_after-below t x xs h.1)
  | false ↦ tt
]

rises-below : (t : ℕ) (xs : List Event) → Rises xs → Rises (below t xs)
rises-below t [] h = tt
rises-below t (x ∷ xs) h = elim (nat_lt x.tick t) as (λ b. Rises (cond b (x ∷ below t xs) [])) [
  | true ↦ rises_after-below t x xs h
  | false ↦ tt
]

answered-below : (t : ℕ) (c : State) (xs : List Event) → IsAnsweredFrom c xs → IsAnsweredFrom c (below t xs)
answered-below t c [] h = tt
answered-below t c (x ∷ xs) h = elim (nat_lt x.tick t) as (λ b. IsAnsweredFrom c (cond b (x ∷ below t xs) [])) [
  | true ↦ (h.0, answered-below t (chip_after_event c x) xs h.1)
  | false ↦ tt
]

after-below : (t : ℕ) (c : State) (xs : List Event) → Rises xs → All (Early t) xs → after_from c (below t xs) ≡ after_from c xs
after-below t c [] rises early = refl
after-below t c (x ∷ xs) rises early =
    by_lt x.tick t (λ b. after_from c (cond b (x ∷ below t xs) []) ≡ after_from (chip_after_event c x) xs)
    (λ lt. after-below t (chip_after_event c x) xs (rises_of x xs rises) (All-tail (Early t) x xs early))
    (λ le. sym (after_observations c (x ∷ xs) (observations_from t x xs rises le early)))

-- The host's event joins its list, and the parasite's list is cut at its tick: only observations
-- are dropped.
pub legal_cut : (xs ys : List Event) (e : Event) → AllBelow e.tick xs → All (Early e.tick) ys → IsLegal (merge xs ys) → Answers (after (merge xs ys)) e
    → IsLegal (merge (xs ++ e ∷ []) (below e.tick ys)) × (after (merge (xs ++ e ∷ []) (below e.tick ys)) ≡ chip_after_event (after (merge xs ys)) e)
legal_cut xs ys e low early legal here =
    let all = merge xs ys in
    let t = e.tick in
    let joined : merge (xs ++ e ∷ []) (below t ys) ≡ below t all ++ e ∷ [] = joins_first xs (below t ys) e (below_lies t ys) ∙ ap (λ l. l ++ e ∷ []) (sym (below-merge t xs ys low)) in
    let early' = All-merge (Early t) xs ys (All-weaker (λ x. x.tick < t) (Early t) (λ x l _. l) xs low) early in
    let same : after (below t all) ≡ after all = after-below t power_on all legal.rises early' in
    let precede = All-weaker (λ x. x.tick < t) (Precedes e) (precedes_below e) (below t all) (below_lies t all) in
    let short : IsLegal (below t all) = record { rises = rises-below t all legal.rises; answered = answered-below t power_on all legal.answered } in (
      subst IsLegal (sym joined) (legal-on e short precede (rw same here)),
      ap after joined ∙ after-on power_on (below t all) e ∙ ap (λ d. chip_after_event d e) same,
    )
