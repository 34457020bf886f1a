-- A run up to tick n has at most n states, and each of its starts is below n.
use Rattle.std.proofs.Common.{ℕ, zero, suc, ◌≡◌, ◌≤◌, nat_lt, arith, List, [], ◌∷◌, length, map, Bool, true, false, Option, None, Some, if◌then◌else◌, refl}
use Rattle.std.specs.Prelude.{All, filter}
use Rattle.std.proofs.lemmas.Bool.Decides.{nat_tests}
use Rattle.std.proofs.lemmas.List.Elements.{All-nil, All-cons, All-head, All-tail}
use Rattle.beeb_bits.specs.declared.Side.{Side}
use Rattle.tube_chip.specs.declared.Op.{Op}
use Rattle.tube_chip.specs.Act.{Query, access, look}
use Rattle.tube_trace.specs.declared.Entry.{Entry}
use Rattle.tube_party.specs.Transitions.{Transitions}
use Rattle.tube_party.specs.Replay.{Numbered, own_from, is_that}
use Rattle.follow.specs.declared.choice.Choice.{Choice}
use Rattle.follow.specs.Sight.{Sight}
use Rattle.follow.specs.Start.{StartState, start_of}
use Rattle.follow.specs.Counts.{is_counted, counted_of}
use Rattle.follow.specs.Listing.{access_run, step_run, run_from, run_of, starts_of}
use Rattle.follow.proofs.Tallying.{IsBelow, few_there}

module _ {S : Type 0} (m : Transitions S) (side : Side) (trace : List Entry) (n : ℕ) where
  abbrev IsLow : S → Type 0
  IsLow s = m.due s ≤ n

  -- at most k states, and the step of each is due at tick n or before
  record IsShort (k : ℕ) (states : List S) : Type 0 where
    few : length states ≤ k
    low : All IsLow states

  none_short : (k : ℕ) → IsShort k []
  none_short k = record { few = omega arith; low = All-nil IsLow }

  one_more : (k : ℕ) (s : S) (states : List S) → IsLow s → IsShort k states → IsShort (suc k) (s ∷ states)
  one_more k s states low short = record { few = omega (arith, short.few); low = All-cons IsLow s states low short.low }

  if_short : (b : Bool) (k : ℕ) (states : List S) → (b ≡ true → IsShort k states) → IsShort k (if b then states else [])
  if_short true k states short = short refl
  if_short false k states short = none_short k

  abbrev Holds : ℕ → Type 0
  Holds k = (s : S) (own : List Numbered) → IsShort k (run_from m side trace n k s own)

  access_short : (k : ℕ) → Holds k → (s : S) (op : Op) (own : List Numbered) → IsLow s → IsShort (suc k) (access_run m s op own (run_from m side trace n k))
  access_short k on s op [] low = none_short (suc k)
  access_short k on s op (x ∷ own) low = if_short (is_that x.entry (m.due s) op) (suc k) _ (λ is. one_more k s _ low (on _ own))

  step_short : (k : ℕ) → Holds k → (s : S) (own : List Numbered) (o : Option Query) → IsLow s → IsShort (suc k) (step_run m side trace s own o (run_from m side trace n k))
  step_short k on s own None low = one_more k s _ low (on _ own)
  step_short k on s own (Some look) low = one_more k s _ low (on _ own)
  step_short k on s own (Some (access op)) low = access_short k on s op own low

  run_short : (k : ℕ) → Holds k
  run_short zero s own = none_short zero
  run_short (suc k) s own =
      if_short (nat_lt (m.due s) n) (suc k) _ (λ is. step_short k (run_short k) s own (m.asks s) (let low : m.due s ≤ n = grind (arith, nat_tests) in low))

  -- ---- the starts of some states

  module _ (sights : S → Sight) (watch : Option ℕ) where
    starts_few_by : (b : Bool) (s : S) (some : List S) (k : ℕ) → length (map (λ x. start_of m sights watch x) some) ≤ k
        → length (map (λ x. start_of m sights watch x) (if b then s ∷ some else some)) ≤ suc k
    starts_few_by true s some k le = omega (arith, le)
    starts_few_by false s some k le = omega (arith, le)

    starts_few : (states : List S) → length (starts_of m sights watch states) ≤ length states
    starts_few [] = omega arith
    starts_few (s ∷ states) = starts_few_by (sights s).starting s (filter (λ x. (sights x).starting) states) (length states) (starts_few states)

    starts_low_by : (b : Bool) (s : S) (some : List S) → m.due s ≤ 1073741824 → All IsBelow (map (λ x. start_of m sights watch x) some)
        → All IsBelow (map (λ x. start_of m sights watch x) (if b then s ∷ some else some))
    starts_low_by true s some here low = All-cons IsBelow (start_of m sights watch s) _ here low
    starts_low_by false s some here low = low

    starts_low : (states : List S) → n ≤ 1073741824 → All IsLow states → All IsBelow (starts_of m sights watch states)
    starts_low [] most low = All-nil IsBelow
    starts_low (s ∷ states) most low =
        starts_low_by (sights s).starting s (filter (λ x. (sights x).starting) states) (omega (arith, most, All-head IsLow s states low)) (starts_low states most (All-tail IsLow s states low))

    filter_low_by : (b : Bool) (x : StartState) (some : List StartState) → IsBelow x → All IsBelow some → All IsBelow (if b then x ∷ some else some)
    filter_low_by true x some here low = All-cons IsBelow x some here low
    filter_low_by false x some here low = low

    filter_low : (f : StartState → Bool) (starts : List StartState) → All IsBelow starts → All IsBelow (filter f starts)
    filter_low f [] low = low
    filter_low f (x ∷ starts) low = filter_low_by (f x) x (filter f starts) (All-head IsBelow x starts low) (filter_low f starts (All-tail IsBelow x starts low))

    -- of a whole run
    pub counted_few : (choice : Choice) (s : S) → n ≤ 1073741824 → length (counted_of choice (starts_of m sights watch (run_of m side trace n s))) ≤ 1073741824
    unfolding run_of
    counted_few choice s most =
        let run : List S = run_from m side trace n n s (own_from side n 1 trace) in
        omega (arith, most, few_there (λ (x : StartState). is_counted choice x.tick) (starts_of m sights watch run), starts_few run, (run_short n s (own_from side n 1 trace)).few)

    pub counted_low : (choice : Choice) (s : S) → n ≤ 1073741824 → All IsBelow (counted_of choice (starts_of m sights watch (run_of m side trace n s)))
    unfolding run_of
    counted_low choice s most =
        let run : List S = run_from m side trace n n s (own_from side n 1 trace) in
        filter_low (λ (x : StartState). is_counted choice x.tick) (starts_of m sights watch run) (starts_low run most (run_short n s (own_from side n 1 trace)).low)
