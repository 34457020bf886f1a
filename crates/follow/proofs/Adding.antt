-- Sums over all addresses.
use Rattle.std.proofs.Common.{ℕ, zero, suc, ◌≡◌, ◌+◌, ◌-◌, ◌≤◌, ◌<◌, ◌∙◌, inl, inr, refl, sym, ap, arith, nat_le, nat_lt}
use Rattle.std.proofs.Common.{List, [], ◌∷◌, length, map, Bool, true, false, ◌&&◌, ◌==◌, Option, None, Some, if◌then◌else◌}
use Rattle.std.specs.Prelude.{All, filter}
use Rattle.std.proofs.lemmas.Bool.{cases_eq}
use Rattle.std.proofs.lemmas.Bool.Decides.{nat_tests}
use Rattle.std.proofs.lemmas.List.Elements.{All-head, All-tail}
use Rattle.beeb_bits.specs.declared.Side.{Side}
use Rattle.tube_chip.specs.declared.Op.{Op}
use Rattle.tube_chip.specs.Act.{Query, access, look}
use Rattle.tube_trace.specs.declared.Entry.{Entry}
use Rattle.tube_party.specs.Transitions.{Transitions, IsLawful}
use Rattle.tube_party.specs.Replay.{Numbered, own_from, is_that}
use Rattle.follow.specs.Sight.{Sight}
use Rattle.follow.specs.Start.{StartState, start_of}
use Rattle.follow.specs.Counts.{is_of, starts_at, tick_or, ticks_at, counted_of, count_at}
use Rattle.follow.specs.Listing.{access_run, step_run, run_from, run_of, starts_of, chosen_from, chosen_of}
use Rattle.follow.specs.Adding.{sum_from, sum_of_all, IsPlaced, all_from, AddUp, CountsAddUp}
use Rattle.follow.proofs.Tallying.{weight, length_if}

-- ---- sums

sum_same : (k pc : ℕ) (f g : ℕ → ℕ) → ((p : ℕ) → f p ≡ g p) → sum_from k pc f ≡ sum_from k pc g
sum_same zero pc f g same = refl
sum_same (suc k) pc f g same = rw (same pc, sum_same k (pc + 1) f g same) refl

sum_add : (k pc : ℕ) (f g : ℕ → ℕ) → sum_from k pc (λ p. f p + g p) ≡ sum_from k pc f + sum_from k pc g
sum_add zero pc f g = omega arith
sum_add (suc k) pc f g = omega (arith, sum_add k (pc + 1) f g)

sum_none : (k pc : ℕ) → sum_from k pc (λ p. 0) ≡ 0
sum_none zero pc = refl
sum_none (suc k) pc = omega (arith, sum_none k (pc + 1))

abbrev only : ℕ → ℕ → ℕ → ℕ
only a v p = if a == p then v else 0

only_at : (a v p : ℕ) → a ≡ p → only a v p ≡ v
only_at a v p is = let same = cases_eq a p in grind (arith, nat_tests)

only_off : (a v p : ℕ) → (a ≡ p → ⊥) → only a v p ≡ 0
only_off a v p is = let same = cases_eq a p in grind (arith, nat_tests)

sum_past : (k pc a v : ℕ) → a < pc → sum_from k pc (only a v) ≡ 0
sum_past zero pc a v low = refl
sum_past (suc k) pc a v low = omega (arith, only_off a v pc (λ is. omega (arith, is, low)), sum_past k (pc + 1) a v (omega (arith, low)))

sum_only : (k pc a v : ℕ) → pc ≤ a → a < pc + k → sum_from k pc (only a v) ≡ v
sum_only zero pc a v low high = absurd (omega (arith, low, high))
sum_only (suc k) pc a v low high = elim (cases_eq a pc) [
  | inl is ↦ omega (arith, only_at a v pc is, sum_past k (pc + 1) a v (omega (arith, is)))
  | inr off ↦ let past : pc + 1 ≤ a = omega (arith, low, off) in omega (arith, only_off a v pc off, sum_only k (pc + 1) a v past (omega (arith, high)))
]

-- ---- starts and ticks

starts_add : (k n : ℕ) (starts : List StartState) → All (λ (s : StartState). s.regs.pc < k) starts → sum_from k 0 (λ pc. length (starts_at pc starts)) ≡ length starts
starts_add k n [] placed = sum_none k 0
starts_add k n (x ∷ starts) placed =
    let here : x.regs.pc < k = All-head (λ (s : StartState). s.regs.pc < k) x starts placed in
    let rest = starts_add k n starts (All-tail (λ (s : StartState). s.regs.pc < k) x starts placed) in
    let one = sum_only k 0 x.regs.pc 1 (omega arith) (omega (arith, here)) in
    sum_same k 0 (λ pc. length (starts_at pc (x ∷ starts))) (λ pc. only x.regs.pc 1 pc + length (starts_at pc starts)) (λ pc. length_if (is_of pc x) x (starts_at pc starts))
    ∙ sum_add k 0 (only x.regs.pc 1) (λ pc. length (starts_at pc starts)) ∙ omega (arith, one, rest)

-- ticks do not fall from start to start, nor to n
abbrev RiseTo : ℕ → List StartState → Type 0
RiseTo n [] = Unit {0}
RiseTo n (s ∷ starts) = (s.tick ≤ tick_or n starts) × RiseTo n starts

rise_low : (n : ℕ) (starts : List StartState) → RiseTo n starts → tick_or n starts ≤ n
rise_low n [] rise = omega arith
rise_low n (s ∷ starts) rise = omega (arith, rise.0, rise_low n starts rise.1)

ticks_add : (k n : ℕ) (starts : List StartState) → All (λ (s : StartState). s.regs.pc < k) starts → RiseTo n starts
    → sum_from k 0 (λ pc. ticks_at n pc starts) ≡ n - tick_or n starts
ticks_add k n [] placed rise = omega (arith, sum_none k 0)
ticks_add k n (x ∷ starts) placed rise =
    let here : x.regs.pc < k = All-head (λ (s : StartState). s.regs.pc < k) x starts placed in
    let rest = ticks_add k n starts (All-tail (λ (s : StartState). s.regs.pc < k) x starts placed) rise.1 in
    let long : ℕ = tick_or n starts - x.tick in
    let one = sum_only k 0 x.regs.pc long (omega arith) (omega (arith, here)) in
    sum_add k 0 (only x.regs.pc long) (λ pc. ticks_at n pc starts) ∙ omega (arith, one, rest, rise.0, rise_low n starts rise.1)

add_up : (n : ℕ) (starts : List StartState) → All IsPlaced starts → RiseTo n starts → AddUp n starts
unfolding sum_of_all
add_up n starts placed rise = record { starts_are = starts_add 65536 n starts placed; ticks_are = ticks_add 65536 n starts placed rise }

-- ---- the starts of a run rise

filtered_by : (n : ℕ) (b : Bool) (x : StartState) (some starts : List StartState) → x.tick ≤ tick_or n starts → tick_or n starts ≤ tick_or n some → RiseTo n some
    → RiseTo n (if b then x ∷ some else some) × (x.tick ≤ tick_or n (if b then x ∷ some else some))
filtered_by n true x some starts low up rise = ((omega (arith, low, up), rise), omega arith)
filtered_by n false x some starts low up rise = (rise, omega (arith, low, up))

filtered : (n : ℕ) (f : StartState → Bool) (starts : List StartState) → RiseTo n starts → RiseTo n (filter f starts) × (tick_or n starts ≤ tick_or n (filter f starts))
filtered n f [] rise = (tt, omega arith)
filtered n f (x ∷ starts) rise = let rest = filtered n f starts rise.1 in filtered_by n (f x) x (filter f starts) starts rise.0 rest.1 rest.0

module _ {S : Type 0} (m : Transitions S) (lawful : IsLawful m) (sights : S → Sight) (side : Side) (trace : List Entry) (n : ℕ) where
  abbrev starts_in : List S → List StartState
  starts_in states = starts_of m sights None states

  -- starts at tick t or later, in a run that ends at n
  record AreLater (t : ℕ) (states : List S) : Type 0 where
    rise : RiseTo n (starts_in states)
    later : (u : ℕ) → u ≤ t → u ≤ n → u ≤ tick_or n (starts_in states)

  none_later : (t : ℕ) → AreLater t []
  none_later t = record { rise = tt; later = λ u low most. most }

  abbrev starting : List S → List S
  starting states = filter (λ x. (sights x).starting) states

  abbrev told : List S → List StartState
  told states = map (λ x. start_of m sights None x) states

  rise_by : (b : Bool) (s : S) (states : List S) → RiseTo n (told (starting states)) → m.due s ≤ tick_or n (told (starting states))
      → RiseTo n (told (if b then s ∷ starting states else starting states))
  rise_by true s states rise up = (up, rise)
  rise_by false s states rise up = rise

  later_by : (b : Bool) (s : S) (states : List S) (u : ℕ) → u ≤ m.due s → u ≤ tick_or n (told (starting states))
      → u ≤ tick_or n (told (if b then s ∷ starting states else starting states))
  later_by true s states u low up = low
  later_by false s states u low up = up

  one_more : (t : ℕ) (s : S) (states : List S) → m.due s < n → m.due s < t → AreLater t states → AreLater (m.due s) (s ∷ states)
  one_more t s states low up rest = record {
    rise = rise_by (sights s).starting s states rest.rise (rest.later (m.due s) (omega (arith, up)) (omega (arith, low)));
    later = λ u here most. later_by (sights s).starting s states u here (rest.later u (omega (arith, here, up)) most);
  }

  if_later : (b : Bool) (t : ℕ) (states : List S) → (b ≡ true → AreLater t states) → AreLater t (if b then states else [])
  if_later true t states later = later refl
  if_later false t states later = none_later t

  abbrev Holds : ℕ → Type 0
  Holds k = (s : S) (own : List Numbered) → AreLater (m.due s) (run_from m side trace n k s own)

  access_later : (k : ℕ) → Holds k → (s : S) (op : Op) (own : List Numbered) → m.due s < n → AreLater (m.due s) (access_run m s op own (run_from m side trace n k))
  access_later k on s op [] low = none_later (m.due s)
  access_later k on s op (x ∷ own) low = if_later (is_that x.entry (m.due s) op) (m.due s) _ (λ is. one_more _ s _ low (lawful.rises s _) (on _ own))

  step_later : (k : ℕ) → Holds k → (s : S) (own : List Numbered) (o : Option Query) → m.due s < n
      → AreLater (m.due s) (step_run m side trace s own o (run_from m side trace n k))
  step_later k on s own None low = one_more _ s _ low (lawful.rises s _) (on _ own)
  step_later k on s own (Some look) low = one_more _ s _ low (lawful.rises s _) (on _ own)
  step_later k on s own (Some (access op)) low = access_later k on s op own low

  run_later : (k : ℕ) → Holds k
  run_later zero s own = none_later (m.due s)
  run_later (suc k) s own =
      if_later (nat_lt (m.due s) n) (m.due s) _ (λ is. step_later k (run_later k) s own (m.asks s) (let low : m.due s < n = grind (arith, nat_tests) in low))

  run_rises : (s : S) → RiseTo n (starts_in (run_of m side trace n s))
  unfolding run_of
  run_rises s = (run_later n s (own_from side n 1 trace)).rise

-- ---- those that are counted

chosen_by : (b c : Bool) (x : StartState) (some others : List StartState) → b ≡ c → some ≡ others → (if b then x ∷ some else some) ≡ (if c then x ∷ others else others)
chosen_by b c x some others one two = rw (one, two) refl

counted_same : (from : ℕ) (before : Option (Option ℕ)) (starts : List StartState) → counted_of (all_from from) starts ≡ chosen_from (all_from from) before starts
counted_same from before [] = refl
counted_same from before (x ∷ starts) = chosen_by _ _ x _ _ (all_are (nat_le from x.tick)) (counted_same from (Some x.watched) starts)
  where
    all_are : (b : Bool) → b ≡ (b && true && true && true)
    all_are true = refl
    all_are false = refl

pub counts_add : {S : Type 0} (m : Transitions S) → IsLawful m → (sights : S → Sight) → CountsAddUp m sights
counts_add m lawful sights = record {
  same = λ side trace n from s. counted_same from None (starts_of m sights None (run_of m side trace n s));
  sums = λ side trace n from s placed.
      add_up n _ placed (filtered n _ (starts_of m sights None (run_of m side trace n s)) (run_rises m lawful sights side trace n s)).0;
}
