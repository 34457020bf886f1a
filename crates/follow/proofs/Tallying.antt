-- The counts made start by start are the counts of all starts.
use Rattle.std.proofs.Common.{ℕ, zero, suc, ◌≡◌, ◌+◌, ◌-◌, ◌*◌, ◌^◌, ◌≤◌, ◌<◌, ◌∙◌, refl}
use Rattle.std.proofs.Common.{sym, ap, arith, min, List, [], ◌∷◌, ◌++◌, length, replicate, slice_index_or, slice_set, Bool}
use Rattle.std.proofs.Common.{true, false, ◌&&◌, ◌||◌, ◌==◌, Option, None, Some, if◌then◌else◌, length-set}
use Rattle.std.specs.Prelude.{All, filter}
use Rattle.std.proofs.lemmas.Bool.{cases_eq}
use Rattle.std.proofs.lemmas.Bool.Decides.{nat_tests}
use Rattle.std.proofs.lemmas.List.{get_or-set_same, get_or-set_other, get_or-replicate, length-replicate}
use Rattle.std.proofs.lemmas.List.Elements.{All-head, All-tail}
use Rattle.follow.specs.declared.count.Count.{Count}
use Rattle.follow.specs.declared.tally.Last.{Last}
use Rattle.follow.specs.Start.{StartState}
use Rattle.follow.specs.Counts.{condition_at, is_branch, is_taken, is_of, starts_at, tick_or, ticks_at, branches_at, taken_at}
use Rattle.follow.specs.Counts.{is_some_there, count_at, count_line, count_lines, counts_text, counts_of_counted}
use Rattle.follow.specs.CodeTally.{Tallied, tallied, no_count, none_counted, none_tallied, sum_of, with_ticks, with_start}
use Rattle.follow.specs.CodeTally.{ended_at, begun_at, last_of, tally, tally_all, table_lines, tallied_text, text_if}

-- one more start after others
pub tally_push : (t : Tallied) (starts : List StartState) (x : StartState) → tally_all t (starts ++ x ∷ []) ≡ tally (tally_all t starts) x
tally_push t [] x = refl
tally_push t (s ∷ starts) x = tally_push (tally t s) starts x

-- ---- one address of the table

abbrev at : List Count → ℕ → Count
at table pc = slice_index_or table pc no_count

set_at : (table : List Count) (i pc : ℕ) (c : Count) → pc < length table → at (slice_set table i c) pc ≡ (if i == pc then c else at table pc)
set_at table i pc c low = let same = cases_eq i pc in grind (arith, get_or-set_same {A = Count}, get_or-set_other {A = Count})

-- the ticks of the last start, if it was there, up to a tick
abbrev since : Option Last → ℕ → ℕ → ℕ
since None pc tick = 0
since (Some last) pc tick = if last.pc == pc then tick - last.tick else 0

abbrev pub weight : Bool → ℕ
weight is = if is then 1 else 0

-- the sums there fit in a word
record IsSmall (c : Count) : Type 0 where
  starts : c.starts ≤ 2 ^ 64 - 1
  ticks : c.ticks ≤ 2 ^ 64 - 1
  taken : c.taken ≤ 2 ^ 64 - 1

abbrev longer : Count → ℕ → Count
longer c ticks = record { starts = c.starts; ticks = c.ticks + ticks; branches = c.branches; taken = c.taken }

abbrev more : Count → Bool → Option Bool → Count
more c is holds = record {
  starts = c.starts + weight is;
  ticks = c.ticks;
  branches = c.branches || (is && is_branch holds);
  taken = c.taken + weight (is && is_taken holds);
}

exact : (a b : ℕ) → a + b ≤ 2 ^ 64 - 1 → sum_of a b ≡ a + b
exact a b few = omega (arith, few)

longer_by : (c d : Count) (is : Bool) (ticks : ℕ) → (is ≡ true → d ≡ c) → c.ticks + (if is then ticks else 0) ≤ 2 ^ 64 - 1
    → (if is then with_ticks d ticks else c) ≡ longer c (if is then ticks else 0)
longer_by c d true ticks same few = rw (same refl, exact c.ticks ticks few)
longer_by c d false ticks same few = grind arith

more_by : (c d : Count) (is : Bool) (holds : Option Bool) → (is ≡ true → d ≡ c) → c.starts + weight is ≤ 2 ^ 64 - 1 → c.taken + weight (is && is_taken holds) ≤ 2 ^ 64 - 1
    → (if is then with_start d holds else c) ≡ more c is holds
more_by c d true holds same few taken = rw (same refl, exact c.starts 1 few, exact c.taken (weight (is_taken holds)) taken)
more_by c d false holds same few taken = grind arith

is_there : (table : List Count) (i pc : ℕ) → (i == pc) ≡ true → at table i ≡ at table pc
is_there table i pc is = let same = cases_eq i pc in grind (arith, nat_tests)

ended_entry : (table : List Count) (last : Option Last) (pc tick : ℕ) → pc < length table → (at table pc).ticks + since last pc tick ≤ 2 ^ 64 - 1
    → at (ended_at table last tick) pc ≡ longer (at table pc) (since last pc tick)
ended_entry table None pc tick low few = grind arith
ended_entry table (Some last) pc tick low few =
    set_at table last.pc pc (with_ticks (at table last.pc) (tick - last.tick)) low
    ∙ longer_by (at table pc) (at table last.pc) (last.pc == pc) (tick - last.tick) (is_there table last.pc pc) few

begun_entry : (table : List Count) (x : StartState) (pc : ℕ) → pc < length table → (at table pc).starts + weight (is_of pc x) ≤ 2 ^ 64 - 1
    → (at table pc).taken + weight (is_of pc x && is_taken (condition_at x.code x.regs)) ≤ 2 ^ 64 - 1
    → at (begun_at table x) pc ≡ more (at table pc) (is_of pc x) (condition_at x.code x.regs)
begun_entry table x pc low few taken =
    set_at table x.regs.pc pc (with_start (at table x.regs.pc) (condition_at x.code x.regs)) low
    ∙ more_by (at table pc) (at table x.regs.pc) (is_of pc x) (condition_at x.code x.regs) (is_there table x.regs.pc pc) few taken

-- ---- all starts

abbrev total : ℕ → ℕ → Count → Option Last → List StartState → Count
total n pc c last starts = record {
  starts = c.starts + length (starts_at pc starts);
  ticks = c.ticks + since last pc (tick_or n starts) + ticks_at n pc starts;
  branches = c.branches || is_some_there (branches_at pc starts);
  taken = c.taken + length (taken_at pc starts);
}

or_false : (b : Bool) → (b || false) ≡ b
or_false true = refl
or_false false = refl

or_assoc : (a b c : Bool) → ((a || b) || c) ≡ (a || (b || c))
or_assoc true b c = refl
or_assoc false b c = refl

pub length_if : (b : Bool) (x : StartState) (xs : List StartState) → length (if b then x ∷ xs else xs) ≡ weight b + length xs
length_if true x xs = omega arith
length_if false x xs = omega arith

some_if : (b : Bool) (x : StartState) (xs : List StartState) → is_some_there (if b then x ∷ xs else xs) ≡ (b || is_some_there xs)
some_if true x xs = refl
some_if false x xs = refl

same_count : {c d : Count} → c.starts ≡ d.starts → c.ticks ≡ d.ticks → c.branches ≡ d.branches → c.taken ≡ d.taken → c ≡ d
same_count one two three four = grind arith

total_more : (n pc : ℕ) (c : Count) (last : Option Last) (x : StartState) (xs : List StartState) →
    total n pc (more (longer c (since last pc x.tick)) (is_of pc x) (condition_at x.code x.regs)) (Some (last_of x)) xs ≡ total n pc c last (x ∷ xs)
total_more n pc c last x xs =
    same_count
    (rw length_if (omega arith))
    (omega arith)
    (rw some_if (or_assoc c.branches _ _))
    (rw length_if (omega arith))

-- the table at the end of the run
abbrev final : ℕ → Tallied → List Count
final n t = ended_at t.table t.last n

ended_length : (table : List Count) (last : Option Last) (tick : ℕ) → length (ended_at table last tick) ≡ length table
ended_length table None tick = refl
ended_length table (Some last) tick = length-set table last.pc _

tally_length : (t : Tallied) (x : StartState) → length (tally t x).table ≡ length t.table
tally_length t x = length-set (ended_at t.table t.last x.tick) x.regs.pc _ ∙ ended_length t.table t.last x.tick

all_length : (t : Tallied) (starts : List StartState) → length (tally_all t starts).table ≡ length t.table
all_length t [] = refl
all_length t (x ∷ starts) = all_length (tally t x) starts ∙ tally_length t x

-- the count of an address is its count in the run, added to the count before
entry : (n pc : ℕ) (t : Tallied) (starts : List StartState) → pc < length t.table → IsSmall (total n pc (at t.table pc) t.last starts)
    → at (final n (tally_all t starts)) pc ≡ total n pc (at t.table pc) t.last starts
entry n pc t [] low small =
    let c : Count = at t.table pc in
    ended_entry t.table t.last pc n low (omega (arith, small.ticks)) ∙ same_count (omega arith) (omega arith) (sym (or_false c.branches)) (omega arith)
entry n pc t (x ∷ xs) low small =
    let c : Count = at t.table pc in
    let holds : Option Bool = condition_at x.code x.regs in
    let s : ℕ = since t.last pc x.tick in
    let table : List Count = ended_at t.table t.last x.tick in
    let step = total_more n pc c t.last x xs in
    let held = rw (← step) at small in
    let ended : at table pc ≡ longer c s = ended_entry t.table t.last pc x.tick low (omega (arith, small.ticks)) in
    let begun : at (begun_at table x) pc ≡ more (at table pc) (is_of pc x) holds =
    begun_entry table x pc (omega (arith, low, ended_length t.table t.last x.tick)) (rw ended (omega (arith, held.starts))) (rw ended (omega (arith, held.taken))) in
    let now : at (begun_at table x) pc ≡ more (longer c s) (is_of pc x) holds = begun ∙ ap (λ (d : Count). more d (is_of pc x) holds) ended in
    entry n pc (tally t x) xs (omega (arith, low, tally_length t x)) (rw (now, step) small) ∙ ap (λ (d : Count). total n pc d (Some (last_of x)) xs) now ∙ step

-- ---- no sum is too large

pub few_there : (f : StartState → Bool) (starts : List StartState) → length (filter f starts) ≤ length starts
few_there f [] = omega arith
few_there f (x ∷ starts) = few_by (f x) x (filter f starts) starts (few_there f starts)
  where
    few_by : (b : Bool) (x : StartState) (some all : List StartState) → length some ≤ length all → length (if b then x ∷ some else some) ≤ suc (length all)
    few_by true x some all le = omega (arith, le)
    few_by false x some all le = omega (arith, le)

abbrev pub IsBelow : StartState → Type 0
IsBelow s = s.tick ≤ 1073741824

tick_low : (n : ℕ) (starts : List StartState) → n ≤ 1073741824 → All IsBelow starts → tick_or n starts ≤ 1073741824
tick_low n [] most low = most
tick_low n (x ∷ starts) most low = All-head IsBelow x starts low

ticks_low : (n pc : ℕ) (starts : List StartState) → n ≤ 1073741824 → All IsBelow starts → ticks_at n pc starts ≤ 1073741824 * length starts
ticks_low n pc [] most low = omega arith
ticks_low n pc (x ∷ starts) most low =
    ticks_by (is_of pc x) (tick_or n starts) x.tick (ticks_at n pc starts) (length starts) (tick_low n starts most (All-tail IsBelow x starts low))
    (ticks_low n pc starts most (All-tail IsBelow x starts low))
  where
    ticks_by : (b : Bool) (end tick rest many : ℕ) → end ≤ 1073741824 → rest ≤ 1073741824 * many → (if b then end - tick else 0) + rest ≤ 1073741824 * suc many
    ticks_by true end tick rest many few le = omega (arith, few, le)
    ticks_by false end tick rest many few le = omega (arith, few, le)

-- ---- the whole text

lines_same : (k pc : ℕ) (table : List Count) (f : ℕ → Count) → length table ≡ k → ((i : ℕ) → i < k → at table i ≡ f (pc + i)) → table_lines pc table ≡ count_lines k pc f
lines_same zero pc [] f size same = refl
lines_same zero pc (c ∷ table) f size same = absurd (omega (arith, size))
lines_same (suc k) pc [] f size same = absurd (omega (arith, size))
lines_same (suc k) pc (c ∷ table) f size same =
    let here : c ≡ f pc = same 0 (omega arith) ∙ ap f (omega arith) in
    rw (here, lines_same k (pc + 1) table f (omega (arith, size)) (λ i low. same (suc i) (omega (arith, low)) ∙ ap f (omega arith))) refl

none_there : (pc : ℕ) → pc < 65536 → at none_counted pc ≡ no_count
unfolding none_counted
none_there pc low = get_or-replicate 65536 pc no_count no_count low

none_length : length none_counted ≡ 65536
unfolding none_counted
none_length = length-replicate 65536 no_count

none_total : (n pc : ℕ) (starts : List StartState) → total n pc no_count None starts ≡ count_at n pc starts
none_total n pc starts = same_count (omega arith) (omega arith) refl (omega arith)

pub text_same : (n : ℕ) (starts : List StartState) → n ≤ 1073741824 → length starts ≤ 1073741824 → All IsBelow starts →
    tallied_text n (tally_all none_tallied starts) ≡ counts_text n starts
unfolding counts_text
text_same n starts most few low =
    let t : Tallied = tally_all none_tallied starts in
    lines_same 65536 0 (final n t) (λ pc. count_at n pc starts) (ended_length t.table t.last n ∙ all_length none_tallied starts ∙ none_length) (λ pc there.
    let none : at none_counted pc ≡ no_count = none_there pc there in
    let is : total n pc (at none_counted pc) None starts ≡ count_at n pc starts = rw none (none_total n pc starts) in
    let starts_few = few_there (λ s. is_of pc s) starts in
    let taken_few = few_there (λ s. is_of pc s && is_taken (condition_at s.code s.regs)) starts in
    let ticks_few = ticks_low n pc starts most low in
    let small : IsSmall (count_at n pc starts) = record { starts = omega (arith, starts_few, few); ticks = omega (arith, ticks_few, few); taken = omega (arith, taken_few, few) } in
    entry n pc none_tallied starts (omega (arith, there, none_length)) (rw is small) ∙ is ∙ ap (λ (k : ℕ). count_at n k starts) (let same : pc ≡ 0 + pc = omega arith in same))

pub text_if_same : (counts : Bool) (n : ℕ) (starts : List StartState) → n ≤ 1073741824 → length starts ≤ 1073741824 → All IsBelow starts
    → text_if counts n starts ≡ counts_of_counted counts n starts
text_if_same true n starts most few low = ap Some (text_same n starts most few low)
text_if_same false n starts most few low = refl
