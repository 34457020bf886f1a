-- The accesses kept of a reference run: the first of both sides' first are the first of all.
use Rattle.std.proofs.Common.{None, ◌≡◌, ◌∙◌, sym, refl, ap, ℕ, zero, suc, ◌+◌, ◌*◌, ◌<◌, ◌≤◌, length, take, List, [], ◌∷◌, ◌++◌, Bool}
use Rattle.std.proofs.Common.{IsTrue, nat_lt, cond, All, Option, Some, Result, Ok, Err, IfOk, arith}
use Rattle.std.proofs.lemmas.List.{take-take}
use Rattle.std.proofs.lemmas.List.Elements.{All-nil, All-cons, All-head, All-tail, All-take}
use Rattle.std.proofs.lemmas.Bool.Decides.{nat_tests}
use Rattle.beeb_bits.specs.Order.{before}
use Rattle.beeb_bits.specs.declared.clock.Clock.{Clock}
use Rattle.beeb_bits.specs.declared.Side.{Side}
use Rattle.beeb_bits.specs.declared.Side.TheVariants.{Host, Para}
use Rattle.tube_chip.specs.declared.Op.{Op}
use Rattle.tube_chip.specs.declared.Op.TheVariants.{Read}
use Rattle.tube_chip.specs.declared.Answer.{Answer}
use Rattle.tube_chip.specs.declared.Answer.TheVariants.{Byte}
use Rattle.tube_chip.specs.State.{State}
use Rattle.tube_chip.specs.Act.{Query, access, act}
use Rattle.tube_chip.specs.Events.{Event, IsBefore, Rises, RisesAfter, IsAnsweredFrom, merge, of_side, is_side}
use Rattle.tube_chip.specs.Laws.{RisingListIsMerge}
use Rattle.tube_chip.proofs.Merged.{rises_tail}
use Rattle.tube_trace.specs.declared.Entry.{Entry}
use Rattle.tube_trace.specs.Entries.{IsEntry, entry_of, event_of, events_of, accesses}
use Rattle.tube_trace.specs.Merge.{IsOfSide, of_both}
use Rattle.tube_trace.specs.Text.{HasLine, IsAnswer}
use Rattle.tube_trace.proofs.MergeLemmas.{Rises-take, accesses_back}
use Rattle.tube_party.specs.declared.one_thread.Done.{Done}
use Rattle.tube_party.specs.Reference.{World, IsTraceBelow}
use Rattle.tube_party.proofs.Listed.{before-then}
use Rattle.host_mach.specs.State.{HostState}
use Rattle.para_mach.specs.State.{ParaState}
use Rattle.save_state.specs.Saved.{Session}
use Rattle.cmd_outcome.specs.Names.{Names}
use Rattle.cmd_outcome.specs.Left.{Kept}
use Rattle.cmd_outcome.specs.Verdicts.{machine_verdict, both_left}
use Rattle.cmd_ended.specs.Kept.{kept_verdict}
use Rattle.cmd_ended.specs.Code.{AreFirst, AreKept, AreFiles}

-- ---- taking of merged lists

by_first : (t : Bool) (k : ℕ) (a b : Event) (p q r s : List Event) → take k p ≡ take k q → take k r ≡ take k s
    → take (suc k) (cond t (b ∷ p) (a ∷ r)) ≡ take (suc k) (cond t (b ∷ q) (a ∷ s))
by_first t k a b p q r s one two = grind arith

-- the first k of a merge are those of the merge of the first k of each
merge_less : (k i j : ℕ) (xs ys : List Event) → k ≤ i → k ≤ j → take k (merge (take i xs) (take j ys)) ≡ take k (merge xs ys)
merge_less zero i j xs ys hi hj = refl
merge_less (suc k) zero j xs ys hi hj = absurd (omega (arith, hi))
merge_less (suc k) (suc i) zero xs ys hi hj = absurd (omega (arith, hj))
merge_less (suc k) (suc i) (suc j) [] ys hi hj = take-take (suc k) (suc j) ys hj
merge_less (suc k) (suc i) (suc j) (a ∷ xs) [] hi hj = ap (λ (z : List Event). a ∷ z) (merge_less k i (suc j) xs [] (omega (arith, hi)) (omega (arith, hj)))
merge_less (suc k) (suc i) (suc j) (a ∷ xs) (b ∷ ys) hi hj =
    let one = merge_less k (suc i) j (a ∷ xs) ys (omega (arith, hi)) (omega (arith, hj)) in
    let two = merge_less k i (suc j) xs (b ∷ ys) (omega (arith, hi)) (omega (arith, hj)) in
    by_first (nat_lt b.tick a.tick) k a b _ _ _ _ one two

-- ---- the accesses of a side

-- an event and an entry of a side, and an entry below a tick
abbrev IsAt : Side → Event → Type 0
IsAt s e = e.side ≡ s

abbrev IsFrom : Side → Entry → Type 0
IsFrom s x = x.side ≡ s

abbrev pub Below : ℕ → Entry → Type 0
Below n x = (x.tick).0 < n

own_accesses : (s : Side) (es : List Event) → events_of (accesses (of_side s es)) ≡ of_side s (events_of (accesses es))
own_accesses s [] = refl
own_accesses s (e ∷ es) = grind (arith, own_accesses s es)

sided_by : (s side : Side) (e : Event) (l : List Event) → e.side ≡ side → All (IsAt s) l → All (IsAt s) (cond (is_side s side) (e ∷ l) l)
sided_by Host Host e l is on = All-cons (IsAt Host) e l is on
sided_by Para Para e l is on = All-cons (IsAt Para) e l is on
sided_by s side e l is on = on

sided : (s : Side) (es : List Event) → All (IsAt s) (of_side s es)
sided s [] = All-nil (IsAt s)
sided s (e ∷ es) = sided_by s e.side e (of_side s es) refl (sided s es)

entry_sided : (s side : Side) (t : ℕ) (q : Query) (a : Answer) (xs : List Entry) → side ≡ s → All (IsFrom s) xs → All (IsFrom s) (entry_of t side q a ++ xs)
entry_sided s side t (access op) (Byte b) xs is on = All-cons (IsFrom s) _ xs is on
entry_sided s side t q a xs is on = on

entries_sided : (s : Side) (es : List Event) → All (IsAt s) es → All (IsFrom s) (accesses es)
entries_sided s [] all = All-nil (IsFrom s)
entries_sided s (e ∷ es) all = entry_sided s e.side e.tick e.query e.answer (accesses es) (All-head (IsAt s) e es all) (entries_sided s es (All-tail (IsAt s) e es all))

-- ---- their order

past : (x e : Event) (es : List Event) → IsBefore x e → RisesAfter e es → RisesAfter x es
past x e [] first rises = tt
past x e (f ∷ es) first rises = (before-then x.tick e.tick f.tick x.side e.side f.side first rises.0, rises.1)

after_one : (t : Bool) (x e : Event) (own : List Event) → IsBefore x e → RisesAfter e own → RisesAfter x own → RisesAfter x (cond t (e ∷ own) own)
after_one t x e own first with_it without = grind arith

own_rises_after : (s : Side) (x : Event) (es : List Event) → RisesAfter x es → RisesAfter x (of_side s es)
own_rises_after s x [] rises = tt
own_rises_after s x (e ∷ es) rises =
    after_one (is_side s e.side) x e (of_side s es) rises.0 (own_rises_after s e es rises.1) (own_rises_after s x es (past x e es rises.0 rises.1))

from_one : (t : Bool) (e : Event) (own : List Event) → RisesAfter e own → Rises (cond t (e ∷ own) own)
from_one t e own rises = grind (arith, rises_tail)

own_rises : (s : Side) (es : List Event) → Rises es → Rises (of_side s es)
own_rises s [] rises = tt
own_rises s (e ∷ es) rises = from_one (is_side s e.side) e (of_side s es) (own_rises_after s e es rises)

-- ---- entries and their events

pub events_take : (k : ℕ) (xs : List Entry) → events_of (take k xs) ≡ take k (events_of xs)
events_take zero xs = refl
events_take (suc k) [] = refl
events_take (suc k) (x ∷ xs) = ap (λ (z : List Event). event_of x ∷ z) (events_take k xs)

-- the accesses kept of a side, as events
own_events : (s : Side) (list : List Event) (keep : ℕ) (own : List Entry) → own ≡ take keep (accesses (of_side s list)) →
    events_of own ≡ take keep (of_side s (events_of (accesses list)))
own_events s list keep own is = ap events_of is ∙ events_take keep (accesses (of_side s list)) ∙ ap (take keep) (own_accesses s list)

pub of_one_side : (s : Side) (list : List Event) (keep : ℕ) (own : List Entry) → Rises (events_of (accesses list)) → own ≡ take keep (accesses (of_side s list)) → IsOfSide s own
of_one_side s list keep own rises is = record {
  rises = rw (own_events s list keep own is) (Rises-take keep _ (own_rises s _ rises));
  each = rw is (All-take (IsFrom s) keep _ (entries_sided s (of_side s list) (sided s list)));
}

-- the accesses kept of both sides
pub of_both_sides : (n : ℕ) (list : List Event) (keep : ℕ) (host para : List Entry) → RisingListIsMerge → AreFirst n list keep host para
    → of_both keep host para ≡ take keep (accesses list)
of_both_sides n list keep host para law first =
    let whole = events_of (accesses list) in
    let least : keep ≤ keep = omega arith in
    let few = merge_less keep keep keep (of_side Host whole) (of_side Para whole) least least in
    let is : take keep (merge (events_of host) (events_of para)) ≡ events_of (take keep (accesses list)) =
    rw (own_events Host list keep host first.host_is, own_events Para list keep para first.para_is) (few ∙ ap (take keep) (law whole first.trace.rises) ∙ sym (events_take keep (accesses list))) in
    ap accesses is ∙ accesses_back (take keep (accesses list))

-- ---- lines and counts

answers_0 : (c : State) (side : Side) (op : Op) (b : ℕ) → (act c side (access op)).1 ≡ Byte b → IsAnswer op b
answers_0 c side (Read number) b is = tt
answers_0 c side op b is = cc

pub all_lines : (c : State) (n : ℕ) (xs : List Entry) → n ≤ 1073741824 → All IsEntry xs → All (Below n) xs → IsAnsweredFrom c (events_of xs) → All HasLine xs
all_lines c n [] most may below answered = All-nil HasLine
all_lines c n (x ∷ xs) most may below answered =
    All-cons HasLine x xs
    (record { may = All-head IsEntry x xs may; tick = omega (arith, All-head (Below n) x xs below, most); answer = answers_0 c x.side x.op x.answer answered.0 })
    (all_lines (act c x.side (access x.op)).0 n xs most (All-tail IsEntry x xs may) (All-tail (Below n) x xs below) answered.1)

-- the place of a side in a tick
half : Side → ℕ
half Host = 0
half Para = 1

later : (a b : ℕ) (x y : Side) → IsTrue (before a x b y) → 2 * a + half x < 2 * b + half y
unfolding half
later a b x y h = grind (arith, nat_tests)

in_time : (a n : ℕ) (x : Side) → a < n → 2 * a + half x < 2 * n
unfolding half
in_time a n x h = grind arith

few_after : (n : ℕ) (x : Entry) (xs : List Entry) → (x.tick).0 < n → All (Below n) xs → RisesAfter (event_of x) (events_of xs) →
    2 * (x.tick).0 + half x.side + length xs < 2 * n
few_after n x [] low below rises = omega (arith, in_time (x.tick).0 n x.side low)
few_after n x (y ∷ xs) low below rises =
    omega (arith, few_after n y xs (All-head (Below n) y xs below) (All-tail (Below n) y xs below) rises.1, later (x.tick).0 (y.tick).0 x.side y.side rises.0)

few_all : (n : ℕ) (xs : List Entry) → All (Below n) xs → Rises (events_of xs) → length xs ≤ 2 * n
few_all n [] below rises = omega arith
few_all n (x ∷ xs) below rises = omega (arith, few_after n x xs (All-head (Below n) x xs below) (All-tail (Below n) x xs below) rises)

count_events : (es : List Event) → length (of_side Host es) + length (of_side Para es) ≡ length es
count_events [] = refl
count_events (e ∷ es) = grind (arith, count_events es)

length_events : (xs : List Entry) → length (events_of xs) ≡ length xs
length_events [] = refl
length_events (x ∷ xs) = ap (λ (n : ℕ). suc n) (length_events xs)

count_own : (s : Side) (list : List Event) → length (accesses (of_side s list)) ≡ length (of_side s (events_of (accesses list)))
count_own s list = sym (length_events (accesses (of_side s list))) ∙ ap length (own_accesses s list)

-- all accesses are those of both sides
pub counted : (list : List Event) (host para : ℕ) → host ≡ length (accesses (of_side Host list)) → para ≡ length (accesses (of_side Para list)) → host + para ≡ length (accesses list)
counted list host para is_host is_para =
    omega (arith, is_host ∙ count_own Host list, is_para ∙ count_own Para list, count_events (events_of (accesses list)), length_events (accesses list))

pub few_counted : (n : ℕ) (list : List Event) (host para : ℕ) → n ≤ 1073741824 → IsTraceBelow n (accesses list) →
    host ≡ length (accesses (of_side Host list)) → para ≡ length (accesses (of_side Para list)) → host + para < 18446744073709551616
few_counted n list host para most is is_host is_para = omega (arith, counted list host para is_host is_para, few_all n (accesses list) is.below is.rises, most)

-- the accesses kept of both sides, as the lists passed on
pub first_of : {H P : Type 0} (n : ℕ) (list : List Event) (keep : ℕ) (d : Done H P) (host para : List Entry) → AreKept n list keep d
    → host ≡ d.host_list.items → para ≡ d.para_list.items →
    AreFirst n list keep host para
first_of n list keep d host para kept is_host is_para =
    record { most = kept.most; trace = kept.trace; host_is = is_host ∙ kept.host_kept.list_is; para_is = is_para ∙ kept.para_kept.list_is }

-- ---- the verdict

pub kept_is : (clock : Clock) (begun : Option Session) (ticks keep : ℕ) (names : Names) (w : World HostState ParaState) (host : HostState) (para : ParaState) (tube : ℕ)
    (kept : Kept) (saved : Option (List ℕ)) → host ≡ w.host → para ≡ w.para → AreFiles clock begun ticks keep w.list tube kept saved →
    machine_verdict (both_left clock ticks tube names host para kept saved) ≡ kept_verdict clock begun ticks keep names w
unfolding kept_verdict
kept_is clock begun ticks keep names w host para tube kept saved is_host is_para files = rw (is_host, is_para, files.kept_is, files.saved_is, files.tube_is)

-- an equation for a view holds for each run
pub for_each : {X E V : Type 0} (r : Result X E) (view : X → V) (v : V) (P : HostState → ParaState → Type 0) (w : HostState → ParaState → V) → IfOk r (λ x. view x ≡ v) →
    ((s : HostState) (t : ParaState) → P s t → v ≡ w s t) → IfOk r (λ x. (s : HostState) (t : ParaState) → P s t → view x ≡ w s t)
for_each (Ok x) view v P w is all = λ s t run. is ∙ all s t run
for_each (Err e) view v P w is all = tt

-- the final state of both machines, without other bytes
pub both_is : (clock : Clock) (ticks tube : ℕ) (names : Names) (bytes : List ℕ) (s : HostState) (p : ParaState) (kept : Kept) (saved : Option (List ℕ)) → bytes ≡ [] →
    record { names = names; clock = clock; ticks = ticks; tube = tube; host = Some s; para = Some p; kept = Some kept; saved = saved; counts = None; bytes = bytes }
    ≡ both_left clock ticks tube names s p kept saved
both_is clock ticks tube names bytes s p kept saved none = rw none
