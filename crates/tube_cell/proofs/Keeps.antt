-- Each step on the cell keeps the rule.
use Rattle.std.proofs.Common.{◌≡◌, ◌≢◌, ◌⊎◌, ℕ, ◌+◌, ◌<◌, ◌≤◌, zero, suc, Bool, true, false, true≢false, MatchBool, if◌then◌else◌, cond, List, []}
use Rattle.std.proofs.Common.{◌∷◌, ◌++◌, length, set, drop, refl, sym, ap, ◌∙◌, subst, inl, inr, ⊎_elim, arith, nat_eq, nat_le, append_assoc}
use Rattle.std.proofs.Common.{append-nil, set-set}
use Rattle.std.specs.Prelude.{slice_index, slice_set}
use mathlib.Core.Option.{some, some-ne-none, some-injective}
use lib.ListN.{get_elem?}
use lib.Pointwise.{pointwise, bytes_decides}
use Rattle.std.proofs.lemmas.List.Elements.{All-nil, All-cons, All-append, All-weaker}
use Rattle.std.proofs.lemmas.Bool.Decides.{nat_tests}
use Rattle.crossbeam_utils.specs.Register.{Turns, Forks, Merges}
use Rattle.atomic_table.proofs.Lists.{at_set, set_again}
use Rattle.beeb_bits.specs.declared.Side.{Side}
use Rattle.beeb_bits.specs.declared.Side.TheVariants.{Host, Para}
use Rattle.tube_chip.specs.State.{State, power_on}
use Rattle.tube_chip.specs.Register.{empty}
use Rattle.tube_chip.specs.Events.{Event, merge, after, IsLegal}
use Rattle.tube_chip.specs.Packing.{packed_words, IsRegister, IsChip, PackingIsOneToOne}
use Rattle.tube_cell.specs.Views.{CellSnapshot, words_of, new_snapshot, Role, undivided, one_side, rejoined, View, flip, word_of_other, own_bound}
use Rattle.tube_cell.specs.Views.{other_bound, pick, known_with, tie_offset, Admits, admits, horizon, past_last, AllBelow, below, spec_horizon_after}
use Rattle.tube_cell.specs.Rules.{Consistent, Knows, FitsAs, CellInvariant, whole, spent_view, host_part, para_part, joined_view, GoesOn, confirmed, unconfirmed_events}
use Rattle.tube_cell.specs.Rules.{found_view, Exchanged, published_view, Finds, Publishes, speculated_view, Speculates, told_view, PublishesAndSpeculates}
use Rattle.tube_cell.specs.Rules.{added_view, look_at, looked_view, LooksAs, Looks, Ends}
use Rattle.tube_cell.specs.Steps.{Runs, MayPublish, MayLook, MaySpeculate, MayPublishAndSpeculate}
use Rattle.tube_cell.proofs.Observed.{shows_itself}
use Rattle.tube_cell.proofs.Law.{below_lies}
use Rattle.tube_cell.proofs.Grows.{host_last, host_runs, host_idle, para_knows, para_last, para_runs, para_low, para_idle, runs_end, runs_low}
use Rattle.tube_cell.proofs.Grows.{spec_horizon_after_para, host_knows, spec_horizons_fall, good_calm, good_para, speculating, watched, watches_low, past_append}
use Rattle.tube_cell.proofs.Grows.{below_same}
use Rattle.tube_cell.proofs.Law.{low_cons, low_nil, lower}

nat_le-true : (m n : ℕ) → nat_le m n ≡ true → m ≤ n
nat_le-true m n e = grind (arith, nat_tests)

-- ---- words

packed_long : (c : State) → length (packed_words c) ≡ 6
unfolding packed_words
packed_long c = refl

-- three words after a list
split_words : (xs ys : List ℕ) (a b c d e f : ℕ) → length xs ≡ length ys → xs ++ a ∷ b ∷ c ∷ [] ≡ ys ++ d ∷ e ∷ f ∷ [] → (xs ≡ ys) × (a ≡ d) × (b ≡ e) × (c ≡ f)
split_words [] [] a b c d e f same eq = (refl, ap (λ l. slice_index l 0) eq, ap (λ l. slice_index l 1) eq, ap (λ l. slice_index l 2) eq)
split_words [] (y ∷ ys) a b c d e f same eq = absurd (omega arith)
split_words (x ∷ xs) [] a b c d e f same eq = absurd (omega arith)
split_words (x ∷ xs) (y ∷ ys) a b c d e f same eq =
    let r = split_words xs ys a b c d e f (omega arith) (ap (drop 1) eq) in
    (λ i. slice_index (eq i) 0 ∷ r.0 i, r.1, r.2, r.3)

-- the words determine what they represent
pub words-one : PackingIsOneToOne → (k l : CellSnapshot) → IsChip k.chip → IsChip l.chip → words_of k ≡ words_of l → k ≡ l
words-one one k l well well' e =
    let r = split_words (packed_words k.chip) (packed_words l.chip) k.host k.para k.spec_horizon l.host l.para l.spec_horizon (packed_long k.chip ∙ sym (packed_long l.chip)) e in
    let c = one k.chip l.chip well well' r.0 in
    λ i. record {
      chip = c i;
      host = r.1 i;
      para = r.2 i;
      spec_horizon = r.3 i;
    }

-- the chip at power-on is one
one_byte : (room : ℕ) (b : ℕ) → b < 256 → IsRegister room (empty b)
one_byte room b lt = record { fits = omega arith; bytes = All-cons (λ n. n < 256) b [] lt (All-nil (λ n. n < 256)) }

pub new-well : IsChip power_on
new-well =
    record {
      to_host = record { first = none 24; second = none 1; third = record { fits = omega arith; bytes = All-cons (λ n. n < 256) 0 [] (omega arith) (All-nil (λ n. n < 256)) }; fourth = none 1 };
      to_para = record { first = none 1; second = none 1; third = none 2; fourth = none 1 };
      nmis = omega arith;
      resets = omega arith;
    }
  where
    none : (room : ℕ) → IsRegister room (empty 0)
    none room = one_byte room 0 (omega arith)

-- ---- what a pass fits

-- a step of one side leaves the fit of every other pass, but may change that of the other side's
others : (s : Side) (k n : CellSnapshot) (a b a' b' : List Event) (hs ps hs' ps' j : ℕ) (u : View) → j ≢ pick s hs ps
    → (FitsAs k a b hs ps (one_side (flip s)) j u → FitsAs n a' b' hs' ps' (one_side (flip s)) j u)
    → (r : Role) → FitsAs k a b hs ps r j u → FitsAs n a' b' hs' ps' r j u
others s k n a b a' b' hs ps hs' ps' j u apart keep r f = grind arith

-- the view that a pass was set to
at_again : (views : List View) (pass : ℕ) (v u : View) → get_elem? views pass ≡ some v → get_elem? (set views pass u) pass ≡ some u
at_again [] pass v u at = absurd (some-ne-none v (sym at))
at_again (x ∷ xs) zero v u at = refl
at_again (x ∷ xs) (suc pass) v u at = at_again xs pass v u at

-- what holds of each pass after one pass's view became w
after_set : (F : ℕ → View → Type 0) (views : List View) (pass : ℕ) (w : View) → ((j : ℕ) (u : View) → j ≢ pass → get_elem? views j ≡ some u → F j u) → F pass w
    → (j : ℕ) (u : View) → get_elem? (set views pass w) j ≡ some u → F j u
after_set F views pass w rest mine j u e =
    ⊎_elim (λ (x : (j ≡ pass) × (w ≡ u)). rw (x.0, ← x.1) mine)
    (λ (x : (j ≢ pass) × (get_elem? views j ≡ some u)). rest j u x.0 x.1)
    (at_set views pass j w u e)

-- given that the rule holds
module _ {words : List ℕ} {views : List View} (k : CellInvariant words views) where
  -- what holds of a pass, given that the rule holds
  abbrev FitsIn : Role → ℕ → View → Type 0
  FitsIn r j v = FitsAs k.known k.host k.para k.host_seat k.para_seat r j v

  fit_of : (s : Side) (j : ℕ) (v : View) → get_elem? views j ≡ some v → v.role ≡ one_side s
      → FitsIn (one_side s) j v
  fit_of s j v at role = subst (λ r. FitsIn r j v) role (k.each j v at)

  seat_of : (s : Side) (j : ℕ) (u : View) → FitsIn (one_side s) j u → j ≡ pick s k.host_seat k.para_seat
  seat_of Host j u f = f.0
  seat_of Para j u f = f.0

  knows_of : (s : Side) (j : ℕ) (u : View) → FitsIn (one_side s) j u → Knows s k.known u.known
  knows_of Host j u f = f.3
  knows_of Para j u f = f.3

  -- the pass of a side takes a step to these words and lists
  kept_step : (s : Side) {next : List ℕ} (pass : ℕ) (v w : View) {n : CellSnapshot} {a b : List Event}
      → get_elem? views pass ≡ some v → v.role ≡ one_side s → next ≡ words_of n → IsChip n.chip → Consistent n a b
      → ((j : ℕ) (u : View) → FitsIn (one_side (flip s)) j u → FitsAs n a b k.host_seat k.para_seat (one_side (flip s)) j u)
      → w.role ≡ one_side s → FitsAs n a b k.host_seat k.para_seat (one_side s) pass w
      → CellInvariant next (set views pass w)
  kept_step s pass v w {n} {a} {b} at role words_are well good keep role' fits =
      let seat = seat_of s pass v (fit_of s pass v at role) in
      record {
        known = n;
        host = a;
        para = b;
        host_seat = k.host_seat;
        para_seat = k.para_seat;
        words_are = words_are;
        well = well;
        good = good;
        each = after_set (λ j u. FitsAs n a b k.host_seat k.para_seat u.role j u) views pass w
            (λ j u apart e. others s k.known n k.host k.para a b k.host_seat k.para_seat _ _ j u (λ same. apart (same ∙ sym seat)) (keep j u) u.role (k.each j u e))
            (subst (λ r. FitsAs n a b k.host_seat k.para_seat r pass w) (sym role') fits);
      }

-- ---- the words are found

-- a pass that knows the words as they are
knows_all : (s : Side) (k : CellSnapshot) → IsChip k.chip → Knows s k k
knows_all s k well = grind (arith, nat_tests)

goes_on : {s : Side} {k v : CellSnapshot} → Knows s k v → GoesOn (one_side s) v k
goes_on knows = (sym knows.own_word, knows.other_word, knows.spec_horizon, knows.same_chip)

settles : (k : CellSnapshot) (mine speculative : List Event)
    → mine ++ below k.spec_horizon speculative ≡ (mine ++ confirmed k speculative) ++ below k.spec_horizon (unconfirmed_events k speculative)
settles k mine [] = sym (append-nil (mine ++ []))
settles k mine (e ∷ es) =
    elim (nat_le k.spec_horizon k.host) as (λ b. mine ++ below k.spec_horizon (e ∷ es) ≡ (mine ++ cond b (below k.spec_horizon (e ∷ es)) []) ++ below k.spec_horizon (cond b [] (e ∷ es))) [
      | true ↦ sym (append-nil (mine ++ below k.spec_horizon (e ∷ es)))
      | false ↦ ap (λ l. l ++ below k.spec_horizon (e ∷ es)) (sym (append-nil mine))
    ]

pub confirmed_low : (k : CellSnapshot) (speculative : List Event) → AllBelow k.host (confirmed k speculative)
confirmed_low k [] = low_nil
confirmed_low k (x ∷ xs) =
    (elim (nat_le k.spec_horizon k.host) as (λ b. nat_le k.spec_horizon k.host ≡ b → AllBelow k.host (cond b (below k.spec_horizon (x ∷ xs)) [])) [
      | true ↦ λ h.
          let le = nat_le-true k.spec_horizon k.host h in
          All-weaker (λ e. e.tick < k.spec_horizon) (λ e. e.tick < k.host) (λ e l. omega arith) (below k.spec_horizon (x ∷ xs)) (below_lies k.spec_horizon (x ∷ xs))
      | false ↦ λ h. low_nil
    ]) refl

fits_found : (s : Side) {words : List ℕ} {views : List View} (k : CellInvariant words views) (j : ℕ) (v : View) → FitsIn k (one_side s) j v → FitsIn k (one_side s) j (found_view v k.known)
fits_found Host k j v f = (f.0, ap (λ l. v.mine ++ confirmed k.known l) f.2 ∙ append-nil v.mine ∙ f.1, ap (unconfirmed_events k.known) f.2, knows_all Host k.known k.well)
fits_found Para k j v f =
    (f.0, f.1 ∙ settles k.known v.mine v.speculative, All-append (λ e. e.tick < k.known.host) v.mine (confirmed k.known v.speculative) f.2 (confirmed_low k.known v.speculative), knows_all Para k.known k.well)

-- a step that changes no word and no list
kept_found : (s : Side) {words : List ℕ} {views : List View} (k : CellInvariant words views) (pass : ℕ) (v : View) → get_elem? views pass ≡ some v → v.role ≡ one_side s
    → CellInvariant words (set views pass (found_view v k.known)) × Finds v words words (found_view v k.known)
kept_found s k pass v at role =
    let fit = fit_of k s pass v at role in (
      kept_step k s _ v _ at role k.words_are k.well k.good (λ j u f. f) role (fits_found s k pass v fit),
      record {
        well = k.well;
        words_are = k.words_are;
        view_is = refl;
        goes_on = rw role (goes_on (knows_of k s pass v fit));
      },
    )

pub learns : (s : Side) (pass : ℕ) (v : View) → v.role ≡ one_side s → Turns CellInvariant pass v (λ x. x) Finds
learns s pass v role words views k at =
    let f = kept_found s k pass v at role in
    (found_view v k.known, f.0, f.1)

-- ---- exchanges

-- an exchange after which the view is `goal v`, if the words were those known
exchanges : (s : Side) (pass : ℕ) (v : View) (goal : View → View) (next : List ℕ) → v.role ≡ one_side s
    → ((words : List ℕ) (views : List View) (k : CellInvariant words views) → get_elem? views pass ≡ some v → words ≡ words_of v.known → CellInvariant next (set views pass (goal v)))
    → Turns CellInvariant pass v (λ x. if pointwise nat_eq x (words_of v.known) then next else x) (Exchanged goal)
exchanges s pass v goal next role hit words views k at = go (pointwise nat_eq words (words_of v.known)) refl
  where
    go : (b : Bool) → pointwise nat_eq words (words_of v.known) ≡ b
        → (w : View) × CellInvariant (if b then next else words) (slice_set views pass w) × Exchanged goal v words (if b then next else words) w
    go true e =
        let is : words ≡ words_of v.known = (bytes_decides words (words_of v.known)).0 e in
        (goal v, hit words views k at is, record { hit = λ _. refl; missed = λ not. absurd (not is) })
    go false e =
        let f = kept_found s k pass v at role in
        (found_view v k.known, f.0, record { hit = λ is. absurd (true≢false (sym ((bytes_decides words (words_of v.known)).1 is) ∙ e)); missed = λ _. f.1 })

knows_with : (s : Side) {n x : CellSnapshot} → IsChip n.chip → x ≡ n → Knows s n x
knows_with s {n} well is = subst (Knows s n) (sym is) (knows_all s n well)

-- if the words are those known, the pass knows the words as they are
known_is : PackingIsOneToOne → (s : Side) {words : List ℕ} {views : List View} (k : CellInvariant words views) (pass : ℕ) (v : View)
    → get_elem? views pass ≡ some v → v.role ≡ one_side s → words ≡ words_of v.known → v.known ≡ k.known
known_is one s k pass v at role is =
    let fit = fit_of k s pass v at role in
    words-one one v.known k.known (knows_of k s pass v fit).well k.well (sym is ∙ k.words_are)

host_publishes : PackingIsOneToOne → (pass : ℕ) {v : View} {es : List Event} {last : State} {end : ℕ} {next : CellSnapshot} → MayPublish Host es last end v → IsChip last
    → next ≡ known_with Host last end (word_of_other Host v.known) (spec_horizon_after Host v.known.chip v.known.spec_horizon es)
    → (words : List ℕ) (views : List View) (k : CellInvariant words views) → get_elem? views pass ≡ some v → words ≡ words_of v.known
    → CellInvariant (words_of next) (set views pass (published_view v es next))
host_publishes one pass {v} {es} {last} {end} {next} may well with_is words views k at is =
    let fit = fit_of k Host pass v at may.role in
    let same : v.known ≡ k.known = known_is one Host k pass v at may.role is in
    let n : CellSnapshot = host_last k.known es last end in
    let runs = rw (same, fit.1) at may.runs in
    let next_is : next ≡ n = with_is ∙ ap (λ x. host_last x es last end) same in
    let r = runs_end _ _ _ _ es _ _ _ runs in
    let step = host_runs es _ _ _ k.good (omega arith) (omega arith) runs in
    kept_step k Host _ v _ at may.role (ap words_of next_is) well step.good (λ j u f. (
      f.0,
      step.keeps u.mine u.speculative f.2 f.1,
      lower u.mine f.2 (omega arith),
      para_knows n f.3 step.para_word step.host_up step.spec_horizon (λ lt. host_idle _ _ _ _ _ _ _ runs (omega arith)),
    ))
    may.role (fit.0, ap (λ l. l ++ es) fit.1, may.none_speculative, knows_with Host well next_is)

para_publishes : PackingIsOneToOne → (pass : ℕ) {v : View} {es : List Event} {last : State} {end : ℕ} {next : CellSnapshot} → MayPublish Para es last end v → IsChip last
    → next ≡ known_with Para last end (word_of_other Para v.known) (spec_horizon_after Para v.known.chip v.known.spec_horizon es)
    → (words : List ℕ) (views : List View) (k : CellInvariant words views) → get_elem? views pass ≡ some v → words ≡ words_of v.known
    → CellInvariant (words_of next) (set views pass (published_view v es next))
para_publishes one pass {v} {es} {last} {end} {next} may well with_is words views k at is =
    let fit = fit_of k Para pass v at may.role in
    let same : v.known ≡ k.known = known_is one Para k pass v at may.role is in
    let n : CellSnapshot = para_last k.known last end in
    let bare : v.mine ≡ k.para = sym (fit.1 ∙ ap (λ l. v.mine ++ below k.known.spec_horizon l) may.none_speculative ∙ append-nil v.mine) in
    let runs = rw (same, bare) at may.runs in
    let next_is : next ≡ n =
    with_is ∙ ap (λ t. known_with Para last end (word_of_other Para v.known) t) (spec_horizon_after_para v.known.chip v.known.spec_horizon es) ∙ ap (λ x. para_last x last end) same in
    let r = runs_end _ _ _ _ es _ _ _ runs in
    let good = para_runs es _ _ _ k.good (omega arith) (omega arith) runs in
    kept_step k Para _ v _ at may.role (ap words_of next_is) well good (λ j u f. (
      f.0,
      f.1,
      f.2,
      host_knows n f.3 refl (omega arith) (omega arith)
          (λ le. para_idle _ _ _ _ _ _ _ runs (omega arith)),
    ))
    may.role (
      fit.0,
      ap (λ l. l ++ es) (sym bare) ∙ sym (append-nil (v.mine ++ es)) ∙ ap (λ l. (v.mine ++ es) ++ below n.spec_horizon l) (sym may.none_speculative),
      All-append (λ e. e.tick < k.known.host) v.mine es fit.2 (para_low _ _ _ es _ _ _ runs),
      knows_with Para well next_is,
    )

pub publishes : PackingIsOneToOne → (s : Side) (pass : ℕ) {v : View} {es : List Event} {last : State} {end : ℕ} {next : CellSnapshot} → MayPublish s es last end v → IsChip last
    → next ≡ known_with s last end (word_of_other s v.known) (spec_horizon_after s v.known.chip v.known.spec_horizon es)
    → Turns CellInvariant pass v (λ x. if pointwise nat_eq x (words_of v.known) then words_of next else x) (Publishes es next)
publishes one Host pass {v} {es} {next} may well is = exchanges Host pass v (λ u. published_view u es next) (words_of next) may.role (host_publishes one pass may well is)
publishes one Para pass {v} {es} {next} may well is = exchanges Para pass v (λ u. published_view u es next) (words_of next) may.role (para_publishes one pass may well is)

-- ---- speculative events

speculates_hit : PackingIsOneToOne → (pass : ℕ) {v : View} {es : List Event} {end : ℕ} {next : CellSnapshot} → MaySpeculate es end v → next ≡ speculating v.known end
    → (words : List ℕ) (views : List View) (k : CellInvariant words views) → get_elem? views pass ≡ some v → words ≡ words_of v.known
    → CellInvariant (words_of next) (set views pass (speculated_view v es next))
speculates_hit one pass {v} {es} {end} {next} may with_is words views k at is =
    let fit = fit_of k Para pass v at may.role in
    let same : v.known ≡ k.known = known_is one Para k pass v at may.role is in
    let n : CellSnapshot = speculating k.known end in
    let next_is : next ≡ n = with_is ∙ ap (λ x. speculating x end) same in
    let from = horizon (own_bound Para k.known) v.mine in
    let watches = rw same at may.watches in
    let low : AllBelow k.known.spec_horizon v.speculative = rw same at may.speculative in
    let para_is : k.para ≡ v.mine ++ v.speculative = fit.1 ∙ ap (λ l. v.mine ++ l) (below_same k.known.spec_horizon v.speculative low) in
    let past : past_last k.para ≤ from =
    let a = past_append k.known.spec_horizon v.mine v.speculative low in let b : past_last k.para ≡ past_last (v.mine ++ v.speculative) = ap past_last para_is in omega arith in
    let stop : from ≤ end = rw same at may.later in
    let good = watched es k.good (omega arith) past stop watches in
    let low' : AllBelow end (v.speculative ++ es) =
    All-append (λ e. e.tick < end) v.speculative es (lower v.speculative low (omega arith)) (watches_low _ _ _ es _ watches) in
    kept_step k Para _ v _ at may.role (ap words_of next_is) k.well good
    (λ j u f. (f.0, f.1, f.2, host_knows n f.3 refl (omega arith) (omega arith) (λ le. refl)))
    may.role (
      fit.0,
      ap (λ l. l ++ es) para_is ∙ append_assoc v.mine v.speculative es ∙ ap (λ l. v.mine ++ l) (sym (below_same end (v.speculative ++ es) low')),
      fit.2,
      knows_with Para k.well next_is,
    )

pub speculates : PackingIsOneToOne → (pass : ℕ) {v : View} {es : List Event} {end : ℕ} {next : CellSnapshot} → MaySpeculate es end v → next ≡ speculating v.known end
    → Turns CellInvariant pass v (λ x. if pointwise nat_eq x (words_of v.known) then words_of next else x) (Speculates es next)
speculates one pass {v} {es} {next} may is = exchanges Para pass v (λ u. speculated_view u es next) (words_of next) may.role (speculates_hit one pass may is)

-- ---- both at once: the rule is kept after some events are published, and then after others join
-- the list too

both_hit : PackingIsOneToOne → (pass : ℕ) {v : View} {es seen : List Event} {last : State} {word end : ℕ} {next : CellSnapshot} → MayPublishAndSpeculate es last word seen end v → IsChip last
    → next ≡ known_with Para last word (word_of_other Para v.known) end
    → (words : List ℕ) (views : List View) (k : CellInvariant words views) → get_elem? views pass ≡ some v → words ≡ words_of v.known
    → CellInvariant (words_of next) (set views pass (told_view v es seen next))
both_hit one pass {v} {es} {seen} {last} {word} {end} {next} may well with_is words views k at is =
    let mid : CellSnapshot = known_with Para last word (word_of_other Para v.known) v.known.spec_horizon in
    let u : View = published_view v es mid in
    let mid_is : mid ≡ known_with Para last word (word_of_other Para v.known) (spec_horizon_after Para v.known.chip v.known.spec_horizon es) =
    ap (λ t. known_with Para last word (word_of_other Para v.known) t) (sym (spec_horizon_after_para v.known.chip v.known.spec_horizon es)) in
    let first : CellInvariant (words_of mid) (set views pass u) = para_publishes one pass may.publish well mid_is words views k at is in
    let from = horizon (own_bound Para v.known) v.mine in
    let runs : Runs Para v.known.host v.known.spec_horizon from v.known.chip es last word = may.publish.runs in
    let r = runs_end _ _ _ _ es _ _ _ runs in
    let past = past_append word v.mine es (runs_low _ _ _ _ es _ _ _ runs) in
    let may' : MaySpeculate seen end u = record {
      role = may.publish.role;
      speculative = subst (AllBelow v.known.spec_horizon) (sym may.publish.none_speculative) low_nil;
      later = omega arith;
      watches = let same : word ≡ horizon (own_bound Para mid) u.mine = omega arith in rw same at may.watches;
    } in
    let second : CellInvariant (words_of next) (set (set views pass u) pass (told_view v es seen next)) =
    speculates_hit one pass may' with_is (words_of mid) (set views pass u) first (at_again views pass v u at) refl in
    subst (CellInvariant (words_of next)) (set-set views pass u (told_view v es seen next)) second

pub publishes_and_speculates : PackingIsOneToOne → (pass : ℕ) {v : View} {es seen : List Event} {last : State} {word end : ℕ} {next : CellSnapshot}
    → MayPublishAndSpeculate es last word seen end v → IsChip last
    → next ≡ known_with Para last word (word_of_other Para v.known) end
    → Turns CellInvariant pass v (λ x. if pointwise nat_eq x (words_of v.known) then words_of next else x) (PublishesAndSpeculates es seen next)
publishes_and_speculates one pass {v} {es} {seen} {next} may well is =
    exchanges Para pass v (λ u. told_view u es seen next) (words_of next) may.publish.role (both_hit one pass may well is)

-- ---- look

-- the look joined the list: what the pass fits then
kept_looked : (s : Side) {words : List ℕ} {views : List View} (k : CellInvariant words views) (pass : ℕ) {v : View} {t : ℕ}
    → get_elem? views pass ≡ some v → MayLook s t v → Admits s (other_bound s k.known) t
    → CellInvariant words (set views pass (looked_view v t s k.known))
kept_looked Host k pass {v} {t} at may admitted =
    let fit = fit_of k Host pass v at may.role in
    let n = k.known in
    let word = fit.3.own_word in
    let later = may.later in
    let mine : past_last v.mine ≡ past_last k.host = ap past_last fit.1 in
    let good = good_calm (look_at t Host n.chip) k.good refl (omega arith) (omega arith) (omega arith) refl n.host (omega arith)
    (λ a. absurd (true≢false (sym a))) (shows_itself n.chip) in
    kept_step k Host _ v _ at may.role k.words_are k.well good (λ j u f. f) may.role
    (fit.0, ap (λ l. l ++ look_at t Host n.chip ∷ []) fit.1, ap (unconfirmed_events n) may.none_speculative, knows_all Host n k.well)
kept_looked Para k pass {v} {t} at may admitted =
    let fit = fit_of k Para pass v at may.role in
    let n = k.known in
    let fall = spec_horizons_fall v.known n fit.3.spec_horizon in
    let bare : k.para ≡ v.mine = fit.1 ∙ ap (λ l. v.mine ++ below n.spec_horizon l) may.none_speculative ∙ append-nil v.mine in
    let mine : past_last v.mine ≡ past_last k.para = ap past_last (sym bare) in
    let look : Event = look_at t Para n.chip in
    let good = good_para look n.para n.spec_horizon k.good refl (omega arith) (omega arith) refl (omega arith) (omega arith)
    (λ a. absurd (true≢false (sym a))) (λ a. absurd (true≢false (sym a))) (λ a. absurd (true≢false a)) in
    kept_step k Para _ v _ at may.role k.words_are k.well good (λ j u f. f) may.role (
      fit.0,
      ap (λ l. l ++ look ∷ []) bare ∙ sym (append-nil (v.mine ++ look ∷ [])) ∙ ap (λ l. (v.mine ++ look ∷ []) ++ below n.spec_horizon (unconfirmed_events n l)) (sym may.none_speculative),
      All-append (λ e. e.tick < n.host) v.mine (look ∷ []) fit.2 (low_cons look [] (omega arith) low_nil),
      knows_all Para n k.well,
    )

pub looks : {s : Side} (pass : ℕ) {v : View} {t : ℕ} → MayLook s t v → Turns CellInvariant pass v (λ x. x) (Looks t)
looks {s} pass {v} {t} may words views k at = go (admits s (other_bound s k.known) t) refl
  where
    told : (b : Bool) (w : View) → w.known ≡ k.known → admits s (other_bound s k.known) t ≡ b
        → MatchBool b (w ≡ looked_view v t s w.known) (w ≡ found_view v w.known) → Looks t v words words w
    told b w same e f =
        let fit = fit_of k s pass v at may.role in
        let on = goes_on (knows_of k s pass v fit) in
        subst (λ r. LooksAs t r v words w) (sym may.role)
        (subst (λ x. IsChip x.chip × (words ≡ words_of x) × GoesOn (one_side s) v.known x
        × MatchBool (admits s (other_bound s x) t) (w ≡ looked_view v t s w.known) (w ≡ found_view v w.known)) (sym same)
        (k.well, k.words_are, on, rw e f))

    go : (b : Bool) → admits s (other_bound s k.known) t ≡ b → (w : View) × CellInvariant words (slice_set views pass w) × Looks t v words words w
    go true e = (
      looked_view v t s k.known,
      kept_looked s k pass at may (nat_le-true (t + tie_offset s) (other_bound s k.known) e),
      told true (looked_view v t s k.known) refl e refl,
    )
    go false e =
        let f = kept_found s k pass v at may.role in
        (found_view v k.known, f.0, told false (found_view v k.known) refl e refl)

at_snoc : (l : List View) (a b : View) (j : ℕ) → get_elem? (l ++ a ∷ []) j ≡ some b → (get_elem? l j ≡ some b) ⊎ ((j ≡ length l) × (a ≡ b))
at_snoc [] a b zero e = inr (refl, some-injective a b e)
at_snoc [] a b (suc j) e = absurd (some-ne-none b (sym e))
at_snoc (x ∷ xs) a b zero e = inl e
at_snoc (x ∷ xs) a b (suc j) e = ⊎_elim (λ t. inl t) (λ (t : (j ≡ length xs) × (a ≡ b)). inr (ap suc t.0, t.1)) (at_snoc xs a b j e)

pub begins : CellInvariant (words_of new_snapshot) (whole ∷ [])
begins = record {
  known = new_snapshot;
  host = [];
  para = [];
  host_seat = 0;
  para_seat = 0;
  words_are = refl;
  well = new-well;
  good = record {
    chip_is = refl;
    legal = record { rises = tt; answered = tt };
    host_fine = record { sided = All-nil _; below_own = All-nil _; admitted = All-nil _; climbs = tt };
    para_fine = record { sided = All-nil _; below_own = All-nil _; admitted = All-nil _; changes = All-nil _; climbs = tt };
  };
  each = one;
}
  where
    one : (j : ℕ) (v : View) → get_elem? (whole ∷ []) j ≡ some v → FitsAs new_snapshot [] [] 0 0 v.role j v
    one zero v e = subst (λ u. FitsAs new_snapshot [] [] 0 0 u.role 0 u) (some-injective _ _ e) (refl, refl, refl, refl, refl, low_nil, refl)
    one (suc j) v e = absurd (some-ne-none v (sym e))

-- what holds of a pass if the parasite's is at this seat
abbrev FitsWith : {words : List ℕ} {views : List View} → CellInvariant words views → ℕ → ℕ → View → Type 0
FitsWith k ps j u = FitsAs k.known k.host k.para k.host_seat ps u.role j u

-- all but the parasite's pass
unmoved : {words : List ℕ} {views : List View} (k : CellInvariant words views) (ps j : ℕ) (u : View) → j ≢ k.para_seat → FitsIn k u.role j u → FitsWith k ps j u
unmoved k ps j u apart f = grind (arith, nat_tests)

-- the rule, of other passes, the parasite's at this seat
seated : {words : List ℕ} {views : List View} (k : CellInvariant words views) (next : List View) (ps : ℕ)
    → ((j : ℕ) (u : View) → get_elem? next j ≡ some u → FitsWith k ps j u) → CellInvariant words next
seated k next ps each = record {
  known = k.known;
  host = k.host;
  para = k.para;
  host_seat = k.host_seat;
  para_seat = ps;
  words_are = k.words_are;
  well = k.well;
  good = k.good;
  each = each;
}

-- a pass in two: what it keeps, and what goes to a new one
forked : {words : List ℕ} {views : List View} (k : CellInvariant words views) (pass ps : ℕ) (w given : View)
    → ((j : ℕ) (u : View) → j ≢ pass → FitsIn k u.role j u → FitsWith k ps j u) → FitsWith k ps pass w → FitsWith k ps (length (set views pass w)) given
    → CellInvariant words (set views pass w ++ given ∷ [])
forked {views = views} k pass ps w given rest kept new = seated k (set views pass w ++ given ∷ []) ps (λ j u e. ⊎_elim
    (λ was. after_set (FitsWith k ps) views pass w (λ i x apart at. rest i x apart (k.each i x at)) kept j u was)
    (λ (t : (j ≡ length (set views pass w)) × (given ≡ u)). rw (t.0, ← t.1) new)
    (at_snoc (set views pass w) given u j e))

pub halves : (pass : ℕ) (v : View) → v.role ≡ undivided → Forks CellInvariant pass v (host_part v) (para_part v)
halves pass v role words views k at =
    let f : FitsIn k undivided pass v = rw role at (k.each pass v at) in
    let seat = length (set views pass (host_part v)) in
    forked k pass seat (host_part v) (para_part v) (λ j u apart. unmoved k seat j u (λ same. apart (same ∙ sym f.1)))
    (f.0, f.2, f.4, subst (Knows Host k.known) (sym f.6) (knows_all Host k.known k.well)) (
      refl,
      sym f.3 ∙ sym (append-nil v.theirs) ∙ ap (λ l. v.theirs ++ below k.known.spec_horizon l) (sym f.4),
      subst (AllBelow k.known.host) (sym f.3) f.5,
      subst (Knows Para k.known) (sym f.6) (knows_all Para k.known k.well),
    )

-- the parasite's view goes to a new pass
pub parts : (pass : ℕ) (v : View) → v.role ≡ one_side Para → Forks CellInvariant pass v spent_view v
parts pass v role words views k at =
    let f = fit_of k Para pass v at role in
    let seat = length (set views pass spent_view) in
    forked k pass seat spent_view v (λ j u apart. unmoved k seat j u (λ same. apart (same ∙ sym f.0))) tt
    (rw role (refl, f.1, f.2, f.3))

-- events join the unpublished ones of a pass
pub adds : (s : Side) (pass : ℕ) (v : View) (es : List Event) → v.role ≡ one_side s → Forks CellInvariant pass v (added_view v es) spent_view
adds s pass v es role words views k at =
    forked k pass k.para_seat (added_view v es) spent_view (λ j u apart f. f) (subst (λ r. FitsIn k r pass (added_view v es)) (sym role) (same s (fit_of k s pass v at role))) tt
  where
    same : (s : Side) → FitsIn k (one_side s) pass v → FitsIn k (one_side s) pass (added_view v es)
    same Host f = f
    same Para f = f

-- the host's pass takes both lists
pub merges : (pass : ℕ) (v : View) (giver : ℕ) (w : View) → v.role ≡ one_side Host → w.role ≡ one_side Para → w.speculative ≡ []
    → Merges CellInvariant pass v giver w (joined_view v w) spent_view
merges pass v giver w host para none words views k at apart there =
    let taken = joined_view v w in
    let was : get_elem? views giver ≡ some w = ⊎_elim (λ (t : (giver ≡ pass) × (taken ≡ w)). absurd (apart t.0))
    (λ (t : (giver ≢ pass) × (get_elem? views giver ≡ some w)). t.1) (at_set views pass giver taken w there) in
    let f = fit_of k Host pass v at host in
    let g = fit_of k Para giver w was para in
    let joined : FitsWith k k.host_seat pass taken = (f.0, f.0, f.1, sym (g.1 ∙ ap (λ l. w.mine ++ below k.known.spec_horizon l) none ∙ append-nil w.mine)) in
    seated k (set (set views pass taken) giver spent_view) k.host_seat (after_set (FitsWith k k.host_seat) (set views pass taken) giver spent_view
    (λ j u off e. after_set (λ i x. i ≢ giver → FitsWith k k.host_seat i x) views pass taken
    (λ i x _ at' off'. unmoved k k.host_seat i x (λ same. off' (same ∙ sym g.0)) (k.each i x at')) (λ _. joined) j u e off) tt)

pub ends : (pass : ℕ) (v : View) → v.role ≡ rejoined → Turns CellInvariant pass v (λ x. x) Ends
ends pass v role words views k at =
    let f : FitsIn k rejoined pass v = rw role at (k.each pass v at) in
    let lists : merge k.host k.para ≡ merge v.mine v.theirs = λ i. merge (sym f.2 i) (sym f.3 i) in (
      v,
      subst (CellInvariant words) (sym (set_again views pass v at)) k,
      record { known = k.known; well = k.well; words_are = k.words_are; chip_is = k.good.chip_is ∙ ap after lists; legal = subst IsLegal lists k.good.legal },
    )
