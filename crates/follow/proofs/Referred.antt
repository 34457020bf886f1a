-- The reference run of a watched party is that of the party, with the starts of its run.
use Rattle.std.proofs.Common.{ℕ, zero, suc, ◌≡◌, ◌+◌, ◌∙◌, nat_eq, refl, ap, List, [], ◌∷◌, ◌++◌, Bool, None, if◌then◌else◌, arith}
use Rattle.beeb_bits.specs.declared.Side.{Side}
use Rattle.beeb_bits.specs.declared.Side.TheVariants.{Host, Para}
use Rattle.tube_trace.specs.Entries.{accesses}
use Rattle.tube_party.specs.Transitions.{Transitions}
use Rattle.tube_party.specs.Replay.{Ended, replay_of}
use Rattle.tube_party.specs.Reference.{Seat, step_leaves, step_if_due, World, with_host, para_part, tick, ticks, start, reference}
use Rattle.follow.specs.Sight.{Sight}
use Rattle.follow.specs.Listing.{listing_of_chosen, replay_listing}
use Rattle.follow.specs.CodeNotes.{Kept, none_kept}
use Rattle.follow.specs.Reference.{due_at, reference_run, reference_listing}
use Rattle.follow.specs.CodeWatched.{Order, Watched, watched_of, watched_transitions}
use Rattle.follow.proofs.Listed.{kept_on, chosen_kept, counted_kept, replay_watched}

abbrev seat : {S T : Type 0} → S → World S T → Seat S
seat s w = record { state = s; chip = w.chip; list = w.list }

module _ {S : Type 0} (m : Transitions S) (sights : S → Sight) (set : Order) where
  abbrev v : Transitions (Watched S)
  v = watched_transitions m sights

  -- a seat of the party, watched
  abbrev watched_seat : Seat S → Kept → Seat (Watched S)
  watched_seat x kept = record { state = watched_of x.state set kept; chip = x.chip; list = x.list }

  due_by : (side : Side) (x : Seat S) (kept : Kept) (is : Bool) →
      (if is then step_leaves v side (watched_seat x kept) (m.asks x.state) else watched_seat x kept)
      ≡ watched_seat (if is then step_leaves m side x (m.asks x.state) else x) (kept_on m sights set kept (if is then x.state ∷ [] else []))
  due_by side x kept is = grind arith

  due_same : (side : Side) (k : ℕ) (x : Seat S) (kept : Kept) →
      step_if_due v side k (watched_seat x kept) ≡ watched_seat (step_if_due m side k x) (kept_on m sights set kept (due_at m k x.state))
  due_same side k x kept = due_by side x kept (nat_eq (m.due x.state) k)

  -- those of some states and others
  kept_more : (k : ℕ) (s : S) (kept : Kept) (states : List S)
      → kept_on m sights set (kept_on m sights set kept (due_at m k s)) states ≡ kept_on m sights set kept (due_at m k s ++ states)
  kept_more k s kept states = grind arith

-- If a replay of the watched party ends as its reference run does, the listing is that of the
-- reference run.

module _ {S T : Type 0} (h : Transitions S) (sights : S → Sight) (p : Transitions T) (set : Order) where
  abbrev hv : Transitions (Watched S)
  hv = watched_transitions h sights

  abbrev watched_host : World S T → Kept → World (Watched S) T
  watched_host w kept = record { host = watched_of w.host set kept; para = w.para; chip = w.chip; list = w.list }

  host_ticks : (j k : ℕ) (w : World S T) (kept : Kept) →
      ticks hv p j k (watched_host w kept) ≡ watched_host (ticks h p j k w) (kept_on h sights set kept (reference_run h p h (λ w. w.host) j k w))
  host_ticks zero k w kept = refl
  host_ticks (suc j) k w kept =
      let on = tick h p k w in
      ap (λ (x : Seat (Watched S)). ticks hv p j (k + 1) (para_part p k x w.para)) (due_same h sights set Host k (seat w.host w) kept)
      ∙ host_ticks j (k + 1) on _ ∙ ap (watched_host (ticks h p j (k + 1) on)) (kept_more h sights set k w.host kept (reference_run h p h (λ w. w.host) j (k + 1) on))

  pub host_replayed : (s : S) (t : T) (n : ℕ) →
      replay_of hv Host (accesses (reference hv p (watched_of s set none_kept) t n).list) n
      (watched_of s set none_kept) ≡ record { machine = (reference hv p (watched_of s set none_kept) t n).host; place = None } →
      replay_listing h sights set.part Host (accesses (reference h p s t n).list) n set.choice s ≡ reference_listing h p h (λ w. w.host) sights set.part set.choice s t n
  host_replayed s t n replayed =
      simp (chosen_kept, counted_kept) at (ap (λ (e : Ended (Watched S)). listing_of_chosen set.part set.choice n e.machine.kept.chosen e.machine.kept.counted)
      (rw (host_ticks n 0 (start s t) none_kept, replay_watched) at replayed))

module _ {S T : Type 0} (h : Transitions S) (p : Transitions T) (sights : T → Sight) (set : Order) where
  abbrev pv : Transitions (Watched T)
  pv = watched_transitions p sights

  abbrev watched_para : World S T → Kept → World S (Watched T)
  watched_para w kept = record { host = w.host; para = watched_of w.para set kept; chip = w.chip; list = w.list }

  para_ticks : (j k : ℕ) (w : World S T) (kept : Kept) →
      ticks h pv j k (watched_para w kept) ≡ watched_para (ticks h p j k w) (kept_on p sights set kept (reference_run h p p (λ w. w.para) j k w))
  para_ticks zero k w kept = refl
  para_ticks (suc j) k w kept =
      let on = tick h p k w in
      let x = step_if_due h Host k (seat w.host w) in
      ap (λ (y : Seat (Watched T)). ticks h pv j (k + 1) (with_host x.state y)) (due_same p sights set Para k (record { state = w.para; chip = x.chip; list = x.list }) kept)
      ∙ para_ticks j (k + 1) on _ ∙ ap (watched_para (ticks h p j (k + 1) on)) (kept_more p sights set k w.para kept (reference_run h p p (λ w. w.para) j (k + 1) on))

  pub para_replayed : (s : S) (t : T) (n : ℕ) →
      replay_of pv Para (accesses (reference h pv s (watched_of t set none_kept) n).list) n
      (watched_of t set none_kept) ≡ record { machine = (reference h pv s (watched_of t set none_kept) n).para; place = None } →
      replay_listing p sights set.part Para (accesses (reference h p s t n).list) n set.choice t ≡ reference_listing h p p (λ w. w.para) sights set.part set.choice s t n
  para_replayed s t n replayed =
      simp (chosen_kept, counted_kept) at (ap (λ (e : Ended (Watched T)). listing_of_chosen set.part set.choice n e.machine.kept.chosen e.machine.kept.counted)
      (rw (para_ticks n 0 (start s t) none_kept, replay_watched) at replayed))
