-- What publish, and publish_and_speculate, require and ensure.
use Rattle.std.proofs.Common.{◌≡◌, ℕ, ◌<◌, ◌≤◌, ◌^◌, min, if◌then◌else◌, List, [], ◌++◌, refl, sym, ap, ◌∙◌, subst, arith, nat_eq, append-nil}
use lib.Pointwise.{pointwise}
use Rattle.std.proofs.lemmas.List.Elements.{All-append}
use Rattle.atomic_table.specs.Seated.{TableId}
use Rattle.crossbeam_utils.specs.Register.{Turns}
use Rattle.beeb_bits.specs.declared.Side.{Side}
use Rattle.beeb_bits.specs.declared.Side.TheVariants.{Host, Para}
use Rattle.tube_chip.specs.State.{State}
use Rattle.tube_chip.specs.Events.{Event, after_from}
use Rattle.tube_chip.specs.Packing.{IsChip, PackingIsOneToOne}
use Rattle.tube_cell.specs.Views.{CellSnapshot, words_of, View, word_of_other, own_bound, known_with, past_last, AllBelow, spec_horizon_after}
use Rattle.tube_cell.specs.Rules.{CellInvariant, published_view, told_view, PublishesAndSpeculates}
use Rattle.tube_cell.specs.Passes.{PassState, pass_state_of, own_horizon, after_speculate, here, after_publish}
use Rattle.tube_cell.specs.Steps.{Watches, MayPublish, MayPublishAndSpeculate, IsPassOf, CutIs}
use Rattle.tube_cell.proofs.Grows.{watches_low, spec_horizon_after_para}
use Rattle.tube_cell.proofs.Keeps.{publishes_and_speculates}
use Rattle.tube_cell.proofs.Learns.{none_of, pass_fresh, none_low}
use Rattle.tube_cell.proofs.Acts.{runs_later, local_of, here_of}
use Rattle.tube_cell.proofs.Raises.{horizon_speculated}

-- ---- publish

respeculated : {s : Side} (k : CellSnapshot) (c : State) (h a t : ℕ) → s ≡ Para
    → known_with Para c h (word_of_other Para k) t ≡ record (known_with s c h (word_of_other s k) a) { spec_horizon = t }
respeculated k c h a t is = rw is refl

module _ {id : TableId} {s : Side} {words : List ℕ} {old : State} {p : PassState} {v : View} (view : pass_state_of id s v ≡ p) (is : IsPassOf s words old v) where
  pub may_publish : (h : ℕ) → p.speculative ≡ [] → own_horizon p ≤ h → MayPublish s v.ahead old h v
  may_publish h speculative later =
      let later' : own_horizon (pass_state_of id s v) ≤ h = subst (λ q. own_horizon q ≤ h) (sym view) later in
      record {
        role = is.role;
        none_speculative = none_of v view speculative;
        runs = runs_later s _ _ _ _ _ _ _ is.runs later';
      }

  pub is_published : {id' : TableId} {w : View} (h : ℕ) {spec_horizon : ℕ} → id' ≡ id → spec_horizon ≡ spec_horizon_after s v.known.chip v.known.spec_horizon v.ahead
      → w ≡ published_view v v.ahead (known_with s old h (word_of_other s v.known) spec_horizon) → pass_state_of id' s w ≡ after_publish p h
  is_published h cell spec_horizon_is w_is =
      (λ i. pass_state_of (cell i) s (w_is i))
      ∙ (λ i. pass_state_of id s (published_view v v.ahead (known_with s (local_of is i) h (word_of_other s v.known) (spec_horizon_is i))))
      ∙ ap (λ q. after_publish q h) view

  pub may_both : (seen : List Event) (h t : ℕ) → p.side ≡ Para → p.speculative ≡ [] → own_horizon p ≤ h → h ≤ t → Watches Para h (here p) seen t
      → MayPublishAndSpeculate v.ahead old h seen t v
  may_both seen h t side speculative later order watches =
      let s_is : s ≡ Para = ap (λ q. q.side) view ∙ side in
      record {
        publish = rw s_is at (may_publish h speculative later);
        order = order;
        watches = rw (here_of view is) watches;
      }

  pub pass_both : {next : List ℕ} {w : View} (seen : List Event) (h t : ℕ) → p.speculative ≡ [] → IsChip old → Watches Para h (here p) seen t
      → w ≡ told_view v v.ahead seen (known_with Para old h (word_of_other Para v.known) t) → next ≡ words_of (known_with Para old h (word_of_other Para v.known) t) → IsPassOf s next old w
  pass_both {w} seen h t speculative well watches w_is words_are =
      let k : w.known ≡ known_with Para old h (word_of_other Para v.known) t = ap (λ u. u.known) w_is in
      let chip : w.known.chip ≡ old = ap (λ x. x.chip) k in
      let low : AllBelow t (v.speculative ++ seen) = All-append (λ e. e.tick < t) v.speculative seen (none_low t (none_of v view speculative)) (watches_low _ _ _ seen h watches) in
      pass_fresh s w (ap (λ u. u.role) w_is ∙ is.role) (subst IsChip (sym chip) well) (words_are ∙ ap words_of (sym k))
      (rw w_is low) (ap (λ u. u.ahead) w_is) (sym chip)

  pub is_both : {id' : TableId} {w : View} (seen : List Event) (h t : ℕ) → p.side ≡ Para → id' ≡ id → w ≡ told_view v v.ahead seen (known_with Para old h (word_of_other Para v.known) t)
      → pass_state_of id' s w ≡ after_speculate (after_publish p h) seen t
  is_both seen h t side cell w_is =
      let s_is : s ≡ Para = ap (λ q. q.side) view ∙ side in
      let known = (λ j. known_with Para (local_of is j) h (word_of_other Para v.known) t)
      ∙ respeculated v.known (after_from v.known.chip v.ahead) h (spec_horizon_after s v.known.chip v.known.spec_horizon v.ahead) t s_is in
      (λ i. pass_state_of (cell i) s (w_is i)) ∙ ap (λ k. pass_state_of id s (told_view v v.ahead seen k)) known ∙ ap (λ q. after_speculate (after_publish q h) seen t) view

pub publish_spec_horizon : (s : Side) (v : View) {known : ℕ} (cut : ℕ) {spec_horizon : ℕ} → CutIs s cut v → known ≡ v.known.spec_horizon
    → known < 2 ^ 64 → spec_horizon ≡ min known cut
    → spec_horizon ≡ spec_horizon_after s v.known.chip v.known.spec_horizon v.ahead
publish_spec_horizon s v cut cuts known_is small is = is ∙ ap (λ n. min n cut) known_is ∙ sym (cuts v.known.spec_horizon (omega arith))

-- ---- publish_and_speculate

pub both_as : PackingIsOneToOne → (pass : ℕ) {v : View} {es seen : List Event} {last : State} {word spec_horizon : ℕ} {next : CellSnapshot} {old new : List ℕ}
    → MayPublishAndSpeculate es last word seen spec_horizon v → IsChip last
    → next ≡ known_with Para last word (word_of_other Para v.known) spec_horizon → old ≡ words_of v.known → new ≡ words_of next
    → Turns CellInvariant pass v (λ x. if pointwise nat_eq x old then new else x) (PublishesAndSpeculates es seen next)
both_as one pass may well next_is old_is new_is = rw (old_is, new_is) (publishes_and_speculates one pass may well next_is)

-- the own bound with this word, no earlier than it was
published_bound : (s : Side) (k : CellSnapshot) (c : State) (h : ℕ) (es : List Event) → own_bound s k ≤ h
    → own_bound s (known_with s c h (word_of_other s k) (spec_horizon_after s k.chip k.spec_horizon es)) ≡ h
published_bound Host k c h es le = refl
published_bound Para k c h es le = let spec_horizon = spec_horizon_after_para k.chip k.spec_horizon es in omega arith

pub horizon_published : (p : PassState) (h : ℕ) → own_horizon p ≤ h → own_horizon (after_publish p h) ≡ h
horizon_published p h later =
    let own = published_bound p.side p.known (here p) h p.ahead (omega arith) in
    let last = ap past_last (append-nil (p.events ++ p.ahead)) in
    omega arith

pub horizon_both : (p : PassState) {q : PassState} (seen : List Event) (h t : ℕ) → p.side ≡ Para → own_horizon p ≤ h → h ≤ t
    → q ≡ after_speculate (after_publish p h) seen t → own_horizon q ≡ t
horizon_both p seen h t side later order is =
    let low = horizon_published p h later in
    horizon_speculated (after_publish p h) seen t side (omega arith) is
