-- What a step on the cell requires of its pass, and what holds of a pass between two steps.
use Rattle.std.specs.Prelude.{◌≡◌, ◌≢◌, ◌⊎◌, ℕ, ◌+◌, ◌^◌, ◌<◌, ◌≤◌, min, List, [], ◌∷◌, ◌++◌, true, MatchBool, Option}
use Rattle.std.specs.Option.{option_to_list, option_map}
use Rattle.beeb_bits.specs.declared.Side.{Side}
use Rattle.beeb_bits.specs.declared.Side.TheVariants.{Para}
use Rattle.tube_chip.specs.declared.Op.{Op}
use Rattle.tube_chip.specs.State.{State}
use Rattle.tube_chip.specs.Events.{Event}
use Rattle.tube_chip.specs.Packing.{IsChip}
use Rattle.tube_cell.specs.Views.{CellSnapshot, words_of, View, one_side, word_of_other, own_bound, bound_at, other_bound, Admits, admits, horizon}
use Rattle.tube_cell.specs.Views.{AllBelow, is_observation, chip_after_event, Answers, spec_horizon_past, spec_horizon_after}
use Rattle.tube_cell.specs.Rules.{GoesOn, found_view, looked_view}
use Rattle.tube_cell.specs.Passes.{access_at}

-- A side can do these events one after another, the first at `from` or later. The other's bound,
-- from its word and the speculative horizon as this side's events leave it, admits each one. Each
-- has the chip's answer. After the last event the chip is `last`, and all ticks are below `end`.
abbrev pub Runs : Side → ℕ → ℕ → ℕ → State → List Event → State → ℕ → Type 0
Runs s theirs spec_horizon from c [] last end = (last ≡ c) × (from ≤ end)
Runs s theirs spec_horizon from c (e ∷ events) last end =
    (e.side ≡ s) × (from ≤ e.tick) × Admits s (bound_at s theirs spec_horizon) e.tick × Answers c e
    × Runs s theirs (spec_horizon_past s c e spec_horizon) (e.tick + 1) (chip_after_event c e) events last end

-- The pass of side `s` may publish these events: they run from the known chip to `last`, below word
-- `end`.
pub record MayPublish (s : Side) (events : List Event) (last : State) (end : ℕ) (v : View) : Type 0 where
  pub role : v.role ≡ one_side s
  pub none_speculative : v.speculative ≡ []
  pub runs : Runs s (word_of_other s v.known) v.known.spec_horizon (horizon (own_bound s v.known) v.mine) v.known.chip events last end

-- the access of a commit, as the one event that it publishes; none for a raise
abbrev pub accesses : Side → State → Option (ℕ × Op) → List Event
accesses s c asked = option_to_list (option_map (λ a. access_at a.0 s a.1 c) asked)

-- the pass of side `s` may look at tick `t`
pub record MayLook (s : Side) (t : ℕ) (v : View) : Type 0 where
  pub role : v.role ≡ one_side s
  pub none_speculative : v.speculative ≡ []
  pub later : horizon (own_bound s v.known) v.mine ≤ t

-- These observations of a side at chip `c` have rising ticks, from `from` on and below `end`.
abbrev pub Watches : Side → ℕ → State → List Event → ℕ → Type 0
Watches s from c [] end = Unit {0}
Watches s from c (e ∷ events) end =
    (e.side ≡ s) × (is_observation e.query ≡ true) × (from ≤ e.tick) × (e.tick < end) × Answers c e × Watches s (e.tick + 1) c events end

-- The parasite's pass may put these events onto its list speculatively, below `end`.
pub record MaySpeculate (events : List Event) (end : ℕ) (v : View) : Type 0 where
  pub role : v.role ≡ one_side Para
  pub speculative : AllBelow v.known.spec_horizon v.speculative
  pub later : horizon (own_bound Para v.known) v.mine ≤ end
  pub watches : Watches Para (horizon (own_bound Para v.known) v.mine) v.known.chip events end

-- The parasite's pass may publish these events, below `word`, and put observations of the chip
-- after them onto its list speculatively, from `word` on and below `end`.
pub record MayPublishAndSpeculate (events : List Event) (last : State) (word : ℕ) (speculative : List Event) (end : ℕ) (v : View) : Type 0 where
  pub publish : MayPublish Para events last word v
  pub order : word ≤ end
  pub watches : Watches Para word last speculative end

-- the words were found and are known, and a look at tick `t` joined the list if the words admit it
pub record LookedAt (t : ℕ) (s : Side) (words : List ℕ) (v w : View) : Type 0 where
  pub well : IsChip w.known.chip
  pub words_are : words ≡ words_of w.known
  pub goes_on : GoesOn v.role v.known w.known
  pub view_is : MatchBool (admits s (other_bound s w.known) t) (w ≡ looked_view v t s w.known) (w ≡ found_view v w.known)

-- A pass of side `s` that knows these words. Its speculative events lie below the speculative
-- horizon, and its unpublished events run from the known chip to the local one. At most one of the
-- two kinds is present.
pub record IsPassOf (s : Side) (words : List ℕ) (here : State) (v : View) : Type 0 where
  pub role : v.role ≡ one_side s
  pub well : IsChip v.known.chip
  pub words_are : words ≡ words_of v.known
  pub speculative : AllBelow v.known.spec_horizon v.speculative
  pub not_both : v.ahead ≢ [] → v.speculative ≡ []
  pub runs : Runs s (word_of_other s v.known) v.known.spec_horizon (horizon (own_bound s v.known) v.mine) v.known.chip v.ahead here (horizon (own_bound s v.known) (v.mine ++ v.ahead))

-- The tick to which publishing would lower the speculative horizon; 2^64 - 1 or more if it would
-- not.
abbrev pub CutIs : Side → ℕ → View → Type 0
CutIs s cut v = (spec_horizon : ℕ) → spec_horizon < 2 ^ 64 → spec_horizon_after s v.known.chip spec_horizon v.ahead ≡ min spec_horizon cut

-- the local chip after these words are found: it stays if the chip's words did
abbrev pub Local : State → State → State → State → Type 0
Local known old found new = ((found ≡ known) × (new ≡ old)) ⊎ ((found ≢ known) × (new ≡ found))

-- the local chip of a pass that knew `words`, after it has found the words `found`
abbrev pub LocalAfter : List ℕ → State → List ℕ → State → Type 0
LocalAfter words old found new =
    (j k : CellSnapshot) → IsChip j.chip → IsChip k.chip → words ≡ words_of j → found ≡ words_of k → Local j.chip old k.chip new
