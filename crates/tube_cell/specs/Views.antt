-- What the cell's words represent, and what each pass knows of them and of past events.
use Rattle.std.specs.Prelude.{ℕ, ◌≡◌, ◌+◌, ◌<◌, ◌≤◌, min, max, nat_le, nat_lt, List, [], ◌∷◌, ◌++◌, Bool, true, false, ◌||◌, ◌&&◌, ◌==◌, if◌then◌else◌}
use Rattle.std.specs.List.{All}
use mathlib.Core.Bool.{beq}
use Rattle.beeb_bits.specs.declared.Side.{Side}
use Rattle.beeb_bits.specs.declared.Side.TheVariants.{Host, Para}
use Rattle.tube_chip.specs.declared.Lines.{Lines}
use Rattle.tube_chip.specs.declared.Op.TheVariants.{Read, Write, Reset}
use Rattle.tube_chip.specs.State.{State, power_on, lines_of}
use Rattle.tube_chip.specs.Act.{Query, access, look, act, is_status, status}
use Rattle.tube_chip.specs.Events.{Event}
use Rattle.tube_chip.specs.Packing.{packed_words}
use Rattle.tube_cell.specs.declared.local.Readings.{Readings}

-- What the nine words represent: the chip, each side's horizon and the parasite's speculative
-- horizon.
pub record CellSnapshot : Type 0 where
  pub chip : State
  pub host : ℕ
  pub para : ℕ
  -- the parasite's speculative events lie below it
  pub spec_horizon : ℕ

-- the six words of the chip, both horizons, and the speculative horizon
abbrev pub words_of : CellSnapshot → List ℕ
words_of k = packed_words k.chip ++ k.host ∷ k.para ∷ k.spec_horizon ∷ []

-- at power-on
abbrev pub new_snapshot : CellSnapshot
new_snapshot = record { chip = power_on; host = 0; para = 0; spec_horizon = 0 }

-- A pass is the whole before the split, and one side's after it. After the join the host's has both
-- lists, and the parasite's is used up.
pub data Role : Type 0 where
  undivided : Role
  one_side : Side → Role
  rejoined : Role
  used : Role

-- What the rule of the cell sees of a pass.
pub record View : Type 0 where
  pub role : Role
  -- its list of events; `theirs` is the parasite's list, of the whole only
  pub mine : List Event
  pub theirs : List Event
  -- the parasite's speculative observations: the host keeps those below the speculative horizon
  -- found later
  pub speculative : List Event
  -- events not yet published
  pub ahead : List Event
  -- the words as it last found or left them
  pub known : CellSnapshot
  -- the number of its exchanges that published an access
  pub commits : ℕ
  -- the number of rises of the other's bound, as it knows it
  pub higher : ℕ

abbrev pub flip : Side → Side
flip Host = Para
flip Para = Host

-- a side's own word, and the other's
abbrev pub word_of : Side → CellSnapshot → ℕ
word_of Host k = k.host
word_of Para k = k.para

abbrev pub word_of_other : Side → CellSnapshot → ℕ
word_of_other Host k = k.para
word_of_other Para k = k.host

-- A side's bound is its word; for the parasite, the larger of its word and the speculative horizon.
-- Each event that joins the side's list later is at the bound or after it.
abbrev pub own_bound : Side → CellSnapshot → ℕ
own_bound Host k = k.host
own_bound Para k = max k.para k.spec_horizon

-- the other side's bound, with `theirs` as its word and this speculative horizon
abbrev pub bound_at : Side → ℕ → ℕ → ℕ
bound_at Host theirs spec_horizon = max theirs spec_horizon
bound_at Para theirs spec_horizon = theirs

abbrev pub other_bound : Side → CellSnapshot → ℕ
other_bound s k = bound_at s (word_of_other s k) k.spec_horizon

-- of the host's and the parasite's value, the side's own
abbrev pub pick : {X : Type 0} → Side → X → X → X
pick Host x y = x
pick Para x y = y

-- the words with this chip, own word, other's word and speculative horizon
abbrev pub known_with : Side → State → ℕ → ℕ → ℕ → CellSnapshot
known_with Host c mine theirs spec_horizon = record { chip = c; host = mine; para = theirs; spec_horizon = spec_horizon }
known_with Para c mine theirs spec_horizon = record { chip = c; host = theirs; para = mine; spec_horizon = spec_horizon }

-- The other's bound admits the host at ticks up to and including it, and the parasite below it.
abbrev pub tie_offset : Side → ℕ
tie_offset Host = 0
tie_offset Para = 1

abbrev pub admits : Side → ℕ → ℕ → Bool
admits s bound tick = nat_le (tick + tie_offset s) bound

abbrev pub Admits : Side → ℕ → ℕ → Type 0
Admits s bound tick = tick + tie_offset s ≤ bound

-- one more than the tick of the last event
abbrev pub past_last : List Event → ℕ
past_last [] = 0
past_last (e ∷ []) = e.tick + 1
past_last (e ∷ f ∷ events) = past_last (f ∷ events)

-- the own horizon of a pass with this own bound and these events
abbrev pub horizon : ℕ → List Event → ℕ
horizon bound events = max bound (past_last events)

-- the events before the first one at tick `t` or later
abbrev pub below : ℕ → List Event → List Event
below t [] = []
below t (e ∷ events) = if nat_lt e.tick t then e ∷ below t events else []

-- all events at ticks below `t`
abbrev pub AllBelow : ℕ → List Event → Type 0
AllBelow t events = All (λ e. e.tick < t) events

abbrev pub is_access : Query → Bool
is_access (access op) = true
is_access look = false

-- An observation does not change the chip: it is a look or a read of a status register.
abbrev pub is_observation : Query → Bool
is_observation (access (Read number)) = is_status number
is_observation (access (Write number byte)) = false
is_observation (access Reset) = false
is_observation look = true

abbrev pub has_access : List Event → Bool
has_access [] = false
has_access (e ∷ events) = is_access e.query || has_access events

-- the chip after an event
abbrev pub chip_after_event : State → Event → State
chip_after_event c e = (act c e.side e.query).0

-- the event's answer is the chip's
abbrev pub Answers : State → Event → Type 0
Answers c e = (act c e.side e.query).1 ≡ e.answer

-- What a side can observe of a chip: the lines and its status registers.
abbrev pub shown_to : Side → State → Readings
shown_to s c = record {
  lines = lines_of c;
  status = status s 1 c ∷ status s 2 c ∷ status s 3 c ∷ status s 4 c ∷ [];
}

-- and the parasite's
abbrev pub readings_of : State → Readings
readings_of c = shown_to Para c

abbrev pub same_lines : Lines → Lines → Bool
same_lines a b = beq a.prst b.prst && (a.resets == b.resets) && (a.nmis == b.nmis) && beq a.pirq b.pirq && beq a.hirq b.hirq

-- both chips show the parasite the same readings
abbrev pub same_readings : State → State → Bool
same_readings c d =
    same_lines (lines_of c) (lines_of d)
    && (status Para 1 c == status Para 1 d) && (status Para 2 c == status Para 2 d) && (status Para 3 c == status Para 3 d) && (status Para 4 c == status Para 4 d)

-- The speculative horizon after an event of a side at tick `t` that turns chip `old` into `new`. If
-- the host changes what the parasite observes, the horizon falls to `t`.
abbrev pub spec_horizon_next : Side → State → State → ℕ → ℕ → ℕ
spec_horizon_next Host old new t spec_horizon = if same_readings old new then spec_horizon else min spec_horizon t
spec_horizon_next Para old new t spec_horizon = spec_horizon

-- the speculative horizon after event `e` at chip c
abbrev pub spec_horizon_past : Side → State → Event → ℕ → ℕ
spec_horizon_past s c e spec_horizon = spec_horizon_next s c (chip_after_event c e) e.tick spec_horizon

-- the speculative horizon after a side's events, from chip c on
abbrev pub spec_horizon_after : Side → State → ℕ → List Event → ℕ
spec_horizon_after s c spec_horizon [] = spec_horizon
spec_horizon_after s c spec_horizon (e ∷ events) = spec_horizon_after s (chip_after_event c e) (spec_horizon_past s c e spec_horizon) events
