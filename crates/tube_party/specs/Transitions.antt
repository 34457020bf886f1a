-- A party at the Tube: the steps of a machine as functions of its state, and steps that use up a
-- list of events.
use Rattle.std.specs.Prelude.{ℕ, zero, suc, ◌≡◌, ◌+◌, ◌<◌, ◌≤◌, max, Bool, IsTrue, Option, None, Some, MatchOption, List, [], ◌∷◌}
use Rattle.beeb_bits.specs.declared.Side.{Side}
use Rattle.beeb_bits.specs.declared.Side.TheVariants.{Host}
use Rattle.tube_chip.specs.declared.Answer.{Answer}
use Rattle.tube_chip.specs.declared.Lines.{Lines}
use Rattle.tube_chip.specs.declared.Op.{Op}
use Rattle.tube_chip.specs.declared.Answer.TheVariants.{Byte, Seen}
use Rattle.tube_chip.specs.Act.{Query, access, look, MayDo}
use Rattle.tube_chip.specs.Events.{Event}
use Rattle.tube_party.specs.declared.party.Ask.{Ask}
use Rattle.tube_party.specs.declared.party.Ask.TheVariants.{Nothing, Access, Look}

-- The steps of a party whose states are S.
pub record Transitions (S : Type 0) : Type 0 where
  -- the tick of the next step
  pub due : S → ℕ
  -- what that step asks of the Tube, if it asks
  pub asks : S → Option Query
  -- the state after that step, with the answer if it asks
  pub next : S → Option Answer → S
  -- the state holds all device steps below this tick
  pub closed : S → ℕ
  -- the state with the device steps below a tick done too
  pub close : S → ℕ → S

-- Closing a state at a tick does not change its next step, and closing it further is closing it
-- that far at once.
pub record IsClosing {S : Type 0} (m : Transitions S) (s : S) (t : ℕ) : Type 0 where
  pub closed : m.closed (m.close s t) ≡ t
  pub due : m.due (m.close s t) ≡ m.due s
  pub asks : m.asks (m.close s t) ≡ m.asks s
  pub next : (a : Option Answer) → m.next (m.close s t) a ≡ m.next s a
  pub again : (u : ℕ) → t ≤ u → u ≤ m.due s → m.close (m.close s t) u ≡ m.close s u

-- The laws of a party: ticks rise from step to step, no state holds a device step past its next
-- step, and a state may be closed up to its next step.
pub record IsLawful {S : Type 0} (m : Transitions S) : Type 0 where
  pub rises : (s : S) (a : Option Answer) → m.due s < m.due (m.next s a)
  pub within : (s : S) → m.closed s ≤ m.due s
  pub closing : (s : S) (t : ℕ) → m.closed s ≤ t → t ≤ m.due s → IsClosing m s t

-- a side may ask this of the Tube
abbrev pub MayAsk : Side → Option Query → Type 0
MayAsk side None = Unit {0}
MayAsk side (Some look) = Unit {0}
MayAsk side (Some (access op)) = MayDo side op

-- In any state, a party asks only what each side that it may play may ask.
abbrev pub IsPermitted : {S : Type 0} → Transitions S → (Side → Bool) → Type 0
IsPermitted {S} m plays = (s : S) (side : Side) → IsTrue (plays side) → MayAsk side (m.asks s)

-- closed at n, or further if it is already
abbrev pub close_leaves : {S : Type 0} → Transitions S → S → ℕ → S
close_leaves m s n = m.close s (max n (m.closed s))

-- Of the lines, the party's looks see the host's interrupt request alone.
abbrev pub SeesHirqAlone : {S : Type 0} → Transitions S → Type 0
SeesHirqAlone {S} m = (s : S) (a b : Lines) → a.hirq ≡ b.hirq → m.next s (Some (Seen a)) ≡ m.next s (Some (Seen b))

-- the first event, and what holds of it and the rest
abbrev pub Heads : List Event → (Event → List Event → Type 0) → Type 0
Heads [] P = ⊥
Heads (e ∷ events) P = P e events

-- An execution of a party: the events of its steps in order, and the state after the last step.
pub record Execution (S : Type 0) : Type 0 where
  pub events : List Event
  pub last : S

abbrev pub execution : {S : Type 0} → List Event → S → Execution S
execution events last = record { events = events; last = last }

-- k steps from s, each below n, are this execution of the side; a step that asks nothing is no
-- event
abbrev pub Runs : {S : Type 0} → Transitions S → Side → ℕ → ℕ → S → Execution S → Type 0
Runs m side n zero s c = (c.events ≡ []) × (s ≡ c.last)
Runs m side n (suc k) s c =
    (m.due s < n)
    × MatchOption (m.asks s)
    (Runs m side n k (m.next s None) c)
    (λ q. Heads c.events (λ e rest.
    (e.tick ≡ m.due s) × (e.side ≡ side) × (e.query ≡ q)
    × Runs m side n k (m.next s (Some e.answer)) (execution rest c.last)))

-- The steps from s below n use up the events, and `ended` is the state after them, closed.
pub record Follows {S : Type 0} (m : Transitions S) (side : Side) (s : S) (events : List Event) (n : ℕ) (ended : S) : Type 0 where
  pub steps : ℕ
  pub last : S
  pub runs : Runs m side n steps s (execution events last)
  pub over : n ≤ m.due last
  pub ends : ended ≡ close_leaves m last n

-- the ask that is reported at `last`, the first state whose step asks or is not below n
abbrev pub IsAsk : {S : Type 0} → Transitions S → ℕ → S → Ask → S → Type 0
IsAsk m n last Nothing new = (n ≤ m.due last) × (new ≡ close_leaves m last n)
IsAsk m n last (Access t op) new = (t.0 ≡ m.due last) × (t.0 < n) × (m.asks last ≡ Some (access op)) × (new ≡ last)
IsAsk m n last (Look t) new = (t.0 ≡ m.due last) × (t.0 < n) × (m.asks last ≡ Some look) × (new ≡ last)

-- The steps below n that ask nothing were done, and `ask` comes next. A party does not know its
-- side: the steps are no events of either.
pub record Advances {S : Type 0} (m : Transitions S) (n : ℕ) (old : S) (ask : Ask) (new : S) : Type 0 where
  pub steps : ℕ
  pub last : S
  pub runs : Runs m Host n steps old (execution [] last)
  pub asked : IsAsk m n last ask new

-- The lines that looks see, and the tick below which they are guaranteed.
pub record Shown : Type 0 where
  pub lines : Lines
  pub safe_until : ℕ

abbrev pub shown_lines : Lines → ℕ → Shown
shown_lines lines safe_until = record { lines = lines; safe_until = safe_until }

-- k steps from s to last, each below n: each asks nothing, or is a look below `safe_until` and sees
-- the lines
abbrev pub Looks : {S : Type 0} → Transitions S → ℕ → Shown → ℕ → S → S → Type 0
Looks m n v zero s last = s ≡ last
Looks m n v (suc k) s last =
    (m.due s < n)
    × MatchOption (m.asks s)
    (Looks m n v k (m.next s None) last)
    (λ q. (q ≡ look) × (m.due s < v.safe_until) × Looks m n v k (m.next s (Some (Seen v.lines))) last)

-- the ask is no look below `safe_until`
abbrev pub IsNotSafe : ℕ → Ask → Type 0
IsNotSafe safe_until Nothing = Unit {0}
IsNotSafe safe_until (Access t op) = Unit {0}
IsNotSafe safe_until (Look t) = safe_until ≤ t.0

-- The steps below n that ask nothing were done, and the looks below `safe_until`, each of which saw
-- the lines; and `ask` comes next.
pub record LookRunToAsk {S : Type 0} (m : Transitions S) (n : ℕ) (v : Shown) (old : S) (ask : Ask) (new : S) : Type 0 where
  pub steps : ℕ
  pub last : S
  pub looks : Looks m n v steps old last
  pub asked : IsAsk m n last ask new
  pub not_safe : IsNotSafe v.safe_until ask

-- The step from s asks for an access below n, which the port answers; `new` is the state after it.
-- The port goes from d to e.
pub record IsAnswered {S D : Type 0} (m : Transitions S) (answers : D → ℕ → Op → ℕ → D → Type 0) (n : ℕ) (s : S) (d : D) (new : S) (e : D) : Type 0 where
  pub op : Op
  pub byte : ℕ
  pub below : m.due s < n
  pub asks : m.asks s ≡ Some (access op)
  pub answered : answers d (m.due s) op byte e
  pub goes : new ≡ m.next s (Some (Byte byte))

-- An access is answered by one byte k times in turn, `period` ticks apart, the first time `period`
-- ticks after t.
abbrev pub IsAnsweredAgain : {D : Type 0} → (D → ℕ → Op → ℕ → D → Type 0) → Op → ℕ → ℕ → ℕ → D → ℕ → D → Type 0
IsAnsweredAgain answers op byte period zero d t e = d ≡ e
IsAnsweredAgain {D} answers op byte period (suc k) d t e = (f : D) × (answers d (t + period) op byte f × IsAnsweredAgain answers op byte period k f (t + period) e)

-- From s to last, below n, the port answers j accesses; each other step asks nothing, or is a look
-- below `safe_until` and sees the lines.
abbrev pub PortRun : {S D : Type 0} → Transitions S → (D → ℕ → Op → ℕ → D → Type 0) → ℕ → Shown → ℕ → S → D → S → D → Type 0
PortRun m answers n v zero s d last e = (d ≡ e) × ((k : ℕ) × Looks m n v k s last)
PortRun {S} {D} m answers n v (suc j) s d last e =
    (at : S) × (on : S) × (f : D) × ((k : ℕ) × Looks m n v k s at) × IsAnswered m answers n at d on f × PortRun m answers n v j on f last e

-- Steps of `PortRun` were done, and `ask` comes next: no look below `safe_until`.
pub record PortRunToAsk {S D : Type 0} (m : Transitions S) (answers : D → ℕ → Op → ℕ → D → Type 0) (n : ℕ) (v : Shown) (old : S) (before : D) (ask : Ask) (new : S) (after : D) : Type 0 where
  pub accesses : ℕ
  pub last : S
  pub port_run : PortRun m answers n v accesses old before last after
  pub asked : IsAsk m n last ask new
  pub not_safe : IsNotSafe v.safe_until ask

-- Steps of `PortRun` were done, and `ask` comes next: any look is allowed.
pub record PortRunToAnyAsk {S D : Type 0} (m : Transitions S) (answers : D → ℕ → Op → ℕ → D → Type 0) (n : ℕ) (v : Shown) (old : S) (before : D) (ask : Ask) (new : S) (after : D) : Type 0 where
  pub accesses : ℕ
  pub last : S
  pub port_run : PortRun m answers n v accesses old before last after
  pub asked : IsAsk m n last ask new

-- a byte for an access, lines for a look
abbrev pub FitsAnswer : Query → Answer → Type 0
FitsAnswer (access op) (Byte b) = Unit {0}
FitsAnswer look (Seen l) = Unit {0}
FitsAnswer (access op) (Seen l) = ⊥
FitsAnswer look (Byte b) = ⊥

-- The next step is below `most` and asks, and the answer is of its kind.
pub record IsAskedFor {S : Type 0} (m : Transitions S) (most : ℕ) (s : S) (a : Answer) : Type 0 where
  pub below : m.due s < most
  pub kind : MatchOption (m.asks s) ⊥ (λ q. FitsAnswer q a)
