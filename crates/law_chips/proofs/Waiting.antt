-- A command that counts down, while a program waits.
use Rattle.std.proofs.Common.{◌≡◌, subst, ℕ, ◌+◌, ◌%◌, ◌<◌, ◌≤◌, Bool, false, List, [], ◌∷◌, arith}
use Rattle.std.specs.Prelude.{Option, None, Some, if◌then◌else◌}
use Rattle.wd1770.specs.declared.command.Command.{Command}
use Rattle.wd1770.specs.State.{State}
use Rattle.wd1770.specs.Registers.{read_leaves}
use Rattle.wd1770.specs.Step.{next_angle, work_leaves, step}
use Rattle.wd1770.specs.History.{Event, microsecond, read, write, latch, history, count_steps}
use Rattle.law_chips.specs.Searches.{AllWait}

pub small_angle : (a : Option ℕ) → next_angle a < 200000
small_angle None = omega arith
small_angle (Some a) = omega arith

pub stays_off : (a b q : Bool) → q ≡ false → (if a then q else if b then false else q) ≡ false
stays_off a b q off = grind arith

-- the state after `m` steps of waiting
pub record Waited (s0 : State) (c : Command) (s : State) (m : ℕ) : Type 0 where
  pub command : s.command ≡ c
  pub track : s.track ≡ s0.track
  pub sector : s.sector ≡ s0.sector
  pub byte : s.byte ≡ s0.byte
  pub latch : s.latch ≡ s0.latch
  pub drive0 : s.drive0 ≡ s0.drive0
  pub drive1 : s.drive1 ≡ s0.drive1
  pub last_inward : s.last_inward ≡ s0.last_inward
  pub type_one : s.type_one ≡ s0.type_one
  pub not_found : s.record_not_found ≡ s0.record_not_found
  pub lost : s.lost_data ≡ s0.lost_data
  pub drq : s0.drq ≡ false → s.drq ≡ false
  pub angle : next_angle s.angle ≡ (next_angle s0.angle + m) % 200000

-- its command after m steps, of which the first `last` only count
abbrev pub CountsDown : (ℕ → Command) → ℕ → Type 0
CountsDown c last = (s : State) (m : ℕ) → m < last → s.command ≡ c m → work_leaves s ≡ record s { angle = Some (next_angle s.angle); command = c (m + 1) }

-- the same where the state before is one after m steps from s0
abbrev pub CountsFrom : State → (ℕ → Command) → ℕ → Type 0
CountsFrom s0 c last =
    (s : State) (m : ℕ) → m < last → Waited s0 (c m) s m → work_leaves s ≡ record s { angle = Some (next_angle s.angle); command = c (m + 1) }

pub one_step : (c : ℕ → Command) (last : ℕ) (s0 : State) → CountsFrom s0 c last → (s : State) (m : ℕ) → m < last → Waited s0 (c m) s m →
    Waited s0 (c (m + 1)) (step s) (m + 1)
one_step c last s0 counts s m inside is = grind arith

pub waited_read : (s0 : State) (c : Command) (reg : ℕ) (s : State) (m : ℕ) → Waited s0 c s m → Waited s0 c (read_leaves reg s) m
waited_read s0 c reg s m is = grind arith

run : (c : ℕ → Command) (last : ℕ) (s0 : State) → CountsFrom s0 c last → (events : List Event) (s : State) (m : ℕ) → AllWait events →
    m + count_steps events ≤ last →
    Waited s0 (c m) s m → Waited s0 (c (m + count_steps events)) (history events s) (m + count_steps events)
run c last s0 counts [] s m all most is =
    let same : m ≡ m + 0 = omega arith in subst (λ n. Waited s0 (c n) s n) same is
run c last s0 counts (microsecond ∷ es) s m all most is =
    let same : m + 1 + count_steps es ≡ m + (count_steps es + 1) = omega arith in
    subst (λ n. Waited s0 (c n) (history es (step s)) n) same
    (run c last s0 counts es (step s) (m + 1) all.1 (omega arith) (one_step c last s0 counts s m (omega arith) is))
run c last s0 counts (read reg ∷ es) s m all most is = run c last s0 counts es (read_leaves reg s) m all.1 most (waited_read s0 (c m) reg s m is)
run c last s0 counts (write reg v ∷ es) s m all most is = absurd all.0
run c last s0 counts (latch v ∷ es) s m all most is = absurd all.0

-- before the first step
pub at_first : (c : Command) (s : State) → s.command ≡ c → Waited s c s 0
at_first c s is = grind arith

pub waits_from : (c : ℕ → Command) (last : ℕ) (s : State) → CountsFrom s c last → (events : List Event) → AllWait events → count_steps events ≤ last →
    s.command ≡ c 0 → Waited s (c (count_steps events)) (history events s) (count_steps events)
waits_from c last s counts events all most is =
    let none_first : 0 + count_steps events ≡ count_steps events = omega arith in
    subst (λ n. Waited s (c n) (history events s) n) none_first (run c last s counts events s 0 all (omega arith) (at_first (c 0) s is))

pub waits_so : (c : ℕ → Command) (last : ℕ) → CountsDown c last → (events : List Event) (s : State) → AllWait events → count_steps events ≤ last →
    s.command ≡ c 0 → Waited s (c (count_steps events)) (history events s) (count_steps events)
waits_so c last counts events s all most is =
    waits_from c last s (λ x m inside w. counts x m inside w.command) events all most is
