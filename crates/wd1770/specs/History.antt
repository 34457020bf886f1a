-- Any steps and accesses of a controller from power-on on.
use Rattle.std.specs.Prelude.{ℕ, zero, suc, ◌+◌, ◌%◌, ◌≡◌, ◌≤◌, true, false, List, [], ◌∷◌, Option, None, Some}
use Rattle.disc_image.specs.Image.{Image}
use Rattle.wd1770.specs.State.{State, power_on}
use Rattle.wd1770.specs.Select.{is_reset}
use Rattle.wd1770.specs.Ends.{is_busy}
use Rattle.wd1770.specs.Commands.{latch_leaves}
use Rattle.wd1770.specs.Registers.{read_leaves, write_leaves}
use Rattle.wd1770.specs.Step.{step}

-- a step, a read or a write of a register, or a write of the latch
pub data Event : Type 0 where
  microsecond : Event
  read : (reg : ℕ) → Event
  write : (reg v : ℕ) → Event
  latch : (v : ℕ) → Event

abbrev pub happens : Event → State → State
happens microsecond s = step s
happens (read reg) s = read_leaves reg s
happens (write reg v) s = write_leaves reg v s
happens (latch v) s = latch_leaves v s

abbrev pub history : List Event → State → State
history [] s = s
history (e ∷ es) s = history es (happens e s)

-- the number of steps among the events
abbrev pub count_steps : List Event → ℕ
count_steps [] = 0
count_steps (microsecond ∷ es) = count_steps es + 1
count_steps (read _ ∷ es) = count_steps es
count_steps (write _ _ ∷ es) = count_steps es
count_steps (latch _ ∷ es) = count_steps es

-- the angle after a number of steps: m mod 200,000 if the last of them is step m
abbrev pub angle_after : ℕ → Option ℕ
angle_after zero = None
angle_after (suc m) = Some (m % 200000)

abbrev pub TurnsOn : Type 0
TurnsOn = (d0 d1 : Option Image) (events : List Event) → (history events (power_on d0 d1)).angle ≡ angle_after (count_steps events)

-- The heads are at tracks 0 to 83. INTRQ is clear while a command is in progress. In reset no
-- command is in progress, and DRQ and INTRQ are clear.
pub record IsSound (s : State) : Type 0 where
  pub head0 : s.drive0.head ≤ 83
  pub head1 : s.drive1.head ≤ 83
  pub quiet : is_busy s.command ≡ true → s.intrq ≡ false
  pub idle_in_reset : is_reset s.latch ≡ true → is_busy s.command ≡ false
  pub no_drq_in_reset : is_reset s.latch ≡ true → s.drq ≡ false
  pub no_intrq_in_reset : is_reset s.latch ≡ true → s.intrq ≡ false

abbrev pub StaysSound : Type 0
StaysSound = (d0 d1 : Option Image) (events : List Event) → IsSound (history events (power_on d0 d1))
