-- Quiet steps, one after another.
use Rattle.std.proofs.Common.{◌≡◌, ◌≢◌, ◌∙◌, sym, refl, ap, ℕ, zero, suc, ◌+◌, ◌-◌, ◌*◌, ◌%◌}
use Rattle.std.proofs.Common.{◌<◌, ◌≤◌, ◌==◌, nat_lt, Bool, true, false, if◌then◌else◌, Option, None, Some, add-zero, add-suc, arith, inl, inr}
use Rattle.std.proofs.lemmas.Bool.{cases_lt, lt-ltb}
use Rattle.std.proofs.lemmas.Bool.Decides.{nat_tests}
use Rattle.wd1770.specs.declared.drive.Target.{Target}
use Rattle.wd1770.specs.declared.command.Command.{Command}
use Rattle.wd1770.specs.declared.command.Command.TheVariants.{Idle, Moving, Settling, Searching, Transferring, SeekingAddress, GivingAddress, Refusing}
use Rattle.wd1770.specs.State.{State}
use Rattle.wd1770.specs.Ends.{is_busy, is_asking, count_leaves}
use Rattle.wd1770.specs.Sectors.{is_found, places_into}
use Rattle.wd1770.specs.Addresses.{is_address}
use Rattle.wd1770.specs.Step.{next_angle, command_step, work_leaves, step, steps}
use Rattle.wd1770.specs.CodeQuiet.{angle_later, command_later, later, steps_between, steps_before, quiet_steps, RestsFor}
use Rattle.wd1770.proofs.Runs.{stays}

test_false : (a b : ℕ) → a ≢ b → (a == b) ≡ false
test_false a b h = grind (arith, nat_tests)

next_below : (a : Option ℕ) → next_angle a < 200000
next_below None = omega arith
next_below (Some a) = omega arith

later_some : (m : ℕ) (a : Option ℕ) → angle_later (suc m) a ≡ Some ((next_angle a + m) % 200000)
later_some m a = grind (arith, nat_tests)

-- the angle a step later
pub angle_more : (m : ℕ) (a : Option ℕ) → Some (next_angle (angle_later m a)) ≡ angle_later (suc m) a
angle_more zero a =
    let same : next_angle a ≡ (next_angle a + 0) % 200000 = omega (arith, next_below a) in
    ap (λ (k : ℕ). Some k) same ∙ sym (later_some 0 a)
angle_more (suc m) a =
    let same : ((next_angle a + m) % 200000 + 1) % 200000 ≡ (next_angle a + suc m) % 200000 = omega arith in
    ap (λ (b : Option ℕ). Some (next_angle b)) (later_some m a) ∙ ap (λ (k : ℕ). Some k) same ∙ sym (later_some (suc m) a)

next_of : (m a : ℕ) → next_angle (angle_later m (Some a)) ≡ (a + m + 1) % 200000
next_of zero a = omega arith
next_of (suc m) a = ap next_angle (later_some m (Some a)) ∙ omega arith

-- between two places
between : (m a : ℕ) → m < 63 - a % 64 → next_angle (angle_later m (Some a)) % 64 ≢ 0
between m a inside e = omega (arith, next_of m a, e)

no_place : (k m : ℕ) (a : Option ℕ) → m < steps_between a → places_into k (next_angle (angle_later m a)) ≡ None
no_place k m None inside = absurd (omega arith)
no_place k m (Some a) inside =
    let none : (next_angle (angle_later m (Some a)) % 64 == 0) ≡ false = test_false _ 0 (between m a inside) in rw none refl

no_start : (m : ℕ) (a : Option ℕ) → m < steps_between a → (next_angle (angle_later m a) % (64 * 312) == 0) ≡ false
no_start m None inside = absurd (omega arith)
no_start m (Some a) inside = test_false _ 0 (λ e. omega (arith, next_of m a, e))

-- before a sector's angle
no_sector : (k m : ℕ) (a : Option ℕ) → m < steps_before a k → (next_angle (angle_later m a) == 64 * (312 * k)) ≡ false
no_sector k m None inside = absurd (omega arith)
no_sector k m (Some a) inside =
    elim (cases_lt (64 * (312 * k)) 200000) [
      | inl on ↦
          let test : nat_lt (64 * (312 * k)) 200000 ≡ true = lt-ltb (64 * (312 * k)) 200000 on in
          let before : m < (64 * (312 * k) + 199999 - a % 200000) % 200000 = rw test at inside in
          test_false (next_angle (angle_later m (Some a))) (64 * (312 * k)) (λ e. omega (arith, next_of m a, e, before))
      | inr off ↦ test_false (next_angle (angle_later m (Some a))) (64 * (312 * k)) (λ e. omega (arith, next_below (angle_later m (Some a)), e, off))
    ]

both : (b : Bool) (s : State) → (if b then s else s) ≡ s
both true s = refl
both false s = refl

unfound : (target : Target) (angle : ℕ) (u : State) → (angle == 64 * (312 * u.sector)) ≡ false → is_found target angle u ≡ false
unfound target angle u off = grind (arith, off)

unlooked : (target : Target) (angle : ℕ) (u : State) → (angle % (64 * 312) == 0) ≡ false → is_address target angle u ≡ false
unlooked target angle u off = grind (arith, off)

-- a quiet step
idle : (m : ℕ) (s : State) → s.command ≡ Idle → work_leaves (later m s) ≡ later (suc m) s
idle m s is = let time : s.motor - m - 1 ≡ s.motor - suc m = omega arith in rw (is, angle_more m s.angle, time) refl

waits : (m left : ℕ) → m < left - 1 → (nat_lt 1 (left - m) ≡ true) × (left - m - 1 ≡ left - suc m)
waits m left inside = (lt-ltb 1 (left - m) (omega arith), omega arith)

passes : (m : ℕ) (c : Command) (s : State) → s.command ≡ c → m < quiet_steps c s.angle s.sector → work_leaves (later m s) ≡ later (suc m) s
passes m Idle s is inside = idle m s is
passes m (Moving t left) s is inside = let (more, less) = waits m left inside in rw (is, angle_more m s.angle, more, less) refl
passes m (Settling t left) s is inside = let (more, less) = waits m left inside in rw (is, angle_more m s.angle, more, less) refl
passes m (Searching t left) s is inside =
    let (more, less) = waits m left (omega arith) in
    let next = next_angle (angle_later m s.angle) in
    let u : State = record (later m s) { angle = Some next } in
    ap (λ (c : Command). command_step (command_later m c) next u) is ∙ rw (unfound t.target next u (no_sector s.sector m s.angle (omega arith)), more, is, angle_more m s.angle, less) refl
passes m (Transferring t k) s is inside = rw (is, no_place k m s.angle inside, angle_more m s.angle, both t.writes) refl
passes m (SeekingAddress t left) s is inside =
    let (more, less) = waits m left (omega arith) in
    let next = next_angle (angle_later m s.angle) in
    let u : State = record (later m s) { angle = Some next } in
    ap (λ (c : Command). command_step (command_later m c) next u) is ∙ rw (unlooked t next u (no_start m s.angle (omega arith)), more, is, angle_more m s.angle, less) refl
passes m (GivingAddress t k) s is inside = rw (is, no_place k m s.angle inside, angle_more m s.angle) refl
passes m Refusing s is inside = absurd (omega arith)

pub quiet_one : (m : ℕ) (s : State) → m < quiet_steps s.command s.angle s.sector → step (later m s) ≡ later (suc m) s
quiet_one m s inside = ap (count_leaves (is_asking s)) (passes m s.command s refl inside) ∙ stays (later (suc m) s)

-- many quiet steps are one lapse
pub quiet_many : (n m : ℕ) (s : State) → m + n ≤ quiet_steps s.command s.angle s.sector → steps n (later m s) ≡ later (m + n) s
unfolding steps
quiet_many zero m s inside = rw add-zero refl
quiet_many (suc n) m s inside =
    let e : m + suc n ≡ suc (m + n) = add-suc m n in
    ap step (quiet_many n m s (omega arith)) ∙ quiet_one (m + n) s (omega arith) ∙ ap (λ (k : ℕ). later k s) (sym e)

-- m steps and then n
pub both_steps : (m n : ℕ) (s : State) → steps (m + n) s ≡ steps n (steps m s)
unfolding steps
both_steps m zero s = rw add-zero refl
both_steps m (suc n) s = rw add-suc (ap step (both_steps m n s))

-- quiet steps, one that may not be quiet, and those that are left
pub goes_on : (n m q : ℕ) (s : State) → m ≤ q → q ≤ quiet_steps s.command s.angle s.sector → q - m < n →
    steps (n - (q - m) - 1) (step (later q s)) ≡ steps n (later m s)
unfolding steps
goes_on n m q s within quiet past =
    let parts : suc (q - m) + (n - (q - m) - 1) ≡ n = omega arith in
    let all : m + (q - m) ≡ q = omega arith in
    let inside : m + (q - m) ≤ quiet_steps s.command s.angle s.sector = omega arith in
    let there : steps (q - m) (later m s) ≡ later q s = quiet_many (q - m) m s inside ∙ ap (λ (k : ℕ). later k s) all in
    ap (λ (t : State). steps (n - (q - m) - 1) (step t)) (sym there) ∙ sym (both_steps (suc (q - m)) (n - (q - m) - 1) (later m s))
    ∙ ap (λ (k : ℕ). steps k (later m s)) parts

-- with no command in progress all steps are quiet
idle_one : (m : ℕ) (s : State) → s.command ≡ Idle → step (later m s) ≡ later (suc m) s
idle_one m s is = ap (count_leaves (is_asking s)) (idle m s is) ∙ stays (later (suc m) s)

now : (s : State) → s.command ≡ Idle → s ≡ later 0 s
now s is = let same : s.motor ≡ s.motor - 0 = omega arith in rw is (ap (λ (k : ℕ). record s { command = Idle; motor = k }) same)

pub idle_many : (n : ℕ) (s : State) → s.command ≡ Idle → steps n s ≡ later n s
unfolding steps
idle_many zero s is = now s is
idle_many (suc n) s is = ap step (idle_many n s is) ∙ idle_one n s is

-- a lapse changes no other field
pub quiet_rests : (n m : ℕ) (s : State) → m + n ≤ quiet_steps s.command s.angle s.sector → RestsFor n (later m s)
quiet_rests n m s inside k within =
    let e : steps k (later m s) ≡ later (m + k) s = quiet_many k m s (omega arith) in
    e ∙ ap (λ (t : State). record (later m s) { angle = t.angle; command = t.command; motor = t.motor }) (sym e)

idle_is : (c : Command) → is_busy c ≡ false → c ≡ Idle
idle_is Idle free = refl
idle_is _ free = cc

pub rest_is : (n : ℕ) (s t : State) → is_busy s.command ≡ false → t ≡ later n s → later 0 t ≡ steps n s
rest_is n s t free is =
    let none : s.command ≡ Idle = idle_is s.command free in
    sym (now t (ap (λ (u : State). u.command) is ∙ ap (command_later n) none)) ∙ is ∙ sym (idle_many n s none)
