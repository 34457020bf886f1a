-- The steps during which the chip's interrupt request does not change.
use Rattle.std.proofs.Common.{◌≡◌, ◌∙◌, ap, sym, refl, ℕ, zero, suc, ◌+◌, ◌-◌, ◌<◌, ◌≤◌, ◌&&◌, ◌||◌, nat_lt, Bool, true, false, arith, inl, inr}
use Rattle.std.proofs.lemmas.Bool.{cases_lt}
use Rattle.beeb_bits.specs.Bits.{bit}
use Rattle.via6522.specs.declared.Pins.{Pins}
use Rattle.via6522.specs.State.{State, Timer1, Timer2, ControlLines}
use Rattle.via6522.specs.Timers.{word}
use Rattle.via6522.specs.Lines.{levels_of}
use Rattle.via6522.specs.Registers.{asks}
use Rattle.via6522.specs.Step.{step, steps}
use Rattle.via6522.specs.Jumps.{timer1_flags_within, timer2_flags_within, timers_later, Timer1IsCalm, Timer2IsCalm, AsksAlike}
use Rattle.via6522.proofs.Runs.{no_steps, step_behind}
use Rattle.via6522.proofs.Quietly.{edges_to, edges_by_levels, no_edges}
use Rattle.via6522.proofs.Jumps.{all_at_once}
use Rattle.via6522.proofs.FreeRun.{counts_down, after_reload, loads}
use Rattle.via6522.proofs.CountDown.{counts_once1, counts_once2, within2, stands_still, starts2}

-- no step clears a flag

wider : (f x e : Bool) → (f && e) ≡ true → ((f || x) && e) ≡ true
wider f x e h = grind arith

either : {a b a' b' : Bool} → (a ≡ true → a' ≡ true) → (b ≡ true → b' ≡ true) → (a || b) ≡ true → (a' || b') ≡ true
either p q h = grind arith

asks_on : (p : Pins) (c : State) → asks c ≡ true → asks (step p c) ≡ true
asks_on p c =
    either
    (either (either (either (either (either (wider c.flags.timer1 _ c.enabled.timer1) (wider c.flags.timer2 _ c.enabled.timer2)) (wider c.flags.cb1 _ c.enabled.cb1))
    (wider c.flags.cb2 _ c.enabled.cb2)) (λ k. k)) (wider c.flags.ca1 _ c.enabled.ca1))
    (wider c.flags.ca2 _ c.enabled.ca2)

keeps_asking : (p : Pins) (n : ℕ) (c : State) → asks c ≡ true → asks (steps p n c) ≡ true
keeps_asking p zero c h = rw (no_steps p c) h
keeps_asking p (suc n) c h = rw (step_behind p n c) (asks_on p (steps p n c) (keeps_asking p n c h))

pub asking_is_calm : (p : Pins) (n : ℕ) (c : State) → asks c ≡ true → AsksAlike p n c
asking_is_calm p n c h m within = keeps_asking p m c h ∙ sym h

pub now_is_calm : (p : Pins) (c : State) → AsksAlike p 0 c
now_is_calm p c m within = let none : m ≡ 0 = omega arith in ap (λ (k : ℕ). asks (steps p k c)) none ∙ ap asks (no_steps p c)

-- if no enabled flag is set

kept : (f x e : Bool) → (e ≡ true → x ≡ false) → ((f || x) && e) ≡ (f && e)
kept f x e h = grind arith

timers_alike : (m : ℕ) (c : State) → (c.enabled.timer1 ≡ true → timer1_flags_within (bit c.acr 6) m c.timer1 ≡ false) →
    (c.enabled.timer2 ≡ true → timer2_flags_within (bit c.acr 5) m c.timer2 ≡ false) → asks (timers_later m c) ≡ asks c
timers_alike m c one two =
    rw (kept c.flags.timer1 (timer1_flags_within (bit c.acr 6) m c.timer1) c.enabled.timer1 one, kept c.flags.timer2 (timer2_flags_within (bit c.acr 5) m c.timer2) c.enabled.timer2 two) refl

pub timers_are_calm : (p : Pins) (n : ℕ) (c : State) → levels_of p ≡ c.levels → Timer1IsCalm n c → Timer2IsCalm n c → AsksAlike p n c
timers_are_calm p n c same one two m within =
    elim (cases_lt 0 m) [
      | inl some ↦
          ap asks (all_at_once p m c some ∙ edges_by_levels p (timers_later m c) ∙ ap (λ (l : ControlLines). edges_to l (timers_later m c)) same ∙ no_edges (timers_later m c))
          ∙ timers_alike m c (one m within) (two m within)
      | inr none ↦ let is : m ≡ 0 = omega arith in ap (λ (k : ℕ). asks (steps p k c)) is ∙ ap asks (no_steps p c)
    ]

-- timer 1

pub calm1 : (free : Bool) (m : ℕ) (t : Timer1) → t.reload ≡ false → t.counter < 65536 → m ≤ t.counter → timer1_flags_within free m t ≡ false
calm1 free m t loaded small within = (counts_down free m t loaded small within).1

from_load1 : (free : Bool) (m : ℕ) (t : Timer1) → t.reload ≡ true → timer1_flags_within free (m - 1) (after_reload t) ≡ timer1_flags_within free m t
from_load1 free zero t waits = refl
from_load1 free (suc m) t waits = (loads free (suc m) t waits (omega arith)).1

pub calm_to_load1 : (free : Bool) (m : ℕ) (t : Timer1) → t.reload ≡ true → word t.latch_high t.latch_low < 65536 → m ≤ word t.latch_high t.latch_low + 1 →
    timer1_flags_within free m t ≡ false
calm_to_load1 free m t waits small within = sym (from_load1 free m t waits) ∙ (counts_down free (m - 1) (after_reload t) refl small (omega arith)).1

spent1 : (m : ℕ) (t : Timer1) → t.reload ≡ false → t.counter < 65536 → t.armed ≡ false → timer1_flags_within false m t ≡ false
spent1 m t loaded small spent = (counts_once1 m t small loaded).1 ∙ ap (λ (b : Bool). b && nat_lt t.counter m) spent

by_reload1 : (waits : Bool) (m : ℕ) (t : Timer1) → t.reload ≡ waits → t.counter < 65536 → word t.latch_high t.latch_low < 65536 → t.armed ≡ false →
    timer1_flags_within false m t ≡ false
by_reload1 false m t e small latch spent = spent1 m t e small spent
by_reload1 true m t e small latch spent = sym (from_load1 false m t e) ∙ spent1 (m - 1) (after_reload t) refl latch spent

pub disarmed1 : (m : ℕ) (t : Timer1) → t.counter < 65536 → word t.latch_high t.latch_low < 65536 → t.armed ≡ false → timer1_flags_within false m t ≡ false
disarmed1 m t small latch spent = by_reload1 t.reload m t refl small latch spent

-- timer 2

from_start2 : (m : ℕ) (t : Timer2) → t.fresh ≡ true → timer2_flags_within false (m - 1) (record t { fresh = false }) ≡ timer2_flags_within false m t
from_start2 zero t waits = refl
from_start2 (suc m) t waits = (starts2 (suc m) t waits (omega arith)).1

by_fresh2 : (waits : Bool) (m : ℕ) (t : Timer2) → t.fresh ≡ waits → t.counter < 65536 → m ≤ t.counter → timer2_flags_within false m t ≡ false
by_fresh2 false m t e small within = sym (within2 m t e small within).1
by_fresh2 true m t e small within = sym (from_start2 m t e) ∙ sym (within2 (m - 1) (record t { fresh = false }) refl small (omega arith)).1

pub calm2 : (m : ℕ) (t : Timer2) → t.counter < 65536 → m ≤ t.counter → timer2_flags_within false m t ≡ false
calm2 m t small within = by_fresh2 t.fresh m t refl small within

spent2 : (m : ℕ) (t : Timer2) → t.fresh ≡ false → t.counter < 65536 → t.armed ≡ false → timer2_flags_within false m t ≡ false
spent2 m t begun small spent = (counts_once2 m t small begun).1 ∙ ap (λ (b : Bool). b && nat_lt t.counter m) spent

spent_by2 : (waits : Bool) (m : ℕ) (t : Timer2) → t.fresh ≡ waits → t.counter < 65536 → t.armed ≡ false → timer2_flags_within false m t ≡ false
spent_by2 false m t e small spent = spent2 m t e small spent
spent_by2 true m t e small spent = sym (from_start2 m t e) ∙ spent2 (m - 1) (record t { fresh = false }) refl small spent

pub disarmed2 : (m : ℕ) (t : Timer2) → t.counter < 65536 → t.armed ≡ false → timer2_flags_within false m t ≡ false
disarmed2 m t small spent = spent_by2 t.fresh m t refl small spent

pub still_is_calm : (m : ℕ) (t : Timer2) → timer2_flags_within true m t ≡ false
still_is_calm m t = (stands_still m t).1
