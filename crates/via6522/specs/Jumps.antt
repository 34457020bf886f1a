-- Many steps at once: each timer after n steps, and if one of them sets its flag.
use Rattle.std.specs.Prelude.{ℕ, zero, suc, ◌≡◌, ◌≤◌, ◌||◌, Bool, false, true}
use Rattle.beeb_bits.specs.Bits.{bit}
use Rattle.via6522.specs.declared.Pins.{Pins}
use Rattle.via6522.specs.State.{State, Timer1, Timer2}
use Rattle.via6522.specs.Timers.{timer1_after, timer1_flags, timer2_after, timer2_flags}
use Rattle.via6522.specs.Registers.{asks}
use Rattle.via6522.specs.Step.{steps}

abbrev pub timer1_later : Bool → ℕ → Timer1 → Timer1
timer1_later free zero t = t
timer1_later free (suc n) t = timer1_after free (timer1_later free n t)

abbrev pub timer1_flags_within : Bool → ℕ → Timer1 → Bool
timer1_flags_within free zero t = false
timer1_flags_within free (suc n) t = timer1_flags_within free n t || timer1_flags free (timer1_later free n t)

-- timer 1 in free-running mode after an underflow: the next step reloads it
abbrev pub timer1_at_end : Timer1 → Timer1
timer1_at_end t = record t { counter = 65535; reload = true }

abbrev pub timer2_later : Bool → ℕ → Timer2 → Timer2
timer2_later still zero t = t
timer2_later still (suc n) t = timer2_after still (timer2_later still n t)

abbrev pub timer2_flags_within : Bool → ℕ → Timer2 → Bool
timer2_flags_within still zero t = false
timer2_flags_within still (suc n) t = timer2_flags_within still n t || timer2_flags still (timer2_later still n t)

-- the timers' parts of n steps
abbrev pub timers_later : ℕ → State → State
timers_later n c = record c {
  timer1 = timer1_later (bit c.acr 6) n c.timer1;
  timer2 = timer2_later (bit c.acr 5) n c.timer2;
  flags = record c.flags {
    timer1 = c.flags.timer1 || timer1_flags_within (bit c.acr 6) n c.timer1;
    timer2 = c.flags.timer2 || timer2_flags_within (bit c.acr 5) n c.timer2;
  };
}

-- none of the next n steps sets the timer's flag
abbrev pub Timer1SetsNoFlag : Bool → ℕ → Timer1 → Type 0
Timer1SetsNoFlag free n t = (m : ℕ) → m ≤ n → timer1_flags_within free m t ≡ false

abbrev pub Timer2SetsNoFlag : Bool → ℕ → Timer2 → Type 0
Timer2SetsNoFlag still n t = (m : ℕ) → m ≤ n → timer2_flags_within still m t ≡ false

-- none of the chip's next n steps sets the timer's flag, if that flag is enabled
abbrev pub Timer1IsCalm : ℕ → State → Type 0
Timer1IsCalm n c = (m : ℕ) → m ≤ n → c.enabled.timer1 ≡ true → timer1_flags_within (bit c.acr 6) m c.timer1 ≡ false

abbrev pub Timer2IsCalm : ℕ → State → Type 0
Timer2IsCalm n c = (m : ℕ) → m ≤ n → c.enabled.timer2 ≡ true → timer2_flags_within (bit c.acr 5) m c.timer2 ≡ false

-- With the pins `pins`, the interrupt request does not change for up to n steps.
abbrev pub AsksAlike : Pins → ℕ → State → Type 0
AsksAlike pins n c = (m : ℕ) → m ≤ n → asks (steps pins m c) ≡ asks c
