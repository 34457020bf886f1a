-- One microsecond of the 6522: both timers, and then the edges of the control lines.
use Rattle.std.specs.Prelude.{ℕ, ◌||◌, List, [], ◌∷◌, replicate}
use Rattle.beeb_bits.specs.Bits.{bit}
use Rattle.via6522.specs.declared.Pins.{Pins}
use Rattle.via6522.specs.State.{State}
use Rattle.via6522.specs.Timers.{timer1_after, timer1_flags, timer2_after, timer2_flags}
use Rattle.via6522.specs.Lines.{ca1_edge, ca2_edge, cb1_edge, cb2_edge, levels_of}

-- The timers' part of a step.
abbrev pub timers_stepped : State → State
timers_stepped c = record c {
  timer1 = timer1_after (bit c.acr 6) c.timer1;
  timer2 = timer2_after (bit c.acr 5) c.timer2;
  flags = record c.flags {
    timer1 = c.flags.timer1 || timer1_flags (bit c.acr 6) c.timer1;
    timer2 = c.flags.timer2 || timer2_flags (bit c.acr 5) c.timer2;
  };
}

-- The control lines' part: an active edge since the step before sets its flag.
abbrev pub edges_seen : Pins → State → State
edges_seen pins c = record c {
  flags = record c.flags {
    ca1 = c.flags.ca1 || ca1_edge c.pcr c.levels pins;
    ca2 = c.flags.ca2 || ca2_edge c.pcr c.levels pins;
    cb1 = c.flags.cb1 || cb1_edge c.pcr c.levels pins;
    cb2 = c.flags.cb2 || cb2_edge c.pcr c.levels pins;
  };
  levels = levels_of pins;
}

-- One step with the pins `pins`. The shift register never shifts.
abbrev pub step : Pins → State → State
step pins c = edges_seen pins (timers_stepped c)

-- one step after another, each with its own pins
abbrev pub after_steps : List Pins → State → State
after_steps [] c = c
after_steps (p ∷ pins) c = after_steps pins (step p c)

-- n steps, each with the pins `pins`
unfoldable pub steps : Pins → ℕ → State → State
steps pins n c = after_steps (replicate n pins) c
