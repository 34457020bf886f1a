-- A quiet step: both timers count down, and no line changes.
use Rattle.std.proofs.Common.{◌≡◌, ◌∙◌, ap, refl, ℕ, ◌+◌, ◌-◌, ◌<◌, ◌&&◌, ◌||◌, Bool, false, not, arith}
use Rattle.std.proofs.lemmas.Bool.Decides.{nat_tests}
use Rattle.beeb_bits.specs.Bits.{bit}
use Rattle.via6522.specs.declared.Pins.{Pins}
use Rattle.via6522.specs.State.{State, Timer1, Timer2, ControlLines}
use Rattle.via6522.specs.Timers.{timer1_after, timer1_flags, timer2_after, timer2_flags}
use Rattle.via6522.specs.Lines.{is_edge, levels_of}
use Rattle.via6522.specs.Step.{step, timers_stepped, edges_seen}
use Rattle.via6522.specs.CodeQuiet.{timer1_ahead, timer2_ahead, ahead, IsQuiet}

-- a flag stays if its line does
stays : (flag up level : Bool) → (flag || is_edge up level level) ≡ flag
stays flag up level = grind arith

stays_in : (flag out up level : Bool) → (flag || (not out && is_edge up level level)) ≡ flag
stays_in flag out up level = grind arith

stays_off : (flag sets : Bool) → sets ≡ false → (flag || sets) ≡ flag
stays_off flag sets h = grind arith

-- the edges of lines that change to these levels
pub edges_to : ControlLines → State → State
edges_to l c = record c {
  flags = record c.flags {
    ca1 = c.flags.ca1 || is_edge (bit c.pcr 0) c.levels.ca1 l.ca1;
    ca2 = c.flags.ca2 || (not (bit c.pcr 3) && is_edge (bit c.pcr 2) c.levels.ca2 l.ca2);
    cb1 = c.flags.cb1 || is_edge (bit c.pcr 4) c.levels.cb1 l.cb1;
    cb2 = c.flags.cb2 || (not (bit c.pcr 7) && is_edge (bit c.pcr 6) c.levels.cb2 l.cb2);
  };
  levels = l;
}

pub edges_by_levels : (p : Pins) (c : State) → edges_seen p c ≡ edges_to (levels_of p) c
unfolding edges_to
edges_by_levels p c = refl

pub no_edges : (c : State) → edges_to c.levels c ≡ c
unfolding edges_to
no_edges c =
    rw (
      stays c.flags.ca1 (bit c.pcr 0) c.levels.ca1,
      stays_in c.flags.ca2 (bit c.pcr 3) (bit c.pcr 2) c.levels.ca2,
      stays c.flags.cb1 (bit c.pcr 4) c.levels.cb1,
      stays_in c.flags.cb2 (bit c.pcr 7) (bit c.pcr 6) c.levels.cb2,
    ) refl

quiet1 : (free : Bool) (n : ℕ) (t : Timer1) → 0 < n → t.counter + n < 65536 → t.reload ≡ false →
    (timer1_after free (timer1_ahead n t) ≡ timer1_ahead (n - 1) t) × (timer1_flags free (timer1_ahead n t) ≡ false)
quiet1 free n t some small loaded = grind (arith, nat_tests)

quiet2 : (still : Bool) (n : ℕ) (t : Timer2) → 0 < n → (still ≡ false → t.counter + n < 65536) → (still ≡ false → t.fresh ≡ false) →
    (timer2_after still (timer2_ahead still n t) ≡ timer2_ahead still (n - 1) t) × (timer2_flags still (timer2_ahead still n t) ≡ false)
quiet2 still n t some small begun = grind (arith, nat_tests)

quiet_timers : (n : ℕ) (c : State) → 0 < n → IsQuiet n c → timers_stepped (ahead n c) ≡ ahead (n - 1) c
quiet_timers n c some quiet =
    let one = quiet1 (bit c.acr 6) n c.timer1 some quiet.within1 (quiet.loaded some) in
    let two = quiet2 (bit c.acr 5) n c.timer2 some quiet.within2 (quiet.begun some) in
    rw (stays_off c.flags.timer1 _ one.1, stays_off c.flags.timer2 _ two.1, one.0, two.0) refl

pub quiet_step : (p : Pins) (n : ℕ) (c : State) → 0 < n → IsQuiet n c → levels_of p ≡ c.levels → step p (ahead n c) ≡ ahead (n - 1) c
quiet_step p n c some quiet same =
    ap (edges_seen p) (quiet_timers n c some quiet) ∙ edges_by_levels p (ahead (n - 1) c) ∙ ap (λ l. edges_to l (ahead (n - 1) c)) same
    ∙ no_edges (ahead (n - 1) c)
