-- One clock of the SN76489AN: tones 1, 2 and 3, and then the noise. (SN76489AN data sheet, Tone
-- Generators and Noise Generator. The taps and the clock of a tone of period 0 are this project's
-- profile.)
use Rattle.std.specs.Prelude.{ℕ, zero, suc, ◌+◌, ◌-◌, ◌*◌, ◌/◌, ◌%◌, ◌==◌, ◌&&◌, nat_le, Bool, not, if◌then◌else◌}
use Rattle.beeb_bits.specs.Bits.{bit}
use Rattle.sn76489.specs.State.{State, Tone, Noise}

-- the number of clocks of a period
abbrev pub period_clocks : ℕ → ℕ
period_clocks period = if period == 0 then 1024 else period

-- At a counter of 0 or 1 the output changes its level, and the counter starts again from the
-- period.
abbrev pub tone_clock_leaves : Tone → Tone
tone_clock_leaves t =
    if nat_le t.counter 1 then record t { output = not t.output; counter = period_clocks t.period }
    else record t { counter = t.counter - 1 }

-- a tone's output becomes 1 in the next clock
abbrev pub rises : Tone → Bool
rises t = not t.output && (tone_clock_leaves t).output

-- the number of clocks from one shift to the next, at rates 0, 1 and 2
abbrev pub shift_clocks : ℕ → ℕ
shift_clocks rate = if rate == 0 then 32 else if rate == 1 then 64 else 128

abbrev pub is_white : Noise → Bool
is_white n = bit n.control 2

-- A shift to the right. Bit 14 becomes the old bit 0, or for white noise the exclusive or of the
-- old bits 0 and 1.
abbrev pub shift_leaves : Bool → ℕ → ℕ
shift_leaves white register = register / 2 + 0x4000 * (if white then (register + register / 2) % 2 else register % 2)

-- the noise shifts in the clock `number`, counted from the chip's first; tone 3 rises in it or not
abbrev pub shifts_at : ℕ → Bool → Noise → Bool
shifts_at number tone3_rises n = if n.control % 4 == 3 then tone3_rises else number % shift_clocks (n.control % 4) == 0

abbrev pub noise_clock_leaves : ℕ → Bool → Noise → Noise
noise_clock_leaves number tone3_rises n =
    if shifts_at number tone3_rises n then record n { register = shift_leaves (is_white n) n.register } else n

-- One clock.
abbrev pub clock_leaves : State → State
clock_leaves c = record c {
  tone1 = tone_clock_leaves c.tone1;
  tone2 = tone_clock_leaves c.tone2;
  tone3 = tone_clock_leaves c.tone3;
  noise = noise_clock_leaves ((c.count + 1) % 128) (rises c.tone3) c.noise;
  count = (c.count + 1) % 128;
}

-- n clocks
unfoldable pub clocks : ℕ → State → State
clocks zero c = c
clocks (suc n) c = clock_leaves (clocks n c)
