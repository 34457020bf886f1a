-- The effect of a byte that is written. (SN76489AN data sheet, Data Formats; BBC Microcomputer
-- Advanced User Guide, sound generator.)
use Rattle.std.specs.Prelude.{ℕ, ◌+◌, ◌*◌, ◌/◌, ◌%◌, ◌==◌, if◌then◌else◌}
use Rattle.beeb_bits.specs.Bits.{bit}
use Rattle.sn76489.specs.State.{State, Tone, Noise, start}

-- The register of a byte. If bit 7 is set, bits 6 to 4 name it, and it is latched. Otherwise it is
-- the latched one.
abbrev pub register_of : ℕ → State → ℕ
register_of v c = if bit v 7 then v / 16 % 8 else c.latched

-- A write to a period: its low four bits if bit 7 is set, otherwise its upper six.
abbrev pub period_with : ℕ → ℕ → ℕ
period_with v period = if bit v 7 then 16 * (period / 16) + v % 16 else 16 * (v % 64) + period % 16

abbrev pub tone_with_period : ℕ → Tone → Tone
tone_with_period v t = record t { period = period_with v t.period }

abbrev pub tone_with_volume : ℕ → Tone → Tone
tone_with_volume v t = record t { volume = v % 16 }

-- A write to the noise control resets the shift register.
abbrev pub noise_with_control : ℕ → Noise → Noise
noise_with_control v n = record n { control = v % 8; register = start }

abbrev pub noise_with_volume : ℕ → Noise → Noise
noise_with_volume v n = record n { volume = v % 16 }

-- Registers 0, 2 and 4 are the periods of tones 1 to 3, and 1, 3 and 5 their volumes; 6 is the
-- noise control, and 7 the noise volume.
abbrev pub register_written : ℕ → ℕ → State → State
register_written r v c =
    if r == 0 then record c { tone1 = tone_with_period v c.tone1 }
    else if r == 1 then record c { tone1 = tone_with_volume v c.tone1 }
    else if r == 2 then record c { tone2 = tone_with_period v c.tone2 }
    else if r == 3 then record c { tone2 = tone_with_volume v c.tone2 }
    else if r == 4 then record c { tone3 = tone_with_period v c.tone3 }
    else if r == 5 then record c { tone3 = tone_with_volume v c.tone3 }
    else if r == 6 then record c { noise = noise_with_control v c.noise }
    else record c { noise = noise_with_volume v c.noise }

-- The chip after a write.
abbrev pub write_leaves : ℕ → State → State
write_leaves v c = register_written (register_of v c) v (record c { latched = register_of v c })
