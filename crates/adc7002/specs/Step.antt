-- One microsecond of the uPD7002. (uPD7002 data sheet. That a conversion takes 4,000 or 10,000
-- microseconds, and has the level of its end, is this project's profile.)
use Rattle.std.specs.Prelude.{ℕ, ◌-◌, ◌/◌, ◌%◌, ◌==◌, true, bit_and, List, [], ◌∷◌, replicate, slice_index, if◌then◌else◌}
use Rattle.adc7002.specs.State.{State}
use Rattle.adc7002.specs.Registers.{channel, has_12_bits}

-- the result's low byte: four bits of the level in the high digit, or 00 for a conversion to 8 bits
abbrev pub low_byte : ℕ → ℕ → ℕ
low_byte kept level = if has_12_bits kept then bit_and (level % 256) 0xF0 else 0x00

-- The end of a conversion, with its channel at `level`.
abbrev pub end_leaves : ℕ → State → State
end_leaves level a = record a { left = 0; high = level / 256; low = low_byte a.kept level; has_ended = true }

-- One step, with the levels of the four channels.
abbrev pub step : List ℕ → State → State
step levels a =
    if a.left == 0 then a
    else if a.left == 1 then end_leaves (slice_index levels (channel a.kept)) a
    else record a { left = a.left - 1 }

-- one step after another, each with its levels
abbrev pub after_steps : List (List ℕ) → State → State
after_steps [] a = a
after_steps (l ∷ levels) a = after_steps levels (step l a)

-- n steps, each with `levels`
unfoldable pub steps : List ℕ → ℕ → State → State
steps levels n a = after_steps (replicate n levels) a
