-- The addresses that are shown from now on, until a register is written.
use Rattle.std.specs.Prelude.{ℕ, ◌+◌, ◌-◌, ◌*◌, ◌%◌, ◌≡◌, ◌<◌, ◌⊎◌, true, min, nat_lt, Option, Some, None, if◌then◌else◌}
use Rattle.crtc6845.specs.State.{Registers, State}
use Rattle.crtc6845.specs.Laws.{tells}

-- `ma` is one of `count` addresses from `base` on, modulo 2^14
abbrev pub IsInWindow : ℕ → ℕ → ℕ → Type 0
IsInWindow base count ma = (i : ℕ) × ((i < count) × (ma ≡ (base + i) % 16384))

-- Each character that is shown from now on has an address in one of the two windows.
abbrev pub ShowsWindows : ℕ → ℕ → ℕ → ℕ → State → Type 0
ShowsWindows base count start frame c =
    (n : ℕ) → (tells n c).shown ≡ true →
    IsInWindow base count (tells n c).ma ⊎ IsInWindow start frame (tells n c).ma

-- The characters that a frame shows from row `first` on, among the rows that it has.
abbrev pub shown_count : Registers → ℕ → ℕ
shown_count r first = (min r.vertical_displayed (r.vertical_total + 1) - first) * r.horizontal_displayed

-- The characters that the current frame may still show. If the row is past R4, it counts on, and
-- any address may be shown.
abbrev pub now_count_in : Option ℕ → State → ℕ
now_count_in None c = if nat_lt c.registers.vertical_total c.row then 16384 else shown_count c.registers c.row
now_count_in (Some line) c = 0

abbrev pub now_count : State → ℕ
now_count c = now_count_in c.adjust c
