-- The frames that several clocks finish.
use Rattle.std.specs.Prelude.{ℕ, zero, suc, ◌+◌, ◌-◌, ◌/◌, ◌%◌, ◌^◌, ◌≡◌, true, if◌then◌else◌}
use Rattle.crtc6845.specs.State.{State}
use Rattle.crtc6845.specs.Clock.{sync_height, finishes_frame, clock_leaves, beam_of}
use Rattle.crtc6845.specs.CodeSteps.{is_quiet, quiet_beam}

-- the number of the next n clocks that finish a frame
abbrev pub frames_in : ℕ → State → ℕ
frames_in zero c = 0
frames_in (suc n) c = (if finishes_frame c then 1 else 0) + frames_in n (clock_leaves c)

-- the number of the next n clocks after the last one that finishes a frame; if none does, all n and
-- those before them
abbrev pub clocks_past_frame : ℕ → ℕ → State → ℕ
clocks_past_frame zero before c = before
clocks_past_frame (suc n) before c = clocks_past_frame n (if finishes_frame c then 0 else before + 1) (clock_leaves c)

-- A quiet chip `past` clocks after its first sync began. Sync begins again whenever it is over.
abbrev pub sync_after : ℕ → State → State
sync_after past c = record c {
  sync_lines = sync_height c.registers - past % sync_height c.registers;
  fields = (c.fields + 1 + past / sync_height c.registers) % 2 ^ 32;
}

-- A clock of a quiet chip changes only the state of vertical sync, so the chip stays quiet. Its
-- outputs are those of each such clock.
pub record RestsOn (c : State) : Type 0 where
  pub rest : is_quiet (clock_leaves c) ≡ true
  pub stays : clock_leaves c ≡ record c { sync_lines = (clock_leaves c).sync_lines; fields = (clock_leaves c).fields }
  pub told : beam_of c ≡ quiet_beam (finishes_frame c) (clock_leaves c)

abbrev pub ClocksAtRestAreAlike : Type 0
ClocksAtRestAreAlike = (c : State) → is_quiet c ≡ true → RestsOn c
