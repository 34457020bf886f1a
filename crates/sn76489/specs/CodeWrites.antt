-- Words of the code that renders. No public clause uses them. They do the writes up to a moment
-- together.
use Rattle.std.specs.Prelude.{ℕ, nat_le, List, [], ◌∷◌, if◌then◌else◌}
use Rattle.sn76489.specs.declared.SoundWrite.{SoundWrite}
use Rattle.sn76489.specs.State.{State}
use Rattle.sn76489.specs.Writes.{write_leaves}

-- the chip after the first writes of a list, those up to moment m
unfoldable pub caught_up : ℕ → List SoundWrite → State → State
caught_up m [] c = c
caught_up m (w ∷ writes) c = if nat_le w.moment m then caught_up m writes (write_leaves w.byte c) else c

-- the writes after moment m
unfoldable pub pending_writes : ℕ → List SoundWrite → List SoundWrite
pending_writes m [] = []
pending_writes m (w ∷ writes) = if nat_le w.moment m then pending_writes m writes else w ∷ writes
