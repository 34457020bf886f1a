-- The bytes of the RAM that the beam reads, and the time during which vertical sync does not
-- change.
use Rattle.std.specs.Prelude.{ℕ, ◌-◌, ◌≡◌, ◌<◌, ◌≤◌, true, List, slice_set}
use Rattle.crtc6845.specs.Laws.{tells}
use Rattle.crtc6845.specs.Windows.{IsInWindow}
use Rattle.saa5050.specs.Shapes.{Font}
use Rattle.raster.specs.Beam.{byte_address}
use Rattle.raster.specs.State.{State}
use Rattle.raster.specs.Clock.{microseconds, vsync_of}

-- No character is shown from a byte below `low` from now on.
abbrev pub ReadsFrom : ℕ → ℕ → State → Type 0
ReadsFrom low size s =
    (n : ℕ) → (tells n s.crtc).shown ≡ true → low ≤ byte_address (tells n s.crtc).ma (tells n s.crtc).ra size

-- `ReadsFrom` continues to hold, until a register is written.
abbrev pub ReadsGoOn : Type 0
ReadsGoOn =
    (low size n : ℕ) (ram : List ℕ) (font : Font) (s : State) →
    ReadsFrom low size s → ReadsFrom low size (microseconds ram size font n s)

-- The picture does not depend on a byte below `low`.
abbrev pub StoresBelowAreUnseen : Type 0
StoresBelowAreUnseen =
    (low size n at v : ℕ) (ram : List ℕ) (font : Font) (s : State) → ReadsFrom low size s → at < low →
    microseconds (slice_set ram at v) size font n s ≡ microseconds ram size font n s

-- Vertical sync is as it is now after each of the next n microseconds.
abbrev pub StaysInSync : ℕ → State → Type 0
StaysInSync n s =
    (ram : List ℕ) (size : ℕ) (font : Font) (k : ℕ) → k ≤ n → vsync_of (microseconds ram size font k s) ≡ vsync_of s

-- If vertical sync stays for n microseconds, it stays for the other n - m after m of them, until a
-- register is written.
abbrev pub SyncStaysOn : Type 0
SyncStaysOn =
    (n m size : ℕ) (ram : List ℕ) (font : Font) (s : State) → m ≤ n → StaysInSync n s →
    StaysInSync (n - m) (microseconds ram size font m s)

-- No character of a window is shown from a byte below `low`.
abbrev pub IsLowest : ℕ → ℕ → ℕ → ℕ → Type 0
IsLowest low base count size = (ma ra : ℕ) → IsInWindow base count ma → low ≤ byte_address ma ra size
