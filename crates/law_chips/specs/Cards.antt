-- The RAM card over whole runs of accesses to FRED and JIM. (Profile.)
use Rattle.std.specs.Prelude.{ℕ, ◌==◌, ◌&&◌, ◌≡◌, ◌<◌, ◌≤◌, List, [], ◌∷◌, if◌then◌else◌}
use Rattle.bus_plug.specs.Plug.{Plug, IsPlugAddress, plug_answer, after_read, after_write}
use Rattle.bus_plug.specs.RamCard.{new_card}

pub data Access : Type 0 where
  read : (at : ℕ) → Access
  write : (at v : ℕ) → Access

abbrev pub after_access : Access → Plug → Plug
after_access (read at) p = after_read p at
after_access (write at v) p = after_write p at v

-- the device after accesses, one after the other
abbrev pub after_accesses : List Access → Plug → Plug
after_accesses [] p = p
after_accesses (a ∷ accesses) p = after_accesses accesses (after_access a p)

-- an access to FRED or JIM, of a byte
abbrev pub IsAccess : Access → Type 0
IsAccess (read at) = IsPlugAddress at
IsAccess (write at v) = IsPlugAddress at × (v < 256)

abbrev pub AreAccesses : List Access → Type 0
AreAccesses [] = Unit {0}
AreAccesses (a ∷ accesses) = IsAccess a × AreAccesses accesses

-- the page that is selected: the byte last written to FCFF
abbrev pub page_after : Access → ℕ → ℕ
page_after (read at) page = page
page_after (write at v) page = if at == 0xFCFF then v else page

abbrev pub last_page : List Access → ℕ → ℕ
last_page [] page = page
last_page (a ∷ accesses) page = last_page accesses (page_after a page)

-- the byte at address `at` of page `of` after an access while `page` is selected; it was `b` before
abbrev pub byte_after : (page of at : ℕ) → Access → ℕ → ℕ
byte_after page of at (read from) b = b
byte_after page of at (write to v) b = if (page == of) && (to == at) then v else b

-- The byte last written at address `at` while page `of` was selected, or `b` if there is none. The
-- page selected at the beginning is `page`.
abbrev pub last_written : (page of at : ℕ) → List Access → ℕ → ℕ
last_written page of at [] b = b
last_written page of at (a ∷ accesses) b = last_written (page_after a page) of at accesses (byte_after page of at a b)

-- After each run from power-on, a read in JIM gives the byte that was last written there while the
-- same page was selected, or 00. A read of FCFF gives the page.
pub record CardRemembers : Type 0 where
  pub bytes : (accesses : List Access) (at : ℕ) → AreAccesses accesses → 0xFD00 ≤ at → at ≤ 0xFDFF →
      plug_answer (after_accesses accesses new_card) at ≡ last_written 0 (last_page accesses 0) at accesses 0
  pub page : (accesses : List Access) → AreAccesses accesses → plug_answer (after_accesses accesses new_card) 0xFCFF ≡ last_page accesses 0
