-- Cx, read address: the six bytes of the next ID field. (WD1770 data sheet, Type III Commands: read
-- address.)
use Rattle.std.specs.Prelude.{ℕ, ◌+◌, ◌*◌, ◌%◌, ◌≡◌, ◌≢◌, ◌≤◌, ◌<◌, ◌==◌, Bool, true, false, List, [], ◌∷◌, Some}
use Rattle.std.specs.List.{list_any}
use Rattle.wd1770.specs.declared.drive.Target.{Target}
use Rattle.wd1770.specs.declared.command.Command.TheVariants.{Idle, GivingAddress}
use Rattle.wd1770.specs.State.{State}
use Rattle.wd1770.specs.Select.{is_reset, is_single_density, disc_in, target_selected}
use Rattle.wd1770.specs.Sectors.{is_on_disc}
use Rattle.wd1770.specs.Registers.{write_leaves}
use Rattle.wd1770.specs.Step.{next_angle, step}
use Rattle.wd1770.specs.History.{Event, history, count_steps}
use Rattle.law_chips.specs.SectorReads.{bytes_taken}
use Rattle.law_chips.specs.Searches.{AllWait, sector_angle}
use Rattle.law_chips.specs.LostData.{accesses}

-- The steps of an ID field: 14 places of 64 steps, from the sector's beginning on.
abbrev pub address_steps : ℕ
address_steps = 896

-- Sector `k` begins, and the command reads its ID field.
pub record IsAtAddress (s : State) (target : Target) (k : ℕ) : Type 0 where
  pub command : s.command ≡ GivingAddress target k
  pub angle : s.angle ≡ Some (sector_angle k)
  pub drq : s.drq ≡ false
  pub lost : s.lost_data ≡ false

-- The program takes byte `i`: it comes at place 7 + i, and must be taken before the next place.
abbrev pub is_taken : ℕ → List Event → Bool
is_taken i events = list_any (λ place. place == 7 + i) (accesses 0 events)

-- Sector `k` is the next one that begins, in step n + 1.
pub record ComesNext (s : State) (k n : ℕ) : Type 0 where
  pub number : k < 10
  pub begins : (next_angle s.angle + n) % 200000 ≡ sector_angle k
  pub none_before : (i j : ℕ) → i < n → j < 10 → (next_angle s.angle + i) % 200000 ≢ sector_angle j

-- Cx is written while no command is in progress. The disc has the head's track and the side. The
-- program waits for `n` steps.
pub record IsAsked (s : State) (waits : List Event) (n : ℕ) : Type 0 where
  pub idle : s.command ≡ Idle
  pub live : is_reset s.latch ≡ false
  pub density : is_single_density s.latch ≡ true
  pub on_disc : is_on_disc (disc_in (target_selected s).drive s) (target_selected s) 0 ≡ true
  pub wait : AllWait waits
  pub waited : count_steps waits ≡ n

-- the bytes that the program has, and the sector register and status afterwards
pub record HasAddress (target : Target) (k : ℕ) (events : List Event) (s : State) : Type 0 where
  pub bytes : bytes_taken s events ≡ target.head ∷ target.side ∷ k ∷ 1 ∷ 0 ∷ 0 ∷ []
  pub sector : (history events s).sector ≡ target.head
  pub over : (history events s).command ≡ Idle
  pub kept : (history events s).lost_data ≡ false

pub record AddressIsRead : Type 0 where
  -- A program that takes each byte in its time has track, side, sector, the code of the length, and
  -- two bytes 00 in place of a checksum. The sector register is then the track.
  pub whole : (s : State) (target : Target) (k : ℕ) (events : List Event) → IsAtAddress s target k → k < 10 →
      AllWait events → count_steps events ≡ address_steps → ((i : ℕ) → i < 6 → is_taken i events ≡ true) →
      HasAddress target k events s
  -- If a program misses a byte before the next comes, lost data is set.
  pub told : (s : State) (target : Target) (k : ℕ) (events : List Event) → IsAtAddress s target k → k < 10 →
      AllWait events → count_steps events ≤ address_steps →
      (i : ℕ) → i < 5 → 64 * (8 + i) ≤ count_steps events → is_taken i events ≡ false → (history events s).lost_data ≡ true
  -- Some sector begins within 20,288 steps.
  pub some : (s : State) → (k : ℕ) × (n : ℕ) × (n < 20288) × ComesNext s k n
  -- The ID field is that of the first sector that begins after the write.
  pub next : (s : State) (v k n : ℕ) (waits : List Event) → 0xC0 ≤ v → v < 0xD0 → n < 200000 → IsAsked s waits n → ComesNext (write_leaves 0 v s) k n →
      IsAtAddress (step (history waits (write_leaves 0 v s))) (target_selected s) k
