-- The result of a run of two parties on one thread, compared with the reference run.
use Rattle.std.specs.Prelude.{ℕ, ◌≡◌, ◌≤◌, Bool, IsTrue, List, length, take}
use Rattle.beeb_bits.specs.declared.Side.{Side}
use Rattle.beeb_bits.specs.declared.Side.TheVariants.{Host, Para}
use Rattle.tube_chip.specs.State.{State}
use Rattle.tube_chip.specs.Events.{Event, of_side}
use Rattle.tube_trace.specs.declared.Entry.{Entry}
use Rattle.tube_trace.specs.Entries.{accesses}
use Rattle.tube_party.specs.declared.one_thread.Done.{Done}
use Rattle.tube_party.specs.Transitions.{Transitions}
use Rattle.tube_party.specs.Reference.{World}

-- one party may play the host, the other the parasite
abbrev pub TakeSides : (Side → Bool) → (Side → Bool) → Type 0
TakeSides host para = IsTrue (host Host) × IsTrue (para Para)

-- neither party is closed past n
abbrev pub AreClosedWithin : {S T : Type 0} → Transitions S → Transitions T → S → T → ℕ → Type 0
AreClosedWithin h p s t n = (h.closed s ≤ n) × (p.closed t ≤ n)

-- The list holds the first `keep` accesses of a side, and the count is the number of all of them.
pub record IsKept (side : Side) (events : List Event) (keep : ℕ) (list : List Entry) (count : ℕ) : Type 0 where
  pub list_is : list ≡ take keep (accesses (of_side side events))
  pub count_is : count ≡ length (accesses (of_side side events))

-- The result of a run of two parties: both as they ended, the chip, the first accesses of each
-- side, and their numbers.
pub record Played (S T : Type 0) : Type 0 where
  pub host : S
  pub para : T
  pub chip : State
  pub host_list : List Entry
  pub para_list : List Entry
  pub host_count : ℕ
  pub para_count : ℕ

-- that of two parties, whose states `host` and `para` give
abbrev pub played_of : {H P S T : Type 0} → (H → S) → (P → T) → Done H P → Played S T
played_of host para d = record {
  host = host d.host;
  para = para d.para;
  chip = d.chip;
  host_list = d.host_list.items;
  para_list = d.para_list.items;
  host_count = d.host_count;
  para_count = d.para_count;
}

-- The run ended as this world, with these parts of its accesses stored and counted.
pub record IsPlayed {S T : Type 0} (w : World S T) (keep : ℕ) (d : Played S T) : Type 0 where
  pub host_is : d.host ≡ w.host
  pub para_is : d.para ≡ w.para
  pub chip_is : d.chip ≡ w.chip
  pub host_kept : IsKept Host w.list keep d.host_list d.host_count
  pub para_kept : IsKept Para w.list keep d.para_list d.para_count
