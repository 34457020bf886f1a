-- The program's values of a run, as the definitions see them.
use Rattle.std.specs.Prelude.{◌≡◌, ℕ, ◌≤◌, List, length, take, Option}
use Rattle.beeb_bits.specs.declared.clock.Clock.{Clock}
use Rattle.bus_plug.specs.Plug.{Plug}
use Rattle.tube_party.specs.declared.one_thread.Done.{Done}
use Rattle.tube_party.specs.OneThread.{IsKept, IsPlayed, played_of}
use Rattle.tube_party.specs.Reference.{reference, IsTraceBelow}
use Rattle.beeb_bits.specs.declared.Side.TheVariants as sides
use Rattle.tube_chip.specs.Events.{Event, of_side}
use Rattle.tube_trace.specs.declared.Entry.{Entry}
use Rattle.tube_trace.specs.Entries.{accesses}
use Rattle.host_mach.specs.declared.machine.HostMachine.{HostMachine}
use Rattle.host_mach.specs.State.{HostState}
use Rattle.host_mach.specs.Step.{host_transitions}
use Rattle.host_mach.specs.View.{host_seen}
use Rattle.para_mach.specs.State.{ParaState}
use Rattle.para_mach.specs.Step.{para_transitions}
use Rattle.save_state.specs.Saved.{Session}
use Rattle.cmd_outcome.specs.Left.{Kept}
use Rattle.cmd_ended.specs.Kept.{kept_of, saved_file}

-- Both machines were run from the states s and t as the reference run does, and the first `keep`
-- accesses of each side were kept.
abbrev pub IsRun : {D : Type 0} → (D → Plug) → HostState → ParaState → ℕ → ℕ → Done (HostMachine D) ParaState → Type 0
IsRun plug s t n keep d =
    IsPlayed (reference host_transitions para_transitions s t n) keep (played_of (host_seen plug) (λ m. m) d)

-- The accesses in a list of events are a trace below the tick n of a run. host and para are the
-- first accesses of each side.
pub record AreFirst (n : ℕ) (list : List Event) (keep : ℕ) (host para : List Entry) : Type 0 where
  pub most : n ≤ 1073741824
  pub trace : IsTraceBelow n (accesses list)
  pub host_is : host ≡ take keep (accesses (of_side sides.Host list))
  pub para_is : para ≡ take keep (accesses (of_side sides.Para list))

-- Two parties kept the first accesses of each side in a list of events, and counted all.
pub record AreKept {H P : Type 0} (n : ℕ) (list : List Event) (keep : ℕ) (d : Done H P) : Type 0 where
  pub most : n ≤ 1073741824
  pub trace : IsTraceBelow n (accesses list)
  pub host_kept : IsKept sides.Host list keep d.host_list.items d.host_count
  pub para_kept : IsKept sides.Para list keep d.para_list.items d.para_count

-- The results of a run of n ticks with a list of events: the number of its accesses, the accesses
-- kept, and its session file. begun is the beginning of the run, if its session is saved.
pub record AreFiles (clock : Clock) (begun : Option Session) (n keep : ℕ) (list : List Event) (tube : ℕ) (kept : Kept) (saved : Option (List ℕ)) : Type 0 where
  pub tube_is : tube ≡ length (accesses list)
  pub kept_is : kept ≡ kept_of clock (take keep (accesses list))
  pub saved_is : saved ≡ saved_file begun n keep list
