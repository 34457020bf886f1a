-- A run of more ticks is one that the run of fewer ticks goes on to.
use Rattle.std.specs.Prelude.{ℕ, ◌≡◌, ◌≤◌, List, ◌++◌, take, All}
use Rattle.beeb_bits.specs.declared.clock.Clock.{Clock}
use Rattle.tube_trace.specs.declared.Entry.{Entry}
use Rattle.tube_trace.specs.Text.{text_of}
use Rattle.tube_party.specs.GoingOn.{IsLike, reference_from, after_entries}
use Rattle.host_mach.specs.State.{HostState}
use Rattle.host_mach.specs.Step.{host_transitions}
use Rattle.para_mach.specs.State.{ParaState}
use Rattle.para_mach.specs.Step.{para_transitions}
use Rattle.law_sessions.specs.OneRun.{accesses_of}
use Rattle.law_sessions.specs.TraceOfRun.{run_of}

-- The runs of two machines for `less` ticks and for `more` ticks.
pub record IsLonger (m : HostState × ParaState) (less more : ℕ) : Type 0 where
  -- The longer run goes on from the machines of the shorter one, with the chip after its accesses.
  -- Only the places of looks may differ.
  pub goes_on : IsLike (run_of m more)
      (reference_from host_transitions para_transitions (after_entries (run_of m less).host (run_of m less).para (accesses_of m less)) more)
  -- Its accesses are those of the shorter run, and then those that it does later.
  pub later : List Entry
  pub accesses : accesses_of m more ≡ accesses_of m less ++ later
  pub late : All (λ e. less ≤ (e.tick).0) later
  -- Its trace begins with that of the shorter run, if both keep the same number of accesses.
  pub trace : (clock : Clock) (keep : ℕ) →
      (rest : List ℕ) × (text_of clock (take keep (accesses_of m more)) ≡ text_of clock (take keep (accesses_of m less)) ++ rest)

abbrev pub LongerRunGoesOn : Type 0
LongerRunGoesOn = (m : HostState × ParaState) (less more : ℕ) → less ≤ more → IsLonger m less more
