-- The final state of a command, from which the files of its outputs are made.
use Rattle.std.specs.Prelude.{ℕ, List, Option}
use Rattle.beeb_bits.specs.declared.clock.Clock.{Clock}
use Rattle.host_mach.specs.State.{HostState}
use Rattle.para_mach.specs.State.{ParaState}
use Rattle.cmd_outcome.specs.Names.{Names}

-- the accesses kept: their number, and their trace
pub record Kept : Type 0 where
  pub count : ℕ
  pub trace : List ℕ

pub record Left : Type 0 where
  -- the names given for outputs
  pub names : Names
  pub clock : Clock
  pub ticks : ℕ
  -- the number of Tube accesses of the machines that are present
  pub tube : ℕ
  pub host : Option HostState
  pub para : Option ParaState
  pub kept : Option Kept
  -- the session file of the run, if it is saved
  pub saved : Option (List ℕ)
  -- the counts of instruction starts, if they are written
  pub counts : Option (List ℕ)
  -- the bytes of an output without a machine
  pub bytes : List ℕ
