-- The machines that `replay` and `follow` make, and the entries of their trace.
use Rattle.std.specs.Prelude.{ℕ, Bool, true, false, List, [], ◌∷◌, Result, Ok, Err}
use Rattle.beeb_bits.specs.declared.clock.Clock.{Clock}
use Rattle.tube_trace.specs.declared.Entry.{Entry}
use Rattle.host_mach.specs.State as host
use Rattle.para_mach.specs.State as para
use Rattle.cmd_stages.specs.Plan.{◌>>=◌}
use Rattle.cmd_stages.specs.declared.stop.Refusal.{Refusal}
use Rattle.cmd_stages.specs.declared.stop.Refusal.TheVariants as refusals
use Rattle.cmd_status.specs.declared.status.Cause.{Cause}
use Rattle.cmd_status.specs.declared.status.Cause.TheVariants.{BadTrace}
use Rattle.cmd_machines.specs.Inputs.{Inputs}
use Rattle.cmd_machines.specs.Setup.{Setup}
use Rattle.cmd_machines.specs.Machines.{rom_of}
use Rattle.cmd_machines.specs.Roms.{roms_of}
use Rattle.cmd_outcome.specs.Trace.{entries_of}
use Rattle.cmd_machines.specs.Script.{script_of}
use Rattle.cmd_machines.specs.Discs.{discs_of}

-- The entries of a trace with the given clock. A host without a Tube has an empty trace: any other
-- is refused at its first line.
unfoldable pub entries_at : Bool → Clock → List ℕ → Result (List Entry) (Refusal Cause)
entries_at true clock bytes = entries_of clock bytes
entries_at false clock [] = Ok []
entries_at false clock (b ∷ bytes) = Err (refusals.Cause (BadTrace 1 5))

-- The entries against which the host is replayed, and the host at power-on. The refusals come in
-- this order: the lengths of the images, the discs' last; the form of the trace and its clock, or
-- any trace without a Tube; the form of the script.
unfoldable pub host_of : Setup → Inputs → Result (List Entry × host.HostState) (Refusal Cause)
host_of set i =
    roms_of (record { os = i.os; slots = i.roms; font = i.font })
    >>= λ roms. discs_of set.kinds i.disc0 i.disc1
    >>= λ discs. entries_at set.tube set.clock i.trace
    >>= λ entries. script_of i.keys
    >>= λ script. Ok (entries, host.with_tube set.tube (host.power_on set.clock roms discs.0 discs.1 script set.plugs))

-- The entries against which the second processor is replayed, and the second processor at power-on.
-- The refusals come in this order: the length of the ROM, the form of the trace, and its clock.
unfoldable pub para_of : Clock → Inputs → Result (List Entry × para.ParaState) (Refusal Cause)
para_of clock i = rom_of i.tube >>= λ rom. entries_of clock i.trace >>= λ entries. Ok (entries, para.power_on clock rom)
