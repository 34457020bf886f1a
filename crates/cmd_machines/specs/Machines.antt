-- Both machines at power-on, made from what a command read.
use Rattle.std.specs.Prelude.{ℕ, ◌==◌, List, length, Result, Ok, Err, if◌then◌else◌}
use Rattle.host_mach.specs.State as host
use Rattle.para_mach.specs.State as para
use Rattle.cmd_stages.specs.Plan.{◌>>=◌}
use Rattle.cmd_stages.specs.declared.stop.Refusal.{Refusal}
use Rattle.cmd_stages.specs.declared.stop.Refusal.TheVariants as refusals
use Rattle.cmd_status.specs.declared.status.Which.TheVariants.{Os, Tube}
use Rattle.cmd_status.specs.declared.status.Cause.{Cause}
use Rattle.cmd_status.specs.declared.status.Cause.TheVariants.{BadImage}
use Rattle.cmd_machines.specs.Inputs.{Inputs}
use Rattle.cmd_machines.specs.Setup.{Setup}
use Rattle.cmd_machines.specs.Roms.{roms_of}
use Rattle.cmd_machines.specs.Script.{script_of}
use Rattle.cmd_machines.specs.Discs.{discs_of}

-- the second processor's boot ROM, if it has its length
unfoldable pub rom_of : List ℕ → Result (List ℕ) (Refusal Cause)
rom_of bytes = if length bytes == 2048 then Ok bytes else Err (refusals.Cause (BadImage Tube (length bytes)))

-- the operating system's image, if it has its length
unfoldable pub os_of : List ℕ → Result (List ℕ) (Refusal Cause)
os_of bytes = if length bytes == 16384 then Ok bytes else Err (refusals.Cause (BadImage Os (length bytes)))

-- Both machines at power-on with the given setup. The lengths of the images are tested in the order
-- in which they are read, then the form of the script.
unfoldable pub machines_of : Setup → Inputs → Result (host.HostState × para.ParaState) (Refusal Cause)
machines_of set i =
    os_of i.os
    >>= λ os. rom_of i.tube
    >>= λ rom. roms_of (record { os = os; slots = i.roms; font = i.font })
    >>= λ roms. discs_of set.kinds i.disc0 i.disc1
    >>= λ discs. script_of i.keys
    >>= λ script. Ok (host.power_on set.clock roms discs.0 discs.1 script set.plugs, para.power_on set.clock rom)
