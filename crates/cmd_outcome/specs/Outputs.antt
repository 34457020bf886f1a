-- The outputs of the machines, in the order in which they are written.
use Rattle.std.specs.Prelude.{ℕ, zero, suc, List, [], ◌∷◌, ◌++◌, length, Option, Some, None}
use Rattle.beeb_bits.specs.declared.Side.TheVariants as sides
use Rattle.host_bus.specs.Bus.{bus_disc}
use Rattle.host_mach.specs.State.{HostState}
use Rattle.cmd_outcome.specs.declared.output.Output.{Output}
use Rattle.cmd_outcome.specs.declared.output.Output.TheVariants.{Report, Memory, Disc, Frame, Trace, Plug, Sound, Session}
use Rattle.cmd_outcome.specs.Left.{Left}

-- the output, if its source is present
abbrev pub if_there : {S : Type 0} → Output → Option S → List Output
if_there output None = []
if_there output (Some s) = output ∷ []

-- the outputs of the host, if it is present
abbrev pub of_host : (HostState → List Output) → Option HostState → List Output
of_host outputs None = []
of_host outputs (Some s) = outputs s

-- the frames, numbered from 0
abbrev pub frames : ℕ → List Output
frames zero = []
frames (suc n) = frames n ++ Frame n ∷ []

-- the plugged devices, numbered from 0
abbrev pub plugs : ℕ → List Output
plugs zero = []
plugs (suc n) = plugs n ++ Plug n ∷ []

-- the discs in drive 0 and drive 1
abbrev pub discs : HostState → List Output
discs s = if_there (Disc 0) (bus_disc 0 s.bus.bus) ++ if_there (Disc 1) (bus_disc 1 s.bus.bus)

abbrev pub shots : HostState → List Output
shots s = frames (length s.bus.bus.board.shots)

abbrev pub spills : HostState → List Output
spills s = plugs (length s.bus.bus.plugs)

-- The report; the memories of the machines that are present, the host's first; the discs; the
-- frames; the trace of the accesses kept, if there is one; the bytes of the plugged devices.
abbrev pub front_of : Left → List Output
front_of l =
    Report ∷ []
    ++ if_there (Memory sides.Host) l.host
    ++ if_there (Memory sides.Para) l.para
    ++ of_host discs l.host
    ++ of_host shots l.host
    ++ if_there Trace l.kept
    ++ of_host spills l.host

-- all outputs of machines: those of front_of, and then each output that has a name of its own
unfoldable pub machine_outputs : Left → List Output
machine_outputs l = front_of l ++ if_there Sound l.names.wav ++ if_there Session l.names.save
