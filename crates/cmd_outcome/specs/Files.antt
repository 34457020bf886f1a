-- The file of each output: its name, made from the given names, and its bytes. An absent machine or
-- part gives no bytes.
use Rattle.std.specs.Prelude.{ℕ, ◌/◌, ◌%◌, List, [], ◌++◌, length, Option, Some, None, option_map, slice_get, unwrap_or, decimal, codes}
use Rattle.beeb_bits.specs.declared.Side.{Side}
use Rattle.beeb_bits.specs.declared.Side.TheVariants as sides
use Rattle.disc_image.specs.Image.{Image}
use Rattle.cpu6502.specs.Sequences.{halted}
use Rattle.host_bus.specs.Bus.{bus_disc}
use Rattle.host_mach.specs.State.{HostState}
use Rattle.para_mach.specs.State.{ParaState, shown_regs}
use Rattle.bus_plug.specs.Plug.{plug_spills}
use Rattle.frame_out.specs.Pixmap.{pixmap}
use Rattle.report.specs.declared.Line.{Line}
use Rattle.report.specs.Text.{text}
use Rattle.cmd_outcome.specs.declared.output.Output.{Output}
use Rattle.cmd_outcome.specs.declared.output.Output.TheVariants.{Report, Memory, Disc, Frame, Trace, Plug, Sound, Session, Listing, Counts, Bytes}
use Rattle.cmd_outcome.specs.Left.{Kept, Left}
use Rattle.cmd_outcome.specs.Sound.{sound_bytes}

-- a machine's line in a report
abbrev pub host_line : HostState → Line
host_line s = record { regs = s.cpu.regs; stopped = halted s.cpu }

abbrev pub para_line : ParaState → Line
para_line s = record { regs = shown_regs s; stopped = s.bus.is_held }

-- the number of frames taken by shots
abbrev pub frame_count : HostState → ℕ
frame_count s = length s.bus.bus.board.shots

abbrev pub kept_count : Kept → ℕ
kept_count k = k.count

-- The report: the lines of the machines that are present, their number of Tube accesses, and the
-- numbers of accesses kept and of frames.
unfoldable pub report_text : Left → List ℕ
report_text l =
    text l.ticks (option_map host_line l.host) (option_map para_line l.para) l.tube (option_map kept_count l.kept) (option_map frame_count l.host)

-- the bytes made of a part, if it is present
abbrev pub bytes_in : {S : Type 0} → (S → List ℕ) → Option S → List ℕ
bytes_in bytes None = []
bytes_in bytes (Some s) = bytes s

abbrev pub host_ram : HostState → List ℕ
host_ram s = s.bus.bus.board.ram

abbrev pub para_ram : ParaState → List ℕ
para_ram s = s.bus.ram

abbrev pub ram_of : Side → Left → List ℕ
ram_of sides.Host l = bytes_in host_ram l.host
ram_of sides.Para l = bytes_in para_ram l.para

-- the disc's image at the end of the run: exactly its bytes
abbrev pub image_bytes : Image → List ℕ
image_bytes disc = disc.bytes

abbrev pub disc_bytes : ℕ → HostState → List ℕ
disc_bytes drive s = bytes_in image_bytes (bus_disc drive s.bus.bus)

-- the pixmap of a frame taken by a shot
abbrev pub frame_bytes : ℕ → HostState → List ℕ
frame_bytes number s = bytes_in pixmap (slice_get s.bus.bus.board.shots number)

-- the bytes that a plugged device spills
abbrev pub plug_bytes : ℕ → HostState → List ℕ
plug_bytes number s = bytes_in plug_spills (slice_get s.bus.bus.plugs number)

abbrev pub trace_text : Kept → List ℕ
trace_text k = k.trace

-- a number below 1000 in three decimal digits
abbrev pub three_digits : ℕ → List ℕ
three_digits number = decimal (number / 100) ++ (decimal (number / 10 % 10) ++ decimal (number % 10))

-- the suffix of the name of a machine's memory
abbrev pub memory_name : Side → List ℕ
memory_name sides.Host = codes ".host"
memory_name sides.Para = codes ".para"

abbrev pub frame_name : List ℕ → ℕ → List ℕ
frame_name out number = out ++ (codes "." ++ (three_digits number ++ codes ".ppm"))

-- the name given for one output alone
abbrev pub own_name : Option (List ℕ) → List ℕ
own_name name = unwrap_or name []

-- The file of an output.
abbrev pub file_of : Left → Output → List ℕ × List ℕ
file_of l Report = (l.names.out ++ codes ".report", report_text l)
file_of l (Memory side) = (l.names.out ++ memory_name side, ram_of side l)
file_of l (Disc drive) = (l.names.out ++ (codes ".d" ++ decimal drive), bytes_in (disc_bytes drive) l.host)
file_of l (Frame number) = (frame_name l.names.out number, bytes_in (frame_bytes number) l.host)
file_of l Trace = (l.names.out ++ codes ".trace", bytes_in trace_text l.kept)
file_of l (Plug number) = (l.names.out ++ (codes ".plug" ++ decimal number), bytes_in (plug_bytes number) l.host)
file_of l Sound = (own_name l.names.wav, bytes_in (sound_bytes l.clock l.ticks) l.host)
file_of l Session = (own_name l.names.save, unwrap_or l.saved [])
file_of l Listing = (l.names.out ++ codes ".list", l.bytes)
file_of l Counts = (l.names.out ++ codes ".counts", unwrap_or l.counts [])
-- under the given name without a suffix
file_of l Bytes = (l.names.out, l.bytes)
