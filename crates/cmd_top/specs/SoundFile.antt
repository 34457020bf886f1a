-- The theorem of the sound file: the file with the name given by `--wav` after `solo`, `run`,
-- `resume` or `replay host` ended with `Done`.
use Rattle.std.specs.Prelude.{◌≡◌, ⊤, ℕ, List, Option, Some, None, IfSome, Result, Ok}
use Rattle.beeb_bits.specs.declared.clock.Clock.{Clock}
use Rattle.beeb_bits.specs.declared.Side.TheVariants.{Host, Para}
use Rattle.beeb_files.specs.Files.{Files, bytes_of}
use Rattle.cmd_words.specs.declared.keys.InputKind.{InputKind}
use Rattle.cmd_words.specs.Command.{Command, check, asm, dis, replay, solo, run, resume, follow, gen, ticks_of}
use Rattle.cmd_words.specs.Given.{Values, clock_of, save_of, wav_of}
use Rattle.cmd_words.specs.Reads.{reads}
use Rattle.cmd_stages.specs.Plan as plans
use Rattle.cmd_stages.specs.Plan.{Want, ◌>>=◌, AreWithin}
use Rattle.cmd_stages.specs.Promise.{World}
use Rattle.cmd_stages.specs.declared.stop.Refusal.{Refusal}
use Rattle.bus_plug.specs.Plug.{Plug}
use Rattle.tube_party.specs.Reference.{reference}
use Rattle.tube_party.specs.Replay.{replay_of}
use Rattle.host_mach.specs.State.{HostState}
use Rattle.host_mach.specs.Step.{host_transitions}
use Rattle.para_mach.specs.Step.{para_transitions}
use Rattle.cmd_status.specs.declared.status.Cause.{Cause}
use Rattle.cmd_machines.specs.Inputs.{Inputs, inputs_of}
use Rattle.cmd_machines.specs.Setup.{setup_of}
use Rattle.cmd_machines.specs.Machines.{machines_of}
use Rattle.cmd_machines.specs.Sessions.{setup_in, inputs_in}
use Rattle.cmd_outcome.specs.Sound.{sound_bytes}
use Rattle.cmd_replayed.specs.Made.{host_of}
use Rattle.cmd_session.specs.Session.{state_of}

-- the host of the reference run of both machines from power-on, at its end, and its clock
abbrev pub reference_host : List Plug → ℕ → Values → Inputs → Result (Clock × HostState) (Refusal Cause)
reference_host plugs ticks given i =
    machines_of (setup_of given plugs) i >>= λ m. Ok (clock_of given, (reference host_transitions para_transitions m.0 m.1 ticks).host)

-- the host replayed from power-on, at its end, and its clock
abbrev pub replayed_host : List Plug → ℕ → Values → Inputs → Result (Clock × HostState) (Refusal Cause)
replayed_host plugs ticks given i =
    host_of (setup_of given plugs) i >>= λ m. Ok (clock_of given, (replay_of host_transitions Host m.0 ticks m.1).machine)

-- the host of the reference run of a session's machines from power-on, at its end, and its clock
abbrev pub session_host : List Plug → ℕ → Inputs → Result (Clock × HostState) (Refusal Cause)
session_host plugs ticks i =
    state_of i.state
    >>= λ s. machines_of (setup_in s plugs) (inputs_in s)
    >>= λ m. Ok (s.clock, (reference host_transitions para_transitions m.0 m.1 ticks).host)

-- The inputs were read: those of the shelf under the names to read, if it shows its files.
abbrev pub WereRead : List (Want InputKind) → Option Files → plans.Inputs InputKind → Type 0
WereRead ws None inputs = AreWithin ws inputs
WereRead ws (Some files) inputs = plans.read_all {C = Cause} files ws ≡ Ok inputs

-- The file with the name is the sound file of the host after the command's run.
pub record IsHeard (c : Command) (given : Values) (host : Inputs → Result (Clock × HostState) (Refusal Cause)) (old new : World) (name : List ℕ) : Type 0 where
  pub inputs : plans.Inputs InputKind
  pub read : WereRead (reads c) old.shelf.files inputs
  pub clock : Clock
  pub last : HostState
  pub ended : host (inputs_of inputs) ≡ Ok (clock, last)
  -- if the outlet shows its files, and the session file, which is put later, has another name
  pub file : (save_of given ≡ Some name → ⊥) → IfSome new.outlet.files (λ files. bytes_of files name ≡ Some (sound_bytes clock (ticks_of c) last))

-- for each command that has a host, if the sound file is requested
unfoldable pub SoundFile : List Plug → Option Command → World → World → Type 0
SoundFile plugs (Some (replay Host trace ticks out given)) old new =
    IfSome (wav_of given) (IsHeard (replay Host trace ticks out given) given (replayed_host plugs ticks given) old new)
SoundFile plugs (Some (solo ticks out keep given)) old new =
    IfSome (wav_of given) (IsHeard (solo ticks out keep given) given (reference_host plugs ticks given) old new)
SoundFile plugs (Some (run ticks out keep given)) old new =
    IfSome (wav_of given) (IsHeard (run ticks out keep given) given (reference_host plugs ticks given) old new)
SoundFile plugs (Some (resume state ticks out keep given)) old new =
    IfSome (wav_of given) (IsHeard (resume state ticks out keep given) given (session_host plugs ticks) old new)
SoundFile plugs (Some (replay Para trace ticks out given)) old new = ⊤
SoundFile plugs (Some (check trace)) old new = ⊤
SoundFile plugs (Some (asm part source out)) old new = ⊤
SoundFile plugs (Some (dis part image origin out)) old new = ⊤
SoundFile plugs (Some (follow side trace ticks out given)) old new = ⊤
SoundFile plugs (Some (gen seed)) old new = ⊤
SoundFile plugs None old new = ⊤
