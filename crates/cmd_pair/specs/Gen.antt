-- `gen SEED`: the demonstration pair of a seed, run on one thread.
use Rattle.std.specs.Prelude.{ℕ, true, List, [], ◌++◌, Result, Ok, slice_index, codes}
use Rattle.std.specs.Fmt.{decimal}
use Rattle.digits.specs.Hexadecimal.{hex_digits}
use Rattle.op_table.specs.declared.Part.TheVariants.{Nmos, Cmos}
use Rattle.asm65.specs.declared.AsmError.{AsmError}
use Rattle.asm65.specs.Source.{source}
use Rattle.demo_gen.specs.Demo.{host_text, tube_text, drawn_bytes, image_of, image_holding}
use Rattle.tube_party.specs.Reference.{reference}
use Rattle.beeb_bits.specs.declared.clock.Clock.TheVariants.{Three}
use Rattle.disc_image.specs.declared.Kind.TheVariants.{Ssd}
use Rattle.host_mach.specs.State.{HostState}
use Rattle.host_mach.specs.Step.{host_transitions}
use Rattle.para_mach.specs.Step.{para_transitions}
use Rattle.cmd_stages.specs.Plan.{Verdict, ◌>>=◌, or_refusal}
use Rattle.cmd_stages.specs.declared.stop.Refusal.{Refusal}
use Rattle.cmd_stages.specs.declared.stop.Refusal.TheVariants as refusals
use Rattle.cmd_status.specs.declared.status.Ending.{Ending}
use Rattle.cmd_status.specs.declared.status.Ending.TheVariants.{Done}
use Rattle.cmd_status.specs.declared.status.Cause.{Cause}
use Rattle.cmd_machines.specs.Inputs.{Inputs, no_inputs}
use Rattle.cmd_machines.specs.Setup.{Setup, setup}
use Rattle.cmd_outcome.specs.Verdicts.{said_verdict}
use Rattle.cmd_machines.specs.Machines.{machines_of}

-- Both programs have images, so this refusal never occurs.
abbrev pub no_image : AsmError → Refusal Cause
no_image error = refusals.NoMemory

-- the images of the pair, without other inputs
abbrev pub pair_inputs : List ℕ → List ℕ → Inputs
pair_inputs os tube = record no_inputs { os = os; tube = tube }

-- the text before the sum, and the text after it
unfoldable pub before_sum : ℕ → List ℕ
before_sum seed = codes "seed " ++ decimal seed ++ codes "\nbytes 4096\nsum "

unfoldable pub behind_sum : List ℕ
behind_sum = codes "\nticks 1000000\n"

-- Four lines: the seed; the number of bytes sent; their sum, which the host stores with its high
-- byte at 0071 and its low byte at 0070; and the ticks.
abbrev pub summary : ℕ → List ℕ → List ℕ
summary seed ram = before_sum seed ++ hex_digits 2 (slice_index ram 0x71) ++ hex_digits 2 (slice_index ram 0x70) ++ behind_sum

abbrev pub gen_verdict : ℕ → HostState → Verdict Ending
gen_verdict seed s = said_verdict Done (summary seed s.bus.bus.board.ram)

-- a second processor at 3 MHz, and no plugged devices
abbrev pub gen_setup : Setup
gen_setup = setup Three (Ssd, Ssd) 0 [] true

-- the ticks of the run
unfoldable pub gen_ticks : ℕ
gen_ticks = 1000000

-- The reference run of both machines from power-on, with the images of the pair, and without discs,
-- script and plugged devices.
unfoldable pub gen_after : ℕ → Result (Verdict Ending) (Refusal Cause)
gen_after seed =
    or_refusal no_image (image_of (source Nmos host_text))
    >>= λ os. or_refusal no_image (image_holding (drawn_bytes seed) (source Cmos tube_text))
    >>= λ tube. machines_of gen_setup (pair_inputs os tube)
    >>= λ m. Ok (gen_verdict seed (reference host_transitions para_transitions m.0 m.1 gen_ticks).host)
