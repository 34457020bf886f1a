use Rattle.std.proofs.Common.{◌≡◌, ℕ, List, Ok}
use Rattle.beeb_bits.specs.declared.clock.Clock.{Clock}
use Rattle.tube_trace.specs.declared.Entry.{Entry}
use Rattle.tube_trace.specs.Trace.{clock_of, rest_of, lines_read, trace}
use Rattle.tube_trace.proofs.reading.read.Goals as goal

-- a text means its clock and what its lines mean
means : (bytes : List ℕ) {rest : List ℕ} {clock : Clock} {entries : List Entry} → clock ≡ clock_of bytes → rest ≡ rest_of bytes
    → lines_read rest ≡ Ok entries → trace bytes ≡ Ok (clock, entries)
unfolding trace
means bytes clock_is rest_is lines = rw (← rest_is, lines, ← clock_is)

pub returns-clause-lines : goal.returns-clause-lines
returns-clause-lines c =
    let parts = c.split_clock-clock.ensures in
    (c.text_reads_back.ensures.only_text _ _ _ (means c.args.bytes.now parts.clock parts.rest c.in_ok-entries.ensures.value)).2

pub returns-clause-rises : goal.returns-clause-rises
returns-clause-rises c =
    let parts = c.split_clock-clock.ensures in
    (c.text_reads_back.ensures.only_text _ _ _ (means c.args.bytes.now parts.clock parts.rest c.in_ok-entries.ensures.value)).1
