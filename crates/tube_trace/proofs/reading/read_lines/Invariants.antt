use Rattle.std.proofs.Common.{All, length}
use Rattle.tube_trace.specs.Entries.{IsEntry}
use Rattle.tube_trace.proofs.TextLemmas.{ReadSoFar}
use Rattle.tube_trace.proofs.reading.read_lines.Given as goal

abbrev pub invariant-loop-rest : goal.invariant-loop-rest
invariant-loop-rest l = record {
  so_far : ReadSoFar l.bytes l.entries.items l.last l.rest;
  entries : All IsEntry l.entries.items;
}

abbrev pub decreases-loop-rest : goal.decreases-loop-rest
decreases-loop-rest l = length l.rest
