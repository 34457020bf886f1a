use Rattle.std.proofs.Common.{◌≡◌, ◌*◌, ◌++◌, length, take}
use Rattle.std.specs.Prelude.{flat_map}
use Rattle.sn76489.specs.Wav.{header, sample_bytes}
use Rattle.sn76489.proofs.riff.file.Given as goal

-- the samples that are done are in the file
abbrev pub invariant-loop-sample : goal.invariant-loop-sample
invariant-loop-sample l = l.bytes.items ≡ header (2 * length l.samples) ++ flat_map sample_bytes (take l.sample-index l.samples)
