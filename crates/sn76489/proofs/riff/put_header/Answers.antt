use Rattle.std.proofs.Common.{refl, ◌+◌}
use Rattle.std.specs.Prelude.{codes}
use Rattle.sn76489.specs.Wav.{chunk, format, header}
use Rattle.sn76489.proofs.Joins.{begun, joined}
use Rattle.sn76489.proofs.riff.put_header.Goals as goal

pub returns : goal.returns
unfolding format header
returns c =
    let riff = chunk (codes "RIFF") (36 + c.args.size) in
    let wave = codes "WAVE" in
    let fmt = chunk (codes "fmt ") 16 in
    let samples = chunk (codes "data") c.args.size in
    let b1 = begun c.args.bytes.now.items c.put_chunk.new.bytes.items riff riff c.in_ok-put_chunk.ensures refl in
    let b2 = joined c.extend_from_slice.new.self.items wave wave b1 c.in_ok-extend_from_slice.ensures.items refl in
    let b3 = joined c.put_chunk-2.new.bytes.items fmt fmt b2 c.in_ok-put_chunk-2.ensures refl in
    let b4 = joined c.put_format.new.bytes.items format format b3 c.in_ok-put_format.ensures refl in
    let b5 = joined c.put_chunk-3.new.bytes.items samples samples b4 c.in_ok-put_chunk-3.ensures refl in
    b5.all
