use Rattle.sn76489.specs.Wav.{half, long, format}
use Rattle.sn76489.proofs.Joins.{begun, joined}
use Rattle.sn76489.proofs.riff.put_format.Goals as goal

pub returns : goal.returns
unfolding format
returns c =
    let b1 = begun c.args.bytes.now.items c.extend_from_slice.new.self.items c.to_le_bytes.result (half 1) c.in_ok-extend_from_slice.ensures.items c.to_le_bytes.ensures in
    let b2 = joined c.extend_from_slice-2.new.self.items c.to_le_bytes-2.result (half 1) b1 c.in_ok-extend_from_slice-2.ensures.items c.to_le_bytes-2.ensures in
    let b3 = joined c.extend_from_slice-3.new.self.items c.to_le_bytes-3.result (long 31250) b2 c.in_ok-extend_from_slice-3.ensures.items c.to_le_bytes-3.ensures in
    let b4 = joined c.extend_from_slice-4.new.self.items c.to_le_bytes-4.result (long 62500) b3 c.in_ok-extend_from_slice-4.ensures.items c.to_le_bytes-4.ensures in
    let b5 = joined c.extend_from_slice-5.new.self.items c.to_le_bytes-5.result (half 2) b4 c.in_ok-extend_from_slice-5.ensures.items c.to_le_bytes-5.ensures in
    let b6 = joined c.extend_from_slice-6.new.self.items c.to_le_bytes-6.result (half 16) b5 c.in_ok-extend_from_slice-6.ensures.items c.to_le_bytes-6.ensures in
    b6.all
