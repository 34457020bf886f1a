use Rattle.std.proofs.Common.{flat_map}
use Rattle.frame_out.specs.Pixmap.{pixel}
use Rattle.frame_out.proofs.Sixteen.{added}
use Rattle.frame_out.proofs.add_sixteen.Goals as goal

pub returns : goal.returns
returns c = λ ok.
    added c.args.bytes.now.items _ _ _ c.extend_from_slice.new.self.items c.extend_from_slice-2.new.self.items c.extend_from_slice-3.new.self.items (flat_map pixel c.args.colours)
    c.in_ok-extend_from_slice.ensures.items c.in_ok-extend_from_slice-2.ensures.items c.in_ok-extend_from_slice-3.ensures.items
    c.first_samples.ensures c.next_samples.ensures c.last_samples.ensures
