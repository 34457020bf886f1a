use Rattle.std.proofs.Common.{◌≡◌, ◌+◌, ◌-◌, subst, ℕ, arith}
use Rattle.keyboard.specs.Latch.{screen_size}
use Rattle.raster.specs.Clock as beam
use Rattle.raster.specs.Reads.{StaysInSync, ReadsFrom}
use Rattle.host_devices.proofs.devices.Devices.draw.Goals as goal

pub invariant_of-self : goal.invariant_of-self
invariant_of-self c =
    let b = c.self.inside in
    let kept = c.self.invariant in
    let ram = c.args.ram.now in
    let font = c.args.glyphs.now.font in
    let size = screen_size b.latch.bits in
    let there = beam.microseconds ram b.size font b.owed b.video in
    let left : b.owed + b.steady - b.owed ≡ 0 + b.steady = omega arith in
    let sync : StaysInSync (0 + b.steady) there =
    rw left at (c.sync_stays_on.ensures (b.owed + b.steady) b.owed b.size ram font b.video (omega arith) kept.sync) in
    let reads : ReadsFrom b.lowest size there =
    subst (λ (z : ℕ). ReadsFrom b.lowest z there) kept.size
    (c.reads_go_on.ensures b.lowest b.size b.owed ram font b.video (rw kept.size kept.reads)) in
    record {
      size = kept.size;
      room = omega (arith, kept.room);
      sync = rw c.advance.ensures sync;
      line = kept.line;
      reads = rw c.advance.ensures reads;
    }
