use Rattle.std.proofs.Common.{◌≡◌, ◌≤◌, ◌+◌, ◌-◌, ap, ℕ, suc, arith}
use Rattle.keyboard.specs.Keys.{keys_of}
use Rattle.keyboard.specs.Latch.{screen_size}
use Rattle.raster.specs.Clock as beam
use Rattle.adc7002.specs.Registers.{cb1}
use Rattle.host_devices.specs.Devices.{system_pins, microseconds}
use Rattle.host_devices.specs.CodePicture.{drawn}
use Rattle.host_devices.specs.CodeDevices.{behind}
use Rattle.host_devices.proofs.Steady.{line_stays_on, gone_apart, pictures_add, stays_ahead, sync_owed}
use Rattle.host_devices.proofs.devices.Devices.some_microseconds.Goals as goal

pub invariant_of-self : goal.invariant_of-self
invariant_of-self c =
    let b = c.self.inside in
    let m = c.min-steps.result in
    let few : m ≤ b.steady = omega (arith, c.min-steps.ensures) in
    let all : b.owed + b.steady ≡ b.owed + m + (b.steady - m) = omega (arith, few) in
    record {
      size = c.self.invariant.size;
      room = omega (arith, few, c.self.invariant.room);
      sync = rw (← all) c.self.invariant.sync;
      line = rw c.advance-2.ensures (line_stays_on c.args.levels few c.self.invariant.line);
      reads = c.self.invariant.reads;
    }

pub returns-clause-rest : goal.returns-clause-rest
returns-clause-rest c =
    let b = c.self.inside in
    let ram = c.args.ram.now in
    let font = c.args.glyphs.now.font in
    let d = drawn ram font (behind b) in
    let size = screen_size b.latch.bits in
    let m = c.min-steps.result in
    let keys = keys_of c.args.keys.now in
    let few : m ≤ b.steady = omega (arith, c.min-steps.ensures) in
    let is_pins : c.system_pins-pins.result ≡ system_pins (beam.vsync_of d.video) (cb1 d.converter) keys d =
    rw (sync_owed ram size font b.owed b.steady b.video c.self.invariant.sync) (rw (← c.self.view_is, c.cb1.ensures) at c.system_pins-pins.ensures) in
    rw (← c.self.view_is, c.advance.ensures, c.advance-2.ensures, c.advance-3.ensures, c.advance-4.ensures, is_pins, ← pictures_add ram size font b.owed m b.video)
    (gone_apart c.devices_go_on_apart.ensures ram font keys c.args.levels {n = c.args.n} {m = m} d (omega (arith, c.min-steps.ensures))
    (stays_ahead c.sync_stays_on.ensures ram size font b.owed b.video few c.self.invariant.sync) (λ l low. c.self.invariant.line l (omega (arith, low, few))))

pub returns-then-self-eq0-clause-rest : goal.returns-then-self-eq0-clause-rest
returns-then-self-eq0-clause-rest c =
    let ram = c.args.ram.now in
    let font = c.args.glyphs.now.font in
    let all : suc (c.args.n - 1) ≡ c.args.n = omega (arith, c.requires.some) in
    rw c.step.ensures (ap (λ (k : ℕ). microseconds ram font (keys_of c.args.keys.now) c.args.levels k (drawn ram font c.args.self.now)) all)
