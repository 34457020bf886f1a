use Rattle.std.proofs.Common.{◌≡◌, ◌≤◌, ◌∙◌, ap, sym, arith}
use Rattle.keyboard.specs.Keys.{keys_of}
use Rattle.keyboard.specs.Latch.{screen_size}
use Rattle.raster.specs.Clock.{vsync_of}
use Rattle.adc7002.specs.Registers.{cb1}
use Rattle.via6522.specs.declared.Pins.{Pins}
use Rattle.via6522.specs.Registers.{asks}
use Rattle.via6522.specs.Step.{steps}
use Rattle.host_devices.specs.Devices.{system_pins}
use Rattle.host_devices.specs.CodePicture.{drawn}
use Rattle.host_devices.specs.CodeDevices.{behind}
use Rattle.host_devices.proofs.Steady.{are_calm, stays_ahead, sync_owed}
use Rattle.host_devices.proofs.devices.Devices.calm.Goals as goal

pub returns : goal.returns
returns c = λ ram font.
    let b = c.self.inside in
    let d = drawn ram font (behind b) in
    let size = screen_size b.latch.bits in
    let n = c.min-2.result in
    let kept = c.self.invariant in
    let few : n ≤ b.steady = omega (arith, c.min-2.ensures) in
    let by_chips : (n ≤ c.calm.result) × (n ≤ c.calm-2.result) × (n ≤ c.calm-3.result) = omega (arith, c.min-2.ensures, c.min.ensures, c.min-chips.ensures) in
    let is_pins : c.system_pins-pins.result ≡ system_pins (vsync_of d.video) (cb1 d.converter) (keys_of c.args.keys.now) d =
    rw (sync_owed ram size font b.owed b.steady b.video kept.sync) (rw (← c.self.view_is, c.cb1.ensures) at c.system_pins-pins.ensures) in
    rw (← c.self.view_is) (are_calm c.devices_go_on_apart.ensures
    (stays_ahead c.sync_stays_on.ensures ram size font b.owed b.video few kept.sync)
    (λ l low. kept.line l (omega (arith, low, few)))
    (λ k low. ap (λ (p : Pins). asks (steps p k b.system)) (sym is_pins) ∙ c.calm-3.ensures k (omega (arith, low, by_chips)))
    (λ k low. c.calm-2.ensures k (omega (arith, low, by_chips)))
    (λ k low. c.calm.ensures.nmis k (omega (arith, low, by_chips))))
