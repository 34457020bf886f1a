use Rattle.std.proofs.Common.{◌∙◌, ◌%◌, ap, ℕ, Bor}
use Rattle.raster.specs.Clock.{vsync_of}
use Rattle.adc7002.specs.Registers.{cb1}
use Rattle.via6522.specs.declared.via.Via.{Via}
use Rattle.via6522.specs.declared.Pins.{Pins}
use Rattle.via6522.specs.Registers.{answer_of}
use Rattle.host_devices.specs.Devices.{system_pins, user_pins, register_answer}
use Rattle.host_devices.specs.CodePicture.{drawn}
use Rattle.host_devices.specs.CodeDevices.{behind}
use Rattle.host_devices.proofs.devices.Devices.held.Goals as goal
use Rattle.host_devices.proofs.devices.Devices.held.Goals.{in-SystemVia, in-UserVia}

pub returns-else-reg-eq15-clause-answer : goal.returns-else-reg-eq15-clause-answer
unfolding register_answer
returns-else-reg-eq15-clause-answer c = λ ram font keys.
    let d = drawn ram font (behind c.self.inside) in
    let by : Pins → Bor Via → ℕ = λ pins v. answer_of (c.args.at % 16) pins v.now in
    let pins = system_pins (vsync_of d.video) (cb1 d.converter) keys d in
    rw (← c.self.view_is) (elim c.match-device.branch [
      | in-SystemVia w ↦ rw w.in-SystemVia.is (c.held.ensures.answer pins ∙ ap (by pins) w.via-is)
      | in-UserVia w ↦ rw w.in-UserVia.is (c.held.ensures.answer user_pins ∙ ap (by user_pins) w.via-is)
    ])
