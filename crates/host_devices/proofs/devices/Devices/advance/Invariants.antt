use Rattle.std.proofs.Common.{◌≡◌}
use Rattle.keyboard.specs.Keys.{keys_of}
use Rattle.host_devices.specs.Devices.{microseconds}
use Rattle.host_devices.specs.CodePicture.{drawn}
use Rattle.host_devices.proofs.devices.Devices.advance.Given as goal

-- the microseconds that are left lead to the state of all n
abbrev pub invariant-loop-left : goal.invariant-loop-left
invariant-loop-left l =
    microseconds l.ram l.glyphs.font (keys_of l.keys) l.levels l.left (drawn l.ram l.glyphs.font l.self)
    ≡ microseconds l.ram l.glyphs.font (keys_of l.keys) l.levels l.n (drawn l.ram l.glyphs.font l.fn.self)

abbrev pub decreases-loop-left : goal.decreases-loop-left
decreases-loop-left l = l.left
