use Rattle.std.proofs.Common.{refl}
use Rattle.std.proofs.lemmas.Bool.{lt-ltb, le-ltb}
use Rattle.host_devices.proofs.Pressed.{next-is}
use Rattle.host_devices.proofs.breaks.Breaks.next_tick.Goals as goal

pub returns-then-self-lt18446744073709551615 : goal.returns-then-self-lt18446744073709551615
returns-then-self-lt18446744073709551615 c =
    rw (next-is c.args.self.now.place c.requires.rules, ← c.requires.next, lt-ltb _ _ c.if-self-lt18446744073709551615.true) refl

pub returns-else-self-lt18446744073709551615 : goal.returns-else-self-lt18446744073709551615
returns-else-self-lt18446744073709551615 c =
    rw (next-is c.args.self.now.place c.requires.rules, ← c.requires.next, le-ltb _ _ c.if-self-lt18446744073709551615.false) refl
