use Rattle.std.proofs.Common.{◌∙◌, sym, ap, ◌%◌, ◌<◌, arith, None, List, Bool}
use Rattle.keyboard.specs.Keys.{keys_of, any}
use Rattle.keyboard.specs.Latch.{scans_itself}
use Rattle.keyboard.proofs.AnyLemmas.{none_at}
use Rattle.keyboard.proofs.keys.Keys.ca2.Goals as goal

pub returns-then-not-self : goal.returns-then-not-self
returns-then-not-self c =
    let inside : c.args.port_a % 16 < 16 = omega arith in
    sym (
    none_at (keys_of c.args.self.now) (scans_itself c.args.latch.now.bits) (c.args.port_a % 16) inside
    (ap (λ (down : List Bool). any None (keys_of down)) (sym c.self.view_is) ∙ sym c.self.invariant.0 ∙ c.if-not-self.true)
    )
