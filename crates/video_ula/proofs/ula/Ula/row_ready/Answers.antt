use Rattle.std.proofs.Common.{rules, ◌≡◌, ◌∙◌, ◌==◌, true, false}
use Rattle.beeb_bits.specs.Bits.{bit}
use Rattle.video_ula.proofs.DotLemmas.{has_eights, narrow_is, wide_is}
use Rattle.video_ula.proofs.ula.Ula.row_ready.Goals as goal

pub narrow_row-requires-clause-table : goal.narrow_row-requires-clause-table
narrow_row-requires-clause-table c =
    let none : (c.self.inside.ready.waits == 0) ≡ true = search rules in
    has_eights _ _ c.self.inside.ready c.self.invariant.2 none

pub wide_row-requires-clause-table : goal.wide_row-requires-clause-table
wide_row-requires-clause-table c =
    let none : (c.self.inside.ready.waits == 0) ≡ true = search rules in
    has_eights _ _ c.self.inside.ready c.self.invariant.2 none

pub returns-then-bit-clause-dots : goal.returns-then-bit-clause-dots
returns-then-bit-clause-dots c = λ ready.
    let none : (c.self.inside.ready.waits == 0) ≡ true = search rules in
    let on : bit c.self.inside.control 4 ≡ true = search rules in
    rw (← c.self.view_is) (c.narrow_row.ensures ∙ narrow_is _ c.args.bytes.now c.args.step c.args.n c.self.inside.ready c.self.invariant.2 none (λ i. (c.type_inv.bytes i).fits) on)

pub returns-else-bit-clause-dots : goal.returns-else-bit-clause-dots
returns-else-bit-clause-dots c = λ ready.
    let none : (c.self.inside.ready.waits == 0) ≡ true = search rules in
    let off : bit c.self.inside.control 4 ≡ false = search rules in
    rw (← c.self.view_is) (c.wide_row.ensures ∙ wide_is _ c.args.bytes.now c.args.step c.args.n c.self.inside.ready c.self.invariant.2 none (λ i. (c.type_inv.bytes i).fits) off)
