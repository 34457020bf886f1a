use Rattle.std.proofs.Common.{arith, sym, subst, []}
use Rattle.tube_cell.specs.Passes.{own_horizon}
use Rattle.tube_cell.specs.Steps.{Watches}
use Rattle.beeb_bits.specs.declared.Side.TheVariants.{Para}
use Rattle.tube_side.proofs.SpecHorizons.{told_low, may_speculate}
use Rattle.tube_side.proofs.spec_horizon.speculate_observed.Goals as goal

pub speculate-requires-clause-published : goal.speculate-requires-clause-published
speculate-requires-clause-published g c = c.requires.told.1.ahead

pub speculate-requires-clause-later : goal.speculate-requires-clause-later
speculate-requires-clause-later g c =
    let told = c.requires.told.1 in
    let low = told_low c.requires.is_speculation _ _ c.requires.side told in
    omega arith

pub speculate-requires-clause-watches : goal.speculate-requires-clause-watches
speculate-requires-clause-watches g c =
    let p = c.args.pass.now in
    let low = told_low c.requires.is_speculation _ _ c.requires.side c.requires.told.1 in
    subst (λ l. Watches Para (own_horizon p) p.known.chip l c.args.t.0) (sym c.requires.observed)
    (may_speculate c.requires.is_speculation [] p c.args.t.0 low c.requires.shown)
