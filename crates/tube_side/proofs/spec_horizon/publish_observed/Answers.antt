use Rattle.std.proofs.Common.{sym, subst}
use Rattle.tube_cell.specs.Passes.{here}
use Rattle.tube_cell.specs.Steps.{Watches}
use Rattle.beeb_bits.specs.declared.Side.TheVariants.{Para}
use Rattle.tube_side.proofs.spec_horizon.publish_observed.Goals as goal

pub publish_and_speculate-requires-clause-watches : goal.publish_and_speculate-requires-clause-watches
publish_and_speculate-requires-clause-watches g c =
    let p = c.args.pass.now in
    subst (λ l. Watches Para c.args.mark.0 (here p) l c.args.t.0) (sym c.requires.observed)
    (rw c.requires.speculation.0 at (c.requires.is_speculation.watches (here p) c.args.t.0 c.requires.speculation.1))
