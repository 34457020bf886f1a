use Rattle.std.proofs.Common.{sym, ap, ◌%◌}
use Rattle.keyboard.proofs.AnyLemmas.{columns_kept}
use Rattle.keyboard.proofs.keys.Keys.set.Goals as goal

pub invariant_of-self : goal.invariant_of-self
invariant_of-self c = (
  c.is_any-self-inside.ensures,
  columns_kept c.self.inside.columns c.self.inside.down c.from.result (c.args.key % 16) c.from-2.result c.args.down c.is_any_in.result c.self.told.1
      (ap (λ n. n % 16) (sym c.from.ensures)) c.from-2.ensures c.is_any_in.ensures c.self.invariant.1,
)
