-- The numbers of several values are those of each.
use Rattle.std.proofs.Common.{append-nil}
use Rattle.std.proofs.lemmas.List.Folds.{list_any-append}

pub ruleset number_steps = (list_any-append, append-nil)
