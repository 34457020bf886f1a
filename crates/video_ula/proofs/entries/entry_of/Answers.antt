use Rattle.std.proofs.Common.{◌<◌, sym, subst, ℕ}
use Rattle.video_ula.proofs.EntryTable.{ENTRIES-at, entry_of-small}
use Rattle.video_ula.proofs.entries.entry_of.Goals as goal

pub returns-clause-value : goal.returns-clause-value
returns-clause-value c = ENTRIES-at c.args.c _ c.ranges.c.fits

pub returns-clause-bound : goal.returns-clause-bound
returns-clause-bound c =
    subst (λ (r : ℕ). r < 16) (sym (ENTRIES-at c.args.c _ c.ranges.c.fits)) (entry_of-small c.args.c c.ranges.c.fits)
