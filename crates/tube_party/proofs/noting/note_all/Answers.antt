use Rattle.std.proofs.Common.{◌∙◌}
use Rattle.beeb_bits.specs.declared.Side.TheVariants.{Host, Para}
use Rattle.tube_party.proofs.Noted.{chip_more, noted_more, few_more}
use Rattle.tube_party.proofs.noting.note_all.Goals as goal

pub loop-entry-preserved : goal.loop-entry-preserved
loop-entry-preserved c =
    record {
      chip = chip_more c.args.entries.now c.loop-entry.entry-index _ _ _ c.loop-entry-test.true c.loop-entry.invariant.chip c.apply.ensures.chip;
      host = noted_more Host c.args.entries.now c.loop-entry.entry-index _ _ _ _ c.loop-entry-test.true c.loop-entry.invariant.host c.loop-entry.invariant.host_keep c.note_own.ensures.host;
      para = noted_more Para c.args.entries.now c.loop-entry.entry-index _ _ _ _ c.loop-entry-test.true c.loop-entry.invariant.para c.loop-entry.invariant.para_keep c.note_own.ensures.para;
      host_keep = c.note_own.ensures.host.keep_is ∙ c.loop-entry.invariant.host_keep;
      para_keep = c.note_own.ensures.para.keep_is ∙ c.loop-entry.invariant.para_keep;
      host_few = few_more Host _ _ _ _ c.loop-entry.invariant.host_few c.note_own.ensures.host;
      para_few = few_more Para _ _ _ _ c.loop-entry.invariant.para_few c.note_own.ensures.para;
    }
