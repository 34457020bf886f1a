use Rattle.std.proofs.Common.{arith, refl}
use Rattle.via6522.specs.Timers.{word}
use Rattle.via6522.specs.Registers.{write_leaves}
use Rattle.via6522.proofs.Counting.{word_small}
use Rattle.via6522.proofs.Timer1Lemmas.{sets_each_period_from_start}
use Rattle.via6522.proofs.law.timer1_runs_free.Goals as goal

pub returns : goal.returns
returns c = λ via high pins p h l free.
    sets_each_period_from_start (word high via.timer1.latch_low) (write_leaves 5 high via) pins (word_small high via.timer1.latch_low h l) free (record {
      latch = refl;
      within = omega arith;
      first = λ e. refl;
      later = λ k. absurd (omega (arith, k));
      counts = λ k. absurd (omega (arith, k));
    })
