use Rattle.std.proofs.Common.{refl}
use Rattle.via6522.specs.Registers.{write_leaves}
use Rattle.via6522.proofs.Counting.{word_small}
use Rattle.via6522.proofs.OneShotLemmas.{fires_once2}
use Rattle.via6522.proofs.law.timer2_fires_once.Goals as goal

pub returns : goal.returns
returns c = λ via high pins p h l counts.
    fires_once2 (write_leaves 9 high via) pins (word_small high via.timer2.latch_low h l) counts refl refl
