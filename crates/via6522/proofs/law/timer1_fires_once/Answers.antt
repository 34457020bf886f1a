use Rattle.std.proofs.Common.{refl}
use Rattle.via6522.specs.Registers.{write_leaves}
use Rattle.via6522.proofs.Counting.{word_small}
use Rattle.via6522.proofs.OneShotLemmas.{fires_once1}
use Rattle.via6522.proofs.law.timer1_fires_once.Goals as goal

pub returns : goal.returns
returns c = λ via high pins p h l off.
    fires_once1 (write_leaves 5 high via) pins (word_small high via.timer1.latch_low h l) off refl refl
