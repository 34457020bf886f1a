-- A machine that differs from its trace, and a trace with a wrong answer.
use Rattle.std.proofs.Common.{◌≡◌, refl, ℕ, Option, Some, None}
use Rattle.tube_party.specs.declared.Doing.{Doing}
use Rattle.cmd_stages.specs.Plan.{Verdict}
use Rattle.cmd_status.specs.declared.status.Ending.{Ending}
use Rattle.cmd_status.specs.declared.status.Ending.TheVariants.{Differs}
use Rattle.cmd_outcome.specs.Verdicts.{said_verdict}
use Rattle.cmd_replayed.specs.Replay.{differs_text, verdict_of_place, unless_wrong}

pub differs_is : {S : Type 0} (done : S → Verdict Ending) (s : S) (place : Option (ℕ × Option Doing)) (line : ℕ) (doing : Option Doing) (w : Option (ℕ × ℕ)) → w ≡ None →
    place ≡ Some (line, doing) → said_verdict (Differs line doing) (differs_text line doing) ≡ unless_wrong w (verdict_of_place done s place)
differs_is done s place line doing w right is = rw (right, is) refl
