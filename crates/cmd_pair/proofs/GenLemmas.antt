-- NoMemory, about which a promise says nothing.
use Rattle.std.proofs.Common.{◌≡◌, Result, Ok, Err, IsErrAnd}
use Rattle.cmd_stages.specs.declared.stop.Refusal.{Refusal}
use Rattle.cmd_stages.specs.declared.stop.Refusal.TheVariants.{Cause, NoMemory}
use Rattle.cmd_stages.specs.View.{Gives}

pub no_memory_gives : {X Y C : Type 0} (view : X → Y) (r : Result X (Refusal C)) (stage : Result Y (Refusal C)) → IsErrAnd r (λ refusal. refusal ≡ NoMemory) →
    Gives view r stage
no_memory_gives view (Ok x) stage h = absurd h
no_memory_gives view (Err (Cause c)) stage h = cc
no_memory_gives view (Err NoMemory) stage h = tt
