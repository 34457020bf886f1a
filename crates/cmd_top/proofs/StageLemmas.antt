-- The stages of a command, with its plugged devices and its names as the definitions have them.
use Rattle.std.proofs.Common.{◌≡◌, sym, subst, refl, ℕ, Bool, true, false, List, Result, Ok, Err, arith}
use Rattle.std.specs.declared.vec.Vec.{Vec}
use Rattle.std.specs.declared.alloc.Global.{Global}
use Rattle.beeb_files.specs.Crew.{Counts}
use Rattle.beeb_files.specs.Shelf.{ShelfState}
use Rattle.beeb_files.specs.Outlet.{OutletState, NoCountFell}
use Rattle.cmd_words.specs.declared.keys.InputKind.{InputKind}
use Rattle.cmd_stages.specs.declared.stop.Stop.{Stop}
use Rattle.cmd_stages.specs.declared.stop.Stop.TheVariants as stops
use Rattle.cmd_stages.specs.declared.stop.Refusal.{Refusal}
use Rattle.cmd_stages.specs.declared.stop.Refusal.TheVariants as refusals
use Rattle.cmd_stages.specs.Plan.{Verdict, Want, stop_of}
use Rattle.cmd_stages.specs.View.{Gives}
use Rattle.cmd_stages.specs.Promise.{HasPaired, IsCrewAfter}
use Rattle.cmd_stages.specs.Stages.{ReadsAll, Works}
use Rattle.cmd_status.specs.declared.status.Ending.{Ending}
use Rattle.cmd_status.specs.declared.status.Cause.{Cause}

pub same_counts : (o : OutletState) → NoCountFell o o
same_counts o = record { names = λ name. let n : ℕ = o.faults name in omega arith; say = let n : ℕ = o.say_faults in omega arith }

pub crew_stays : (paired : Bool) (crew : Counts) → IsCrewAfter paired crew crew
crew_stays true crew = (let f : ℕ = crew.faults in omega arith, let n : ℕ = crew.pairs in omega arith)
crew_stays false crew = refl

pub crew_as : (paired : Bool) (old new : Counts) → paired ≡ true → IsCrewAfter true old new → IsCrewAfter paired old new
crew_as paired old new is crew = rw is crew

pub reads_as : (wants asked : List (Want InputKind)) (old new : ShelfState) (r : Result (Vec (InputKind × Vec ℕ Global) Global) (Stop Cause)) → wants ≡ asked →
    ReadsAll {C = Cause} wants old new r → ReadsAll {C = Cause} asked old new r
reads_as wants asked old new r is reads = subst (λ (ws : List (Want InputKind)). ReadsAll {C = Cause} ws old new r) is reads

own_view : {X : Type 0} (view : X → Verdict Ending) (old new : Counts) (stage : Result (Verdict Ending) (Refusal Cause)) (s : Stop Cause) →
    Works view true old new (Err s) stage → Works (λ (v : Verdict Ending). v) true old new (Err s) stage
own_view view old new stage (stops.ReadFault name) works = works
own_view view old new stage s works = works

module _ (paired : Bool) (is : paired ≡ true) (old new : Counts) (stage : Result (Verdict Ending) (Refusal Cause)) where
  pub stopped_as : {X : Type 0} (view : X → Verdict Ending) (s : Stop Cause) → Works view true old new (Err s) stage →
      Works (λ (v : Verdict Ending). v) paired old new (Err s) stage
  stopped_as view s works = subst (λ (b : Bool). Works (λ (v : Verdict Ending). v) b old new (Err s) stage) (sym is) (own_view view old new stage s works)

  pub worked_as : {X : Type 0} (view : X → Verdict Ending) (x : X) → Works {C = Cause} view true old new (Ok x) stage →
      Works {C = Cause} (λ (v : Verdict Ending). v) paired old new (Ok (view x)) stage
  worked_as view x works = rw is works

-- ---- a command without a pair

paired_anyhow : (paired : Bool) (crew : Counts) → paired ≡ false → HasPaired paired crew crew
paired_anyhow true crew is = cc
paired_anyhow false crew is = tt

module _ (paired : Bool) (is : paired ≡ false) (crew : Counts) (stage : Result (Verdict Ending) (Refusal Cause)) where
  pub alone_stopped : {X : Type 0} (view : X → Verdict Ending) (r : Refusal Cause) → Gives view (Err r) stage →
      Works (λ (v : Verdict Ending). v) paired crew crew (Err (stop_of r)) stage
  alone_stopped view (refusals.Cause cause) gives = gives
  alone_stopped view refusals.NoMemory gives = tt

  pub alone_worked : {X : Type 0} (view : X → Verdict Ending) (x : X) → Gives view (Ok x) stage →
      Works {C = Cause} (λ (v : Verdict Ending). v) paired crew crew (Ok (view x)) stage
  alone_worked view x gives = (gives, paired_anyhow paired crew is)
