-- A command that read, computed and wrote keeps the whole promise.
use Rattle.std.proofs.lemmas.Option.{IfSome_then}
use Rattle.std.proofs.Common.{◌≡◌, refl, ap, ℕ, Bool, true, false, map, Option, Some, None, Result, Ok, Err, IfSome, IsOkAnd, arith, inl, inr}
use Rattle.beeb_files.specs.Files.{Files}
use Rattle.beeb_files.specs.Counts.{Rose, Stayed}
use Rattle.beeb_files.specs.Crew.{Counts}
use Rattle.beeb_files.specs.Outlet.{OutletState}
use Rattle.cmd_stages.specs.declared.stop.Stop.{Stop}
use Rattle.cmd_stages.specs.declared.stop.Stop.TheVariants.{Refused, ReadFault, TooLong, WriteFault, NoThread, NoMemory}
use Rattle.cmd_stages.specs.declared.stop.Refusal.{Refusal}
use Rattle.cmd_stages.specs.Plan.{Verdict, Inputs, Plan, read_all, verdict, or_stop, AreWithin, ComesTo}
use Rattle.cmd_stages.specs.Promise.{World, HasNoThread, HasCrewStayed, ComesOut, EndsAs, IsComplete, CarriesOut, IsUntouched}
use Rattle.cmd_stages.specs.Stages.{ReadsAll, Works, Writes, HasKept}
use Rattle.cmd_stages.specs.View.{seen_input}
use Rattle.std.specs.declared.vec.Vec.{Vec}
use Rattle.std.specs.declared.alloc.Global.{Global}

pub rose_not_stayed : (before now : ℕ) → Rose before now → Stayed before now → ⊥
rose_not_stayed before now rose stayed = omega arith

pub thread_not_stayed : (paired : Bool) (before now : Counts) → HasNoThread paired before now → HasCrewStayed paired before now → ⊥
thread_not_stayed true before now rose stayed = rose_not_stayed before.faults now.faults rose stayed
thread_not_stayed false before now none stayed = none

-- A statement that always holds holds if the files are shown.
told_any : {Q : Files → Type 0} (o : Option Files) → ((files : Files) → Q files) → IfSome o Q
told_any None f = tt
told_any (Some files) f = f files

module _ {K E C : Type 0} (p : Plan K E C) where
  comes_told : (o : Option Files) (v : Result (Verdict E) (Stop C)) → ComesTo p o v → IfSome o (λ files. verdict p files ≡ v)
  comes_told None v comes = tt
  comes_told (Some files) v comes = comes

  -- the inputs, and the result
  pub comes_after : (o : Option Files) (inputs : Inputs K) (v : Result (Verdict E) (Stop C)) → AreWithin p.reads inputs →
      IfSome o (λ files. read_all {C = C} files p.reads ≡ Ok inputs) → or_stop (p.after inputs) ≡ v → ComesTo p o v
  comes_after None inputs v fit told after = (inputs, fit, after)
  comes_after (Some files) inputs v fit told after = rw told after

  module _ (old new : World) where
    complete : (r : Result E (Stop C)) → EndsAs p old new r → IfSome old.shelf.files (IsComplete p old new r)
    complete (Ok ending) e = IfSome_then old.shelf.files (comes_told old.shelf.files (Ok e.0) e.1.0) (λ files is none. inl (rw (is, e.2)))
    complete (Err (Refused cause)) e = IfSome_then old.shelf.files (comes_told old.shelf.files (Err (Refused cause)) e.0) (λ files is none. inl (rw is))
    complete (Err (ReadFault name)) e = told_any old.shelf.files (λ files none. absurd (rose_not_stayed _ _ e.0.rose (none.read name e.0.wanted)))
    complete (Err (TooLong name)) e = IfSome_then old.shelf.files e.0.told (λ files t none. inl (rw t.1))
    complete (Err (WriteFault name)) (v, comes, inl w) =
        IfSome_then old.shelf.files (comes_told old.shelf.files (Ok v) comes.0) (λ files is none. absurd (rose_not_stayed _ _ w.1 (none.written v is name w.0)))
    complete (Err (WriteFault name)) (v, comes, inr w) = told_any old.shelf.files (λ files none. absurd (rose_not_stayed _ _ w.2 none.said))
    complete (Err NoThread) e = told_any old.shelf.files (λ files none. absurd (thread_not_stayed p.paired old.crew new.crew e.2 none.crew))
    complete (Err NoMemory) e = told_any old.shelf.files (λ files none. inr refl)

    carried : (r : Result E (Stop C)) → EndsAs p old new r → HasKept p old new → CarriesOut p old new r
    carried r e kept = record { ends = e; complete = complete r e; counts = (kept.read, kept.written, kept.crew); shelf = kept.files }

    untouched : new.outlet ≡ old.outlet → IsUntouched old.outlet new.outlet
    untouched same = record { files = ap (λ (o : OutletState). o.files) same; said = ap (λ (o : OutletState). o.said) same }

    unread : (s : Stop C) → ReadsAll {K = K} p.reads old.shelf new.shelf (Err s) → new.outlet ≡ old.outlet → EndsAs p old new (Err s)
    unread (ReadFault name) reads same = (reads, untouched same)
    unread (TooLong name) reads same = (reads, untouched same)
    unread NoMemory reads same = inl (untouched same)
    unread stop reads same = absurd reads

    -- the verdict of the inputs, if they have one
    comes_ok : (inputs : Inputs K) → AreWithin p.reads inputs → IfSome old.shelf.files (λ files. read_all {C = C} files p.reads ≡ Ok inputs) →
        (r : Result (Verdict E) (Refusal C)) → p.after inputs ≡ r → IsOkAnd r (λ _. Unit {0}) → (v : Verdict E) × ComesTo p old.shelf.files (Ok v)
    comes_ok inputs fit told (Ok v) is ok = (v, comes_after old.shelf.files inputs (Ok v) fit told (ap or_stop is))
    comes_ok inputs fit told (Err refusal) is ok = absurd ok

    unworked : (inputs : Inputs K) → AreWithin p.reads inputs →
        IfSome old.shelf.files (λ files. read_all {C = C} files p.reads ≡ Ok inputs) →
        (s : Stop C) → Works (λ (v : Verdict E). v) p.paired old.crew new.crew (Err s) (p.after inputs) → new.outlet ≡ old.outlet → EndsAs p old new (Err s)
    unworked inputs fit told (Refused cause) works same = (comes_after old.shelf.files inputs _ fit told (ap or_stop works), untouched same)
    unworked inputs fit told NoThread works same =
        let ok = comes_ok inputs fit told (p.after inputs) refl works.0 in (ok.0, ok.1, works.1, untouched same)
    unworked inputs fit told NoMemory works same = inl (untouched same)
    unworked inputs fit told stop works same = absurd works

    written : (v : Verdict E) → ComesOut p old new v → (r : Result E (Stop C)) → Writes v old.outlet new.outlet r → EndsAs p old new r
    written v comes (Ok ending) w = (v, comes, w.0, w.1)
    written v comes (Err (WriteFault name)) w = (v, comes, w)
    written v comes (Err NoMemory) (inl w) = inl w
    written v comes (Err NoMemory) (inr w) = inr (v, comes, w)
    written v comes (Err stop) w = absurd w

    -- ---- the law of the stages

    pub stops_at_reading : (s : Stop C) → ReadsAll {K = K} p.reads old.shelf new.shelf (Err s) → new.outlet ≡ old.outlet → new.crew ≡ old.crew → HasKept p old new →
        CarriesOut p old new (Err s)
    stops_at_reading s reads same crew kept = carried (Err s) (unread s reads same) kept

    pub stops_at_work : (inputs : Vec (K × Vec ℕ Global) Global) (s : Stop C) → ReadsAll {C = C} p.reads old.shelf new.shelf (Ok inputs) →
        Works (λ (v : Verdict E). v) p.paired old.crew new.crew (Err s) (p.after (map seen_input inputs.items)) → new.outlet ≡ old.outlet → HasKept p old new →
        CarriesOut p old new (Err s)
    stops_at_work inputs s reads works same kept = carried (Err s) (unworked (map seen_input inputs.items) reads.0 reads.1 s works same) kept

    pub goes_on_to_writing : (inputs : Vec (K × Vec ℕ Global) Global) (v : Verdict E) (r : Result E (Stop C)) → ReadsAll {C = C} p.reads old.shelf new.shelf (Ok inputs) →
        Works {C = C} (λ (x : Verdict E). x) p.paired old.crew new.crew (Ok v) (p.after (map seen_input inputs.items)) → Writes v old.outlet new.outlet r → HasKept p old new →
        CarriesOut p old new r
    goes_on_to_writing inputs v r reads works w kept =
        carried r (written v (comes_after old.shelf.files (map seen_input inputs.items) (Ok v) reads.0 reads.1 (ap or_stop works.0), works.1) r w) kept
