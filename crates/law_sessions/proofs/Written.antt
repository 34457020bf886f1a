-- The outputs of a run that is to be saved.
use Rattle.std.proofs.Common.{◌≡◌, ◌∙◌, sym, refl, ap, ℕ, List, [], ◌∷◌, ◌++◌, length, map, take, Option, Some, append_assoc}
use Rattle.std.proofs.lemmas.List.{map-append}
use Rattle.tube_trace.specs.Entries.{accesses}
use Rattle.tube_party.specs.Reference.{World, reference}
use Rattle.host_mach.specs.State.{HostState}
use Rattle.host_mach.specs.Step.{host_transitions}
use Rattle.para_mach.specs.State.{ParaState}
use Rattle.para_mach.specs.Step.{para_transitions}
use Rattle.save_state.specs.File as sessions
use Rattle.cmd_outcome.specs.declared.output.Output.TheVariants.{Sound, Session}
use Rattle.cmd_outcome.specs.Outputs.{if_there, front_of, machine_outputs}
use Rattle.cmd_outcome.specs.Left.{Left}
use Rattle.cmd_outcome.specs.Files.{file_of}
use Rattle.cmd_outcome.specs.Names.{Names}
use Rattle.cmd_outcome.specs.Verdicts.{machine_verdict, both_left}
use Rattle.cmd_machines.specs.Inputs.{Inputs}
use Rattle.cmd_machines.specs.Setup.{Setup}
use Rattle.cmd_machines.specs.Sessions.{begun_if}
use Rattle.cmd_ended.specs.Kept.{kept_of, saved_file, kept_verdict}
use Rattle.cmd_pair.specs.Solo.{solo_after}
use Rattle.law_sessions.specs.OneRun.{saved_run, SessionIsWritten}

-- this is the last of some
abbrev IsLast : {A : Type 0} → A → List A → Type 0
IsLast {A} x xs = (front : List A) × (xs ≡ front ++ x ∷ [])

behind : {A : Type 0} (x : A) (front xs : List A) → IsLast x xs → IsLast x (front ++ xs)
behind x front xs last = (front ++ last.0, ap (λ l. front ++ l) last.1 ∙ sym (append_assoc front last.0 (x ∷ [])))

mapped : {A B : Type 0} (f : A → B) (x : A) (xs : List A) → IsLast x xs → IsLast (f x) (map f xs)
mapped f x xs last = (map f last.0, ap (map f) last.1 ∙ map-append f last.0 (x ∷ []))

there : (save : Option (List ℕ)) (name : List ℕ) → save ≡ Some name → IsLast Session (if_there Session save)
there save name is = rw is ([], refl)

-- the session file comes after all others
session_last : (l : Left) (name : List ℕ) → l.names.save ≡ Some name → IsLast Session (machine_outputs l)
unfolding machine_outputs
session_last l name is = behind Session (front_of l ++ if_there Sound l.names.wav) (if_there Session l.names.save) (there l.names.save name is)

-- the outputs of both machines
abbrev left_of : Setup → Inputs → HostState × ParaState → ℕ → ℕ → Names → Left
left_of set i m n keep names =
    let w : World HostState ParaState = reference host_transitions para_transitions m.0 m.1 n in
    both_left set.clock n (length (accesses w.list)) names w.host w.para (kept_of set.clock (take keep (accesses w.list)))
    (saved_file (begun_if names.save set i) n keep w.list)

pub session_written : SessionIsWritten
unfolding solo_after kept_verdict machine_verdict
session_written set i m n keep names name made is =
    let l : Left = left_of set i m n keep names in
    let last = mapped (file_of l) Session (machine_outputs l) (session_last l name is) in
    let bytes : file_of l Session ≡ (name, sessions.file_of (saved_run set i m n keep)) = rw is refl in
    (machine_verdict l, rw made refl, record { done = refl; others = last.0; files = last.1 ∙ ap (λ (x : List ℕ × List ℕ). last.0 ++ x ∷ []) bytes })
