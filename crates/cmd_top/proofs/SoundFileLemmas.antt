-- The theorem of the sound file follows from the promise of each command.
use Rattle.std.proofs.Common.{◌≡◌, ◌∙◌, sym, refl, ap, subst, cond, ℕ, Bool, true, false, take, unwrap_or, List, [], ◌∷◌, ◌++◌, map, length, Option, Some, None, Result, Ok, Err, IfSome}
use Rattle.std.proofs.lemmas.List.{map-append}
use Rattle.std.specs.Cmp.Lexicographic.{nat_list_cmp_total, bytes_decides, texts_ties}
use Rattle.std.proofs.lemmas.Cmp.{eq_by_cmp_equiv}
use Rattle.std.specs.FinMap.{get-insert}
use Rattle.beeb_bits.specs.declared.clock.Clock.{Clock}
use Rattle.beeb_bits.specs.declared.Side.TheVariants.{Host}
use Rattle.beeb_files.specs.Files.{Files, bytes_of, put}
use Rattle.cmd_words.specs.declared.keys.InputKind.{InputKind}
use Rattle.cmd_words.specs.Command.{Command, replay, solo, run, resume, is_paired, ticks_of}
use Rattle.cmd_words.specs.Given.{Values, clock_of, save_of, wav_of}
use Rattle.cmd_stages.specs.declared.stop.Stop.{Stop}
use Rattle.cmd_stages.specs.declared.stop.Refusal.{Refusal}
use Rattle.cmd_stages.specs.Plan as plans
use Rattle.cmd_stages.specs.Plan.{Verdict, Plan, read_all, ComesTo, or_stop, ◌>>=◌}
use Rattle.cmd_stages.specs.Promise.{World, CarriesOut, put_all}
use Rattle.cmd_status.specs.declared.status.Ending.{Ending}
use Rattle.cmd_status.specs.declared.status.Ending.TheVariants as endings
use Rattle.cmd_status.specs.declared.status.Cause.{Cause}
use Rattle.cmd_status.specs.declared.status.Status.{Status}
use Rattle.cmd_status.specs.declared.status.Status.TheVariants.{Done}
use Rattle.cmd_status.specs.Status.{end_of}
use Rattle.bus_plug.specs.Plug.{Plug}
use Rattle.tube_trace.specs.declared.Entry.{Entry}
use Rattle.tube_trace.specs.Entries.{accesses}
use Rattle.tube_trace.specs.FirstWrong.{wrong}
use Rattle.tube_party.specs.declared.replaying.Doing.{Doing}
use Rattle.tube_party.specs.Reference.{World as Worlds, reference}
use Rattle.tube_party.specs.Replay.{Ended, replay_of}
use Rattle.host_mach.specs.State.{HostState}
use Rattle.host_mach.specs.Step.{host_transitions}
use Rattle.para_mach.specs.State.{ParaState}
use Rattle.para_mach.specs.Step.{para_transitions}
use Rattle.cmd_machines.specs.Inputs.{Inputs, inputs_of}
use Rattle.cmd_machines.specs.Setup.{setup_of}
use Rattle.cmd_machines.specs.Machines.{machines_of}
use Rattle.cmd_machines.specs.Sessions.{setup_in, inputs_in, begun_if}
use Rattle.cmd_outcome.specs.declared.output.Output.{Output}
use Rattle.cmd_outcome.specs.declared.output.Output.TheVariants.{Sound, Session}
use Rattle.cmd_outcome.specs.Names.{Names, names_of}
use Rattle.cmd_outcome.specs.Left.{Left}
use Rattle.cmd_outcome.specs.Sound.{sound_bytes}
use Rattle.cmd_outcome.specs.Files.{file_of, own_name}
use Rattle.cmd_outcome.specs.Outputs.{if_there, front_of, machine_outputs}
use Rattle.cmd_outcome.specs.Verdicts.{machine_verdict, both_left, host_left}
use Rattle.cmd_replay.specs.Replay.{side_count, replayed, replay_after}
use Rattle.cmd_replayed.specs.Replay.{verdict_of_place, unless_wrong}
use Rattle.cmd_replayed.specs.Made.{host_of}
use Rattle.cmd_ended.specs.Kept.{kept_of, saved_file, kept_verdict}
use Rattle.cmd_pair.specs.Solo.{solo_after}
use Rattle.cmd_session.specs.Session.{state_of, place_of, session_ended, session_after}
use Rattle.save_state.specs.Saved as sessions
use Rattle.cmd_top.specs.Plans.{after, plan}
use Rattle.cmd_top.specs.Commands.{EndsWith, if_unpaired}
use Rattle.cmd_top.specs.SoundFile.{WereRead, IsHeard, SoundFile, reference_host, replayed_host, session_host}
use Rattle.cmd_top.proofs.HeadlineLemmas.{bound_ok, stage_ok, done_as}

-- ---- the file that is put last

last_put : (name bytes : List ℕ) (files : Option Files) → IfSome (put name bytes files) (λ now. bytes_of now name ≡ Some bytes)
last_put name bytes None = tt
last_put name bytes (Some files) =
    get-insert nat_list_cmp_total files name bytes name
    ∙ ap (λ b. cond b (Some bytes) (bytes_of files name)) ((eq_by_cmp_equiv nat_list_cmp_total).refl name)

cond_other : {A : Type 0} (t : Bool) (x y : A) → (t ≡ true → ⊥) → cond t x y ≡ y
cond_other true x y differ = absurd (differ refl)
cond_other false x y differ = refl

-- a file that is put under another name leaves this one unchanged
other_put : (other name put_bytes bytes : List ℕ) (files : Option Files) → (other ≡ name → ⊥) → IfSome files (λ now. bytes_of now name ≡ Some bytes) →
    IfSome (put other put_bytes files) (λ now. bytes_of now name ≡ Some bytes)
other_put other name put_bytes bytes None differ is = tt
other_put other name put_bytes bytes (Some files) differ is =
    get-insert nat_list_cmp_total files other put_bytes name
    ∙ cond_other _ (Some put_bytes) (bytes_of files name) (λ h. differ (sym ((bytes_decides name other).0 (texts_ties name other ∙ h))))
    ∙ is

put_behind : (fs gs : List (List ℕ × List ℕ)) (files : Option Files) → put_all (fs ++ gs) files ≡ put_all gs (put_all fs files)
put_behind [] gs files = refl
put_behind (f ∷ fs) gs files = put_behind fs gs (put f.0 f.1 files)

-- ---- the files of machines

sound_is : (l : Left) (s : HostState) (name : List ℕ) → l.host ≡ Some s → l.names.wav ≡ Some name → file_of l Sound ≡ (name, sound_bytes l.clock l.ticks s)
sound_is l s name host wav = rw (host, wav)

one_sound : (l : Left) (s : HostState) (name : List ℕ) (o : Option (List ℕ)) (files : Option Files) → l.host ≡ Some s → l.names.wav ≡ o → o ≡ Some name →
    IfSome (put_all (map (file_of l) (if_there Sound o)) files) (λ now. bytes_of now name ≡ Some (sound_bytes l.clock l.ticks s))
one_sound l s name None files host wav is = cc
one_sound l s name (Some other) files host wav is =
    subst (λ (f : List ℕ × List ℕ). IfSome (put f.0 f.1 files) (λ now. bytes_of now name ≡ Some (sound_bytes l.clock l.ticks s))) (sym (sound_is l s name host (wav ∙ is)))
    (last_put name (sound_bytes l.clock l.ticks s) files)

session_behind : (l : Left) (name bytes : List ℕ) (o : Option (List ℕ)) (files : Option Files) → l.names.save ≡ o → (o ≡ Some name → ⊥) →
    IfSome files (λ now. bytes_of now name ≡ Some bytes) → IfSome (put_all (map (file_of l) (if_there Session o)) files) (λ now. bytes_of now name ≡ Some bytes)
session_behind l name bytes None files save differ is = is
session_behind l name bytes (Some other) files save differ is =
    other_put (own_name l.names.save) name (unwrap_or l.saved []) bytes files (λ same. differ (ap Some (sym (ap own_name save) ∙ same))) is

left_heard : (l : Left) (s : HostState) (name : List ℕ) (old new : Option Files) → l.host ≡ Some s → l.names.wav ≡ Some name → (l.names.save ≡ Some name → ⊥) →
    new ≡ put_all (machine_verdict l).files old → IfSome new (λ files. bytes_of files name ≡ Some (sound_bytes l.clock l.ticks s))
unfolding machine_verdict machine_outputs
left_heard l s name old new host wav differ is =
    let f : Output → List ℕ × List ℕ = file_of l in
    let sound : List Output = if_there Sound l.names.wav in
    let saved : List Output = if_there Session l.names.save in
    let before : Option Files = put_all (map f (front_of l)) old in
    let whole : new ≡ put_all (map f saved) (put_all (map f sound) before) =
    is
    ∙ ap (λ (fs : List (List ℕ × List ℕ)). put_all fs old) (map-append f (front_of l ++ sound) saved)
    ∙ put_behind (map f (front_of l ++ sound)) (map f saved) old
    ∙ ap (put_all (map f saved)) (ap (λ (fs : List (List ℕ × List ℕ)). put_all fs old) (map-append f (front_of l) sound) ∙ put_behind (map f (front_of l)) (map f sound) old) in
    subst (λ (o : Option Files). IfSome o (λ files. bytes_of files name ≡ Some (sound_bytes l.clock l.ticks s))) (sym whole)
    (session_behind l name (sound_bytes l.clock l.ticks s) l.names.save (put_all (map f sound) before) refl differ
    (one_sound l s name l.names.wav before host refl wav))

-- ---- the verdict of each command

right_trace : (w : Option (ℕ × ℕ)) (v : Verdict Ending) → endings.Done ≡ (unless_wrong w v).ending → unless_wrong w v ≡ v
right_trace None v done = refl
right_trace (Some w) v done = cc

no_place : {S : Type 0} (done : S → Verdict Ending) (s : S) (place : Option (ℕ × Option Doing))
    → endings.Done ≡ (verdict_of_place done s place).ending → verdict_of_place done s place ≡ done s
no_place done s None is = refl
no_place done s (Some place) is = cc

pub stage_two : {A B : Type 0} (r : Result A (Refusal Cause)) (g : A → Result B (Refusal Cause)) (f : A → B → Verdict Ending) (v : Verdict Ending) →
    or_stop (r >>= λ x. g x >>= λ y. Ok (f x y)) ≡ Ok v → (x : A) × (y : B) × (r ≡ Ok x) × (g x ≡ Ok y) × (v ≡ f x y)
stage_two (Err e) g f v is = cc
stage_two (Ok x) g f v is = let got = stage_ok (g x) (f x) v is in (x, got.0, refl, got.1, got.2)

pub placed : {S : Type 0} (done : S → Verdict Ending) (s : S) (place : Option (ℕ × Option Doing)) (w : Option (ℕ × ℕ)) (v : Verdict Ending) →
    v ≡ unless_wrong w (verdict_of_place done s place) → endings.Done ≡ v.ending → v ≡ done s
placed done s place w v is ends =
    let fine : endings.Done ≡ (unless_wrong w (verdict_of_place done s place)).ending = ends ∙ ap (λ (x : Verdict Ending). x.ending) is in
    let right = right_trace w (verdict_of_place done s place) fine in
    is ∙ right ∙ no_place done s place (fine ∙ ap (λ (x : Verdict Ending). x.ending) right)

-- a session that ended with `Done`: its machines' reference run
pub session_done : (plugs : List Plug) (ticks keep : ℕ) (names : Names) (i : Inputs) (v : Verdict Ending)
    → or_stop (session_after plugs ticks keep names i) ≡ Ok v → endings.Done ≡ v.ending →
    (s : sessions.Session) × (m : HostState × ParaState) × (state_of i.state ≡ Ok s) × (machines_of (setup_in s plugs) (inputs_in s) ≡ Ok m)
    × (v ≡ kept_verdict s.clock (begun_if names.save (setup_in s plugs) (inputs_in s)) ticks keep names (reference host_transitions para_transitions m.0 m.1 ticks))
unfolding session_after session_ended
session_done plugs ticks keep names i v comes done =
    let got = stage_two (state_of i.state) (λ s. machines_of (setup_in s plugs) (inputs_in s))
    (λ s m. unless_wrong (wrong s.entries) (session_ended plugs ticks keep names s m)) v comes in
    let s : sessions.Session = got.0 in
    let m : HostState × ParaState = got.1 in (
      s,
      m,
      got.2,
      got.3,
      placed (kept_verdict s.clock (begun_if names.save (setup_in s plugs) (inputs_in s)) ticks keep names) (reference host_transitions para_transitions m.0 m.1 ticks)
          (place_of s ticks m) (wrong s.entries) v got.4 done,
    )

-- The files have the sound file of a host under the name, if the session file has another name.
abbrev Hears : Values → ℕ → List ℕ → Option Files → Result (Clock × HostState) (Refusal Cause) → Type 0
Hears given ticks name new host =
    (clock : Clock) × (last : HostState) × (host ≡ Ok (clock, last))
    × ((save_of given ≡ Some name → ⊥) → IfSome new (λ files. bytes_of files name ≡ Some (sound_bytes clock ticks last)))

module _ (plugs : List Plug) (ticks : ℕ) (out : List ℕ) (given : Values) (name : List ℕ) (wav : wav_of given ≡ Some name) (i : Inputs)
    (v : Verdict Ending) (old new : Option Files) (is : new ≡ put_all v.files old) where
  run_heard : (keep : ℕ) → or_stop (solo_after (setup_of given plugs) ticks keep (names_of out given) i) ≡ Ok v → Hears given ticks name new (reference_host plugs ticks given i)
  unfolding solo_after kept_verdict
  run_heard keep comes =
      let begun : Option sessions.Session = begun_if (save_of given) (setup_of given plugs) i in
      let got = stage_ok (machines_of (setup_of given plugs) i) _ v comes in
      let w : Worlds HostState ParaState = reference host_transitions para_transitions got.0.0 got.0.1 ticks in (
        clock_of given,
        w.host,
        ap (λ (r : Result (HostState × ParaState) (Refusal Cause)). r >>= λ m. Ok (clock_of given, (reference host_transitions para_transitions m.0 m.1 ticks).host)) got.1,
        λ differ.
            left_heard (both_left (clock_of given) ticks (length (accesses w.list)) (names_of out given) w.host w.para (kept_of (clock_of given) (take keep (accesses w.list)))
            (saved_file begun ticks keep w.list))
            w.host name old new refl wav differ (is ∙ ap (λ (x : Verdict Ending). put_all x.files old) got.2),
      )

  session_heard : (keep : ℕ) → or_stop (session_after plugs ticks keep (names_of out given) i) ≡ Ok v → endings.Done ≡ v.ending → Hears given ticks name new (session_host plugs ticks i)
  unfolding kept_verdict
  session_heard keep comes done =
      let got = session_done plugs ticks keep (names_of out given) i v comes done in
      let s : sessions.Session = got.0 in
      let begun : Option sessions.Session = begun_if (save_of given) (setup_in s plugs) (inputs_in s) in
      let w : Worlds HostState ParaState = reference host_transitions para_transitions got.1.0 got.1.1 ticks in (
        s.clock,
        w.host,
        rw (got.2, got.3),
        λ differ.
            left_heard (both_left s.clock ticks (length (accesses w.list)) (names_of out given) w.host w.para (kept_of s.clock (take keep (accesses w.list)))
            (saved_file begun ticks keep w.list))
            w.host name old new refl wav differ (is ∙ ap (λ (x : Verdict Ending). put_all x.files old) got.4),
      )

  replay_heard : or_stop (replay_after (setup_of given plugs) Host ticks (names_of out given) i) ≡ Ok v → endings.Done ≡ v.ending
      → Hears given ticks name new (replayed_host plugs ticks given i)
  unfolding replay_after replayed
  replay_heard comes done =
      let left : ℕ → HostState → Left = λ tube s. host_left (clock_of given) ticks tube (names_of out given) s in
      let got = stage_ok (host_of (setup_of given plugs) i) (replayed host_transitions Host ticks left) v comes in
      let e : Ended HostState = replay_of host_transitions Host got.0.0 ticks got.0.1 in
      let count : ℕ = side_count Host ticks got.0.0 in (
        clock_of given,
        e.machine,
        ap (λ (r : Result (List Entry × HostState) (Refusal Cause)). r >>= λ m. Ok (clock_of given, (replay_of host_transitions Host m.0 ticks m.1).machine)) got.1,
        λ differ.
            left_heard (left count e.machine) e.machine name old new refl wav differ
            (is ∙ ap (λ (x : Verdict Ending). put_all x.files old) (placed (λ (s : HostState). machine_verdict (left count s)) e.machine e.place (wrong got.0.0) v got.2 done)),
      )

-- ---- from the promise of a command

pub was_read : (p : Plan InputKind Ending Cause) (o : Option Files) (v : Verdict Ending) → ComesTo p o (Ok v) →
    (inputs : plans.Inputs InputKind) × WereRead p.reads o inputs × (or_stop (p.after inputs) ≡ Ok v)
was_read p None v comes = comes
was_read p (Some files) v comes = bound_ok (read_all files p.reads) (λ list. or_stop (p.after list)) v comes

if_name : (o : Option (List ℕ)) (P : List ℕ → Type 0) → ((name : List ℕ) → o ≡ Some name → P name) → IfSome o P
if_name None P each = tt
if_name (Some name) P each = each name refl

-- the sound of a command that is done, by the sound of its verdict
heard_by : (plugs : List Plug) (old new : World) (c : Command) (given : Values) (host : Inputs → Result (Clock × HostState) (Refusal Cause))
    (e : CarriesOut (plan plugs c) old new (Ok endings.Done)) →
    ((name : List ℕ) → wav_of given ≡ Some name → (i : Inputs) → or_stop (after plugs c i) ≡ Ok e.ends.0 → Hears given (ticks_of c) name new.outlet.files (host i)) →
    IfSome (wav_of given) (IsHeard c given host old new)
heard_by plugs old new c given host e hears = if_name (wav_of given) _ (λ name wav.
    let got = was_read (plan plugs c) old.shelf.files e.ends.0 e.ends.1.0 in
    let heard = hears name wav (inputs_of got.0) got.2 in
    record { inputs = got.0; read = got.1; clock = heard.0; last = heard.1; ended = heard.2; file = heard.3 })

done_heard : (plugs : List Plug) (c : Command) (old new : World) → EndsWith plugs c old new Done → SoundFile plugs (Some c) old new
unfolding EndsWith SoundFile
done_heard plugs (replay Host trace ticks out given) old new e =
    heard_by plugs old new (replay Host trace ticks out given) given (replayed_host plugs ticks given) e
    (λ name wav i comes. replay_heard plugs ticks out given name wav i e.ends.0 old.outlet.files new.outlet.files e.ends.3.files comes e.ends.2)
done_heard plugs (solo ticks out keep given) old new e =
    heard_by plugs old new (solo ticks out keep given) given (reference_host plugs ticks given) e
    (λ name wav i comes. run_heard plugs ticks out given name wav i e.ends.0 old.outlet.files new.outlet.files e.ends.3.files keep comes)
done_heard plugs (run ticks out keep given) old new e =
    heard_by plugs old new (run ticks out keep given) given (reference_host plugs ticks given) e
    (λ name wav i comes. run_heard plugs ticks out given name wav i e.ends.0 old.outlet.files new.outlet.files e.ends.3.files keep comes)
done_heard plugs (resume state ticks out keep given) old new e =
    heard_by plugs old new (resume state ticks out keep given) given (session_host plugs ticks) e
    (λ name wav i comes. session_heard plugs ticks out given name wav i e.ends.0 old.outlet.files new.outlet.files e.ends.3.files keep comes e.ends.2)
done_heard plugs c old new e = tt

-- a command that was carried out with its status
pub heard_of : (plugs : List Plug) (c : Command) {o : Option Command} {old new : World} {status : Status} {end : Result Ending (Stop Cause)} → Some c ≡ o →
    end_of status ≡ Some end → CarriesOut (plan plugs c) old new end → status ≡ Done → SoundFile plugs o old new
heard_of plugs c {old = old} {new = new} is ended carried done = rw (← is) (done_heard plugs c old new (done_as plugs c ended carried done))

-- a command that needs no crew
pub same_unpaired : (c : Command) (o : Option Command) → Some c ≡ o → is_paired c ≡ false → Some c ≡ if_unpaired o
same_unpaired c o is alone = rw (← is, alone)
