-- The trace among the files of a run.
use Rattle.std.proofs.Common.{◌≡◌, ◌∙◌, sym, refl, ap, subst, cond, ℕ, zero, suc, ◌+◌, ◌*◌}
use Rattle.std.proofs.Common.{◌≤◌, Bool, true, false, List, [], ◌∷◌, ◌++◌, length, map, Option, Some, None}
use Rattle.std.proofs.Common.{IfSome, All, arith, length-append, slice_index_or}
use Rattle.std.specs.Prelude.{codes}
use Rattle.std.specs.Fmt.{decimal}
use Rattle.std.specs.Cmp.Lexicographic.{nat_list_cmp_total, bytes_decides, texts_ties}
use Rattle.std.specs.FinMap.{get-insert}
use Rattle.std.proofs.lemmas.Cmp.{eq_by_cmp_equiv}
use Rattle.std.proofs.lemmas.List.{map-append, append_cancel_left}
use Rattle.std.proofs.lemmas.List.Elements.{All-nil, All-cons, All-head, All-tail}
use Rattle.beeb_bits.specs.declared.Side.TheVariants as sides
use Rattle.beeb_bits.specs.declared.clock.Clock.{Clock}
use Rattle.beeb_bits.specs.declared.clock.Clock.TheVariants.{Three, Four}
use Rattle.beeb_files.specs.Files.{Files, bytes_of, put}
use Rattle.digits.proofs.HexLaws.{digits_are_hex}
use Rattle.digits.specs.Hexadecimal.{hex_digits}
use Rattle.tube_trace.specs.declared.Entry.{Entry}
use Rattle.tube_trace.specs.Text.{line_byte, access_text, line_text, lines_text, text_of}
use Rattle.host_mach.specs.State.{HostState}
use Rattle.para_mach.specs.State.{ParaState}
use Rattle.cmd_stages.specs.Promise.{put_all}
use Rattle.cmd_outcome.specs.declared.output.Output.{Output}
use Rattle.cmd_outcome.specs.declared.output.Output.TheVariants.{Report, Memory, Plug, Sound, Session, Trace}
use Rattle.cmd_outcome.specs.Names.{Names}
use Rattle.cmd_outcome.specs.Left.{Left, Kept}
use Rattle.cmd_outcome.specs.Files.{file_of, own_name}
use Rattle.cmd_outcome.specs.Outputs.{if_there, plugs, machine_outputs, discs, shots, spills, of_host}
use Rattle.cmd_outcome.specs.Verdicts.{machine_verdict, both_left}
use Rattle.law_sessions.specs.TraceOfRun.{trace_name}

-- ---- a file among others

-- a file that is put has its bytes
own_put : (name bytes : List ℕ) (files : Option Files) → IfSome (put name bytes files) (λ now. bytes_of now name ≡ Some bytes)
own_put name bytes None = tt
own_put name bytes (Some files) =
    get-insert nat_list_cmp_total files name bytes name
    ∙ ap (λ b. cond b (Some bytes) (bytes_of files name)) ((eq_by_cmp_equiv nat_list_cmp_total).refl name)

cond_other : {A : Type 0} (t : Bool) (x y : A) → (t ≡ true → ⊥) → cond t x y ≡ y
cond_other true x y differ = absurd (differ refl)
cond_other false x y differ = refl

-- a file that is put under another name leaves it unchanged
other_put : (other name put_bytes bytes : List ℕ) (files : Option Files) → (other ≡ name → ⊥) →
    IfSome files (λ now. bytes_of now name ≡ Some bytes) →
    IfSome (put other put_bytes files) (λ now. bytes_of now name ≡ Some bytes)
other_put other name put_bytes bytes None differ is = tt
other_put other name put_bytes bytes (Some files) differ is =
    get-insert nat_list_cmp_total files other put_bytes name
    ∙ cond_other _ (Some put_bytes) (bytes_of files name) (λ h. differ (sym ((bytes_decides name other).0 (texts_ties name other ∙ h))))
    ∙ is

-- the file of the output has another name
abbrev Other : Left → List ℕ → Output → Type 0
Other l name o = (file_of l o).0 ≡ name → ⊥

others_put : (l : Left) (name bytes : List ℕ) (os : List Output) (files : Option Files) → All (Other l name) os →
    IfSome files (λ now. bytes_of now name ≡ Some bytes) →
    IfSome (put_all (map (file_of l) os) files) (λ now. bytes_of now name ≡ Some bytes)
others_put l name bytes [] files all is = is
others_put l name bytes (o ∷ os) files all is =
    others_put l name bytes os (put (file_of l o).0 (file_of l o).1 files) (All-tail (Other l name) o os all)
    (other_put (file_of l o).0 name (file_of l o).1 bytes files (All-head (Other l name) o os all) is)

put_behind : (fs gs : List (List ℕ × List ℕ)) (files : Option Files) → put_all (fs ++ gs) files ≡ put_all gs (put_all fs files)
put_behind [] gs files = refl
put_behind (f ∷ fs) gs files = put_behind fs gs (put f.0 f.1 files)

-- outputs behind others
behind : (l : Left) (os more : List Output) (files : Option Files) →
    put_all (map (file_of l) (os ++ more)) files ≡ put_all (map (file_of l) more) (put_all (map (file_of l) os) files)
behind l os more files =
    ap (λ (fs : List (List ℕ × List ℕ)). put_all fs files) (map-append (file_of l) os more) ∙ put_behind (map (file_of l) os)
    (map (file_of l) more) files

-- ---- the names of the outputs behind the trace

module _ (l : Left) where
  plug_other : (n : ℕ) → Other l (trace_name l.names.out) (Plug n)
  plug_other n same =
      let tails : codes ".plug" ++ decimal n ≡ codes ".trace" = append_cancel_left l.names.out (codes ".plug" ++ decimal n) (codes ".trace") same in
      let letters : 112 ≡ 116 = ap (λ (text : List ℕ). slice_index_or text 1 0) tails in
      omega (arith, letters)

  All-behind : (P : Output → Type 0) (xs : List Output) (x : Output) → All P xs → P x → All P (xs ++ x ∷ [])
  All-behind P [] x all here = All-cons P x [] here (All-nil P)
  All-behind P (y ∷ xs) x all here = All-cons P y (xs ++ x ∷ []) (All-head P y xs all) (All-behind P xs x (All-tail P y xs all) here)

  plugs_other : (n : ℕ) → All (Other l (trace_name l.names.out)) (plugs n)
  plugs_other zero = All-nil (Other l (trace_name l.names.out))
  plugs_other (suc n) = All-behind (Other l (trace_name l.names.out)) (plugs n) (Plug n) (plugs_other n) (plug_other n)

  sound_other : (name : List ℕ) (o : Option (List ℕ)) → l.names.wav ≡ o → (o ≡ Some name → ⊥) → All (Other l name) (if_there Sound o)
  sound_other name None is differ = All-nil (Other l name)
  sound_other name (Some wav) is differ = All-cons (Other l name) Sound [] (λ same. differ (ap Some (sym (ap own_name is) ∙ same)))
      (All-nil (Other l name))

  session_other : (name : List ℕ) (o : Option (List ℕ)) → l.names.save ≡ o → (o ≡ Some name → ⊥) → All (Other l name) (if_there Session o)
  session_other name None is differ = All-nil (Other l name)
  session_other name (Some save) is differ = All-cons (Other l name) Session [] (λ same. differ (ap Some (sym (ap own_name is) ∙ same)))
      (All-nil (Other l name))

-- the trace, some outputs before it, and outputs of other names behind it
trace_behind : (l : Left) (name bytes : List ℕ) (front spilt sound session : List Output) (old : Option Files) → file_of l Trace ≡ (name, bytes) →
    All (Other l name) spilt → All (Other l name) sound → All (Other l name) session →
    IfSome (put_all (map (file_of l) (front ++ Trace ∷ [] ++ spilt ++ sound ++ session)) old) (λ now. bytes_of now name ≡ Some bytes)
trace_behind l name bytes front spilt sound session old is all_spilt all_sound all_session =
    let puts : List Output → Option Files → Option Files = λ os files. put_all (map (file_of l) os) files in
    let before : Option Files = puts front old in
    let own : IfSome (puts (Trace ∷ []) before) (λ now. bytes_of now name ≡ Some bytes) =
    subst (λ (f : List ℕ × List ℕ). IfSome (put f.0 f.1 before) (λ now. bytes_of now name ≡ Some bytes)) (sym is) (own_put name bytes before) in
    let last = others_put l name bytes session _ all_session (others_put l name bytes sound _ all_sound (others_put l name bytes spilt _ all_spilt own)) in
    let whole : puts (front ++ Trace ∷ [] ++ spilt ++ sound ++ session) old ≡ puts session (puts sound (puts spilt (puts (Trace ∷ []) before))) =
    behind l (front ++ Trace ∷ [] ++ spilt ++ sound) session old
    ∙ ap (puts session) (behind l (front ++ Trace ∷ [] ++ spilt) sound old
    ∙ ap (puts sound) (behind l (front ++ Trace ∷ []) spilt old ∙ ap (puts spilt) (behind l front (Trace ∷ []) old))) in
    subst (λ (files : Option Files). IfSome files (λ now. bytes_of now name ≡ Some bytes)) (sym whole) last

-- the trace is among the files of both machines, under its name
pub trace_put : (clock : Clock) (n tube : ℕ) (names : Names) (s : HostState) (p : ParaState) (kept : Kept) (saved : Option (List ℕ))
    (old : Option Files) →
    (names.wav ≡ Some (trace_name names.out) → ⊥) → (names.save ≡ Some (trace_name names.out) → ⊥) →
    IfSome (put_all (machine_verdict (both_left clock n tube names s p kept saved)).files old)
    (λ now. bytes_of now (trace_name names.out) ≡ Some kept.trace)
unfolding machine_verdict machine_outputs
trace_put clock n tube names s p kept saved old wav save =
    let l : Left = both_left clock n tube names s p kept saved in
    let name : List ℕ = trace_name names.out in
    let front : List Output = Report ∷ [] ++ if_there (Memory sides.Host) l.host ++ if_there
    (Memory sides.Para) l.para ++ of_host discs l.host ++ of_host shots l.host in
    trace_behind l name kept.trace front (of_host spills l.host) (if_there Sound names.wav) (if_there Session names.save) old refl
    (plugs_other l (length s.bus.bus.plugs)) (sound_other l name names.wav refl wav) (session_other l name names.save refl save)

-- ---- its length

line_length : (e : Entry) → length (line_text e) ≡ 20
unfolding access_text
line_length e =
    rw (
      length-append (access_text (e.tick).0 e.side e.op (hex_digits 2 (line_byte e.op e.answer))) (codes "\n"),
      length-append (hex_digits 10 (e.tick).0) _,
      (digits_are_hex 10 (e.tick).0).0,
      (digits_are_hex 2 (line_byte e.op e.answer)).0,
    )
    refl

lines_length : (entries : List Entry) → length (lines_text entries) ≡ 20 * length entries
lines_length [] = refl
lines_length (e ∷ entries) =
    length-append (line_text e) (lines_text entries) ∙ omega (arith, line_length e, lines_length entries)

pub text_length : (clock : Clock) (entries : List Entry) → length (text_of clock entries) ≤ 3 + 20 * length entries
text_length Three entries = omega (arith, lines_length entries)
text_length Four entries = omega (arith, lines_length entries, length-append (codes "T2\n") (lines_text entries))
