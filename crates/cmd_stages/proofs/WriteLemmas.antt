-- Putting files one by one.
use Rattle.std.proofs.Common.{◌≡◌, ◌∙◌, sym, refl, ap, ℕ, ◌+◌, ◌<◌, ◌≤◌, List, [], ◌∷◌, ◌++◌, map, take, drop, length, get_or, Option, Result, Err, arith, zero, suc, inl}
use Rattle.std.proofs.lemmas.List.{drop_more, take_more, get_or-map, take-append-drop}
use Rattle.std.proofs.Math.ListN.{length-map}
use Rattle.beeb_files.specs.Files.{Files, put, IsPartPut}
use Rattle.beeb_files.specs.Counts.{Rose}
use Rattle.beeb_files.specs.Outlet.{OutletState, NoCountFell}
use Rattle.cmd_stages.specs.declared.stop.Stop.{Stop}
use Rattle.cmd_stages.specs.declared.stop.Stop.TheVariants.{WriteFault, NoMemory}
use Rattle.cmd_stages.specs.Stages.{PutsOne, PutsAll}
use Rattle.cmd_stages.specs.Promise.{put_all, IsCutAtFile}

-- the first of the files were put, and no more
pub record ArePut (fs : List (List ℕ × List ℕ)) (i : ℕ) (old mid : OutletState) : Type 0 where
  pub files : mid.files ≡ put_all (take i fs) old.files
  pub said : mid.said ≡ old.said
  pub fell : NoCountFell old mid

put_all-push : (fs : List (List ℕ × List ℕ)) (f : List ℕ × List ℕ) (files : Option Files) → put_all (fs ++ f ∷ []) files ≡ put f.0 f.1 (put_all fs files)
put_all-push [] f files = refl
put_all-push (e ∷ fs) f files = put_all-push fs f (put e.0 e.1 files)

no_count_fell : (old mid new : OutletState) → NoCountFell old mid → NoCountFell mid new → NoCountFell old new
no_count_fell old mid new a b = record {
  names = λ name. let p : old.faults name ≤ mid.faults name = a.names name in let q : mid.faults name ≤ new.faults name = b.names name in omega arith;
  say = let p : old.say_faults ≤ mid.say_faults = a.say in let q : mid.say_faults ≤ new.say_faults = b.say in omega arith;
}

itself_at : (fs : List (List ℕ × List ℕ)) (i : ℕ) (d : List ℕ × List ℕ) → i < length fs → get_or fs i (get_or fs i d) ≡ get_or fs i d
itself_at [] i d h = absurd (omega (arith, h))
itself_at (f ∷ fs) zero d h = refl
itself_at (f ∷ fs) (suc i) d h = itself_at fs i d (omega arith)

module _ (fs : List (List ℕ × List ℕ)) (i : ℕ) (f : List ℕ × List ℕ) (old mid new : OutletState) (puts : ArePut fs i old mid) (h : i < length fs) (is : get_or fs i f ≡ f) where
  cut_at : IsPartPut f.0 f.1 mid.files new.files → new.said ≡ mid.said → IsCutAtFile f.0 fs old new
  cut_at part stays = record {
    front = take i fs;
    bytes = f.1;
    rest = drop (i + 1) fs;
    place = sym (take-append-drop i fs) ∙ ap (λ xs. take i fs ++ xs) (rw is at (drop_more fs i f h));
    files = rw puts.files at part;
    said = stays ∙ puts.said;
  }

  -- the stop at one file is that of all
  stopped_at : {C : Type 0} (s : Stop C) → PutsOne f.0 f.1 mid new (Err s) → PutsAll fs old new (Err s)
  stopped_at (WriteFault who) one =
      let rose : Rose (old.faults f.0) (new.faults f.0) = let le = puts.fell.names f.0 in let more = one.1 in omega arith in
      rw one.0 ((i, rw length-map h, get_or-map (λ m. m.0) fs i f f.0 h ∙ ap (λ m. m.0) is), rose, cut_at one.2 one.3)
  stopped_at NoMemory one = (f.0, cut_at one.0 one.1)
  stopped_at stop one = absurd one

-- one file under an equal name and with equal bytes
pub puts_named : {C : Type 0} (name bytes told_name told_bytes : List ℕ) (old new : OutletState) (r : Result (Unit {0}) (Stop C)) → told_name ≡ name → told_bytes ≡ bytes →
    PutsOne told_name told_bytes old new r → PutsOne name bytes old new r
puts_named name bytes told_name told_bytes old new r named held one = rw (← named, ← held) one

-- the file of the output at a place
module _ {L O : Type 0} (file_of : L → O → List ℕ × List ℕ) (left : L) (outputs : List O) {i : ℕ} {old mid : OutletState} (puts : ArePut (map (file_of left) outputs) i old mid)
    (h : i < length outputs) where
  abbrev fs : List (List ℕ × List ℕ)
  fs = map (file_of left) outputs

  low : i < length fs
  low = rw length-map h

  file_at : (o : O) (f : List ℕ × List ℕ) → o ≡ get_or outputs i o → f ≡ file_of left o → get_or fs i f ≡ f
  file_at o f is made = get_or-map (file_of left) outputs i o f h ∙ ap (file_of left) (sym is) ∙ sym made

  -- there was no memory before it was put
  pub puts_wanting : (C : Type 0) → PutsAll {C = C} fs old mid (Err NoMemory)
  puts_wanting C = let f : List ℕ × List ℕ = get_or fs i ([], []) in (f.0, cut_at fs i f old mid mid puts low (itself_at fs i ([], []) low) (inl refl) refl)

  -- it was put in part at most
  pub puts_stopped : {C : Type 0} (o : O) (f : List ℕ × List ℕ) (new : OutletState) → o ≡ get_or outputs i o → f ≡ file_of left o → (s : Stop C) →
      PutsOne f.0 f.1 mid new (Err s) → PutsAll fs old new (Err s)
  puts_stopped o f new is made s one = stopped_at fs i f old mid new puts low (file_at o f is made) s one

  -- it was put
  pub puts_more : (o : O) (f : List ℕ × List ℕ) (new : OutletState) → o ≡ get_or outputs i o → f ≡ file_of left o → new.files ≡ put f.0 f.1 mid.files → new.said ≡ mid.said →
      NoCountFell mid new → ArePut fs (i + 1) old new
  puts_more o f new is made files said fell = record {
    files = files ∙ rw (puts.files, take_more fs i f low, file_at o f is made, put_all-push (take i fs) f old.files);
    said = said ∙ puts.said;
    fell = no_count_fell old mid new puts.fell fell;
  }
