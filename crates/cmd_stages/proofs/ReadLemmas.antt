-- Reading the files one by one.
use Rattle.std.proofs.Common.{◌≡◌, ◌∙◌, sym, refl, ap, ℕ, ◌+◌, ◌<◌, ◌≤◌, List, [], ◌∷◌, ◌++◌, map, take, drop, length, get_or, Option, Some, None, Result, Ok, Err, IfSome, IsErrAnd, Contains}
use Rattle.std.proofs.lemmas.Option.{IfSome_then}
use Rattle.std.specs.declared.vec.Vec.{Vec}
use Rattle.std.specs.declared.alloc.Global.{Global}
use Rattle.std.proofs.lemmas.List.{map-append, drop_more, take_more, get_or-map, take-append-drop}
use Rattle.std.proofs.Math.ListN.{length-map}
use Rattle.std.specs.Borrow.{Bor}
use Rattle.beeb_files.specs.Files.{Files, bytes_of}
use Rattle.cmd_stages.specs.declared.stop.Stop.{Stop}
use Rattle.cmd_stages.specs.Plan.{Want, Inputs, within, read_all, AreWithin, ◌>>=◌}
use Rattle.cmd_stages.specs.Promise.{read_names}
use Rattle.cmd_stages.specs.View.{seen_want, seen_input}
use Rattle.cmd_stages.specs.Stages.{ReadsOne, ReadsAll}
use Rattle.beeb_files.specs.Shelf.{ShelfState}
use Rattle.cmd_stages.specs.declared.stop.Stop.TheVariants.{ReadFault, TooLong, NoMemory}

-- a result with the given error
pub err_is : {A C : Type 0} (r : Result A C) (e : C) → IsErrAnd r (λ given. given ≡ e) → r ≡ Err e
err_is (Ok x) e same = absurd same
err_is (Err given) e same = ap Err same

-- two statements about the files, if they are shown
told_both : {P Q R : Files → Type 0} (o : Option Files) → IfSome o P → IfSome o Q → ((files : Files) → P files → Q files → R files) → IfSome o R
told_both None p q f = tt
told_both (Some files) p q f = f files p q

bind_ok : {A C : Type 0} (r : Result (List A) C) → r ≡ (r >>= λ ys. Ok ([] ++ ys))
bind_ok (Ok x) = refl
bind_ok (Err s) = refl

in_front : {A C : Type 0} (x : A) (first second : Result (List A) C) →
    ((first >>= λ xs. second >>= λ ys. Ok (xs ++ ys)) >>= λ more. Ok (x ∷ more)) ≡ ((first >>= λ more. Ok (x ∷ more)) >>= λ xs. second >>= λ ys. Ok (xs ++ ys))
in_front x (Err s) second = refl
in_front x (Ok xs) (Err s) = refl
in_front x (Ok xs) (Ok ys) = refl

one_in_front : {K C : Type 0} (slot : K) (one : Result (List ℕ) C) (first second both : Result (Inputs K) C) → both ≡ (first >>= λ xs. second >>= λ ys. Ok (xs ++ ys)) →
    (one >>= λ bytes. both >>= λ more. Ok ((slot, bytes) ∷ more)) ≡ ((one >>= λ bytes. first >>= λ more. Ok ((slot, bytes) ∷ more)) >>= λ xs. second >>= λ ys. Ok (xs ++ ys))
one_in_front slot (Err s) first second both is = refl
one_in_front slot (Ok bytes) first second both is = rw is (in_front (slot, bytes) first second)

want_split : {K : Type 0} (ws : List (Want K)) (i : ℕ) (w : Want K) → i < length ws → get_or ws i w ≡ w → ws ≡ take i ws ++ w ∷ drop (i + 1) ws
want_split ws i w h is =
    let split : drop i ws ≡ w ∷ drop (i + 1) ws = rw is at (drop_more ws i w h) in sym (take-append-drop i ws) ∙ ap (λ rest. take i ws ++ rest) split

-- the first of the files were read
pub record AreRead {K : Type 0} (C : Type 0) (ws : List (Want K)) (i : ℕ) (got : Inputs K) (old mid : ShelfState) : Type 0 where
  pub files : mid.files ≡ old.files
  pub faults : mid.faults ≡ old.faults
  pub within : AreWithin (take i ws) got
  pub read : IfSome old.files (λ files. read_all {C = C} files (take i ws) ≡ Ok got)

module _ {K C : Type 0} where
  read_append : (files : Files) (front back : List (Want K)) →
      read_all {C = C} files (front ++ back) ≡ (read_all files front >>= λ xs. read_all files back >>= λ ys. Ok (xs ++ ys))
  read_append files [] back = bind_ok (read_all files back)
  read_append files (w ∷ ws) back =
      one_in_front w.0 (within w.1 w.2 (bytes_of files w.1)) (read_all files ws) (read_all files back) (read_all files (ws ++ back)) (read_append files ws back)

  read_more : (files : Files) (ws : List (Want K)) (w : Want K) (got : Inputs K) (bytes : List ℕ) →
      read_all {C = C} files ws ≡ Ok got → within {C = C} w.1 w.2 (bytes_of files w.1) ≡ Ok bytes → read_all {C = C} files (ws ++ w ∷ []) ≡ Ok (got ++ (w.0, bytes) ∷ [])
  read_more files ws w got bytes before one = rw (read_append files ws (w ∷ []), before, one)

  read_stop : (files : Files) (front : List (Want K)) (w : Want K) (rest : List (Want K)) (got : Inputs K) (s : Stop C) →
      read_all {C = C} files front ≡ Ok got → within {C = C} w.1 w.2 (bytes_of files w.1) ≡ Err s → read_all {C = C} files (front ++ w ∷ rest) ≡ Err s
  read_stop files front w rest got s before one = rw (read_append files front (w ∷ rest), before, one)

within_more : {K : Type 0} (ws : List (Want K)) (got : Inputs K) (w : Want K) (bytes : List ℕ) → AreWithin ws got → length bytes ≤ w.2 →
    AreWithin (ws ++ w ∷ []) (got ++ (w.0, bytes) ∷ [])
within_more [] [] w bytes all fits = (refl, fits, tt)
within_more [] (i ∷ is) w bytes all fits = absurd all
within_more (v ∷ ws) [] w bytes all fits = absurd all
within_more (v ∷ ws) (i ∷ is) w bytes all fits = (all.0, all.1, within_more ws is w bytes all.2 fits)

module _ {K C : Type 0} (wants : List (K × Bor (List ℕ) × ℕ)) (i : ℕ) (items : List (K × Vec ℕ Global)) (old mid new : ShelfState)
    (so_far : AreRead C (map (seen_want {K = K}) wants) i (map seen_input items) old mid) (h : i < length wants) (e : K × Bor (List ℕ) × ℕ) (is : e ≡ get_or wants i e) where
  abbrev ws : List (Want K)
  ws = map seen_want wants

  abbrev w : Want K
  w = seen_want e

  low : i < length ws
  low = rw length-map h

  here : get_or ws i w ≡ w
  here = get_or-map seen_want wants i e w h ∙ ap seen_want (sym is)

  wanted : Contains (read_names ws) w.1
  wanted = (i, rw length-map low, get_or-map (λ v. v.1) ws i w w.1 low ∙ ap (λ v. v.1) here)

  -- the stop at one file is that of all
  pub read_stopped : (s : Stop C) → ReadsOne w.1 w.2 mid new (Err s) → ReadsAll {K = K} ws old new (Err s)
  read_stopped (ReadFault who) one = record {
    wanted = rw one.0 wanted;
    rose = rw (one.0, ← so_far.faults) one.1;
    reached = IfSome_then old.files so_far.read (λ told read. (take i ws, w, drop (i + 1) ws, map seen_input items, want_split ws i w low here, sym one.0, read));
  }
  read_stopped (TooLong who) one = record {
    wanted = rw one.0 wanted;
    told = told_both old.files so_far.read (rw so_far.files at one.1) (λ told read t.
        (rw (one.0, ← so_far.faults) t.0, rw (one.0, want_split ws i w low here) (read_stop told (take i ws) w (drop (i + 1) ws) (map seen_input items) (TooLong w.1) read t.1)));
  }
  read_stopped NoMemory one = tt
  read_stopped stop one = absurd one

  -- one file more
  pub read_further : (v : Vec ℕ Global) → new.files ≡ mid.files → ReadsOne {C = C} w.1 w.2 mid new (Ok v) → AreRead C ws (i + 1) (map seen_input (items ++ (e.0, v) ∷ [])) old new
  read_further v files one =
      let front : take (i + 1) ws ≡ take i ws ++ w ∷ [] = rw here at (take_more ws i w low) in
      let got : map seen_input (items ++ (e.0, v) ∷ []) ≡ map seen_input items ++ (e.0, v.items) ∷ [] = map-append seen_input items ((e.0, v) ∷ []) in
      record {
        files = files ∙ so_far.files;
        faults = one.0 ∙ so_far.faults;
        within = rw (front, got) (within_more _ _ w v.items so_far.within one.1);
        read = told_both old.files so_far.read (rw so_far.files at one.2) (λ told before bytes. rw (front, got) (read_more told _ w _ v.items before bytes));
      }
