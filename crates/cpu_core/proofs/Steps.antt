-- A phase that is tied to the cycles seen, and continues, stays tied.
use Rattle.std.proofs.Common.{◌≡◌, ◌↔◌, IsSome, IsNone, ℕ, zero, suc, List, [], ◌∷◌, ◌++◌, length, drop, Bool, true, false, ◌&&◌, Option, Some}
use Rattle.std.proofs.Common.{is_none, slice_get, inl, inr, refl, sym, ap, ◌∙◌, arith, append_assoc, length-append}
use Rattle.std.proofs.lemmas.List.{append-nil, drop-drop}
use Rattle.op_table.specs.declared.names.Part.{Part}
use Rattle.op_table.specs.declared.names.Part.TheVariants.{Nmos, Cmos}
use Rattle.cpu_alu.specs.declared.Cycle.{Cycle}
use Rattle.cpu_core.specs.declared.Sequence.{Sequence}
use Rattle.cpu_core.specs.State.{State}
use Rattle.cpu_core.specs.Accesses.{row_at}
use Rattle.cpu_core.specs.Sequences.{accesses, next_cycle, shown_byte, halts, halted, after_byte, is_start, after, HasEnded}
use Rattle.cpu_core.specs.declared.progress.Progress.{Progress}
use Rattle.cpu_core.specs.declared.progress.Phase.{Phase}
use Rattle.cpu_core.specs.declared.progress.Phase.TheVariants.{Opcode, Halted, Over}
use Rattle.cpu_core.specs.CodePhases.{cycles_left, cycles_left_in, outcome, wants, wants_in, is_fetch, is_stuck}
use Rattle.cpu_core.specs.CodeTies.{Tied, GoesOn, StepsWhere, Steps, first}

-- the n-th element is the first of those left from n on
slice_get-first : (l : List Cycle) (n : ℕ) → slice_get l n ≡ first (drop n l)
slice_get-first [] zero = refl
slice_get-first [] (suc n) = refl
slice_get-first (a ∷ l) zero = refl
slice_get-first (a ∷ l) (suc n) = slice_get-first l n

-- the cycle that reads an opcode shows it
fetch-shows : (k : Phase) (part : Part) (m : Progress) (b : ℕ) → is_fetch k ≡ true → shown_byte (first (cycles_left_in part k m [])) b ≡ Some b
fetch-shows Opcode part m b e = refl
fetch-shows _ part m b e = cc

not_start : (seen : List (Option ℕ)) (x : Option ℕ) (sequence : Sequence) → is_start (seen ++ x ∷ []) sequence ≡ false
not_start [] x sequence = refl
not_start (y ∷ seen) x sequence = refl

-- only an opcode halts it
halts-first : (part : Part) (sequence : Sequence) (x : Option ℕ) (b : ℕ) → (is_start [] sequence ≡ true → x ≡ Some b)
    → halts (x ∷ []) part sequence ≡ (is_start [] sequence && is_none (row_at part b))
halts-first part sequence x b h = grind arith

halts-more : (x y : Option ℕ) (seen : List (Option ℕ)) (part : Part) (sequence : Sequence) → halts (x ∷ y ∷ seen) part sequence ≡ false
halts-more x y seen part sequence = grind arith

halts-step : (seen : List (Option ℕ)) (part : Part) (sequence : Sequence) (x : Option ℕ) (b : ℕ) → (is_start seen sequence ≡ true → x ≡ Some b)
    → halts (seen ++ x ∷ []) part sequence ≡ (is_start seen sequence && is_none (row_at part b))
halts-step [] part sequence x b h = halts-first part sequence x b h
halts-step (y ∷ []) part sequence x b h = halts-more y x [] part sequence
halts-step (y ∷ z ∷ seen) part sequence x b h = halts-more y z (seen ++ x ∷ []) part sequence

-- the 65C02 never halts
halts-cmos : (seen : List (Option ℕ)) (sequence : Sequence) → halts seen Cmos sequence ≡ false
halts-cmos seen sequence = grind arith

halted-halts : (part : Part) (s : State) → halts s.seen part s.sequence ≡ halted part s
halted-halts Nmos s = refl
halted-halts Cmos s = halts-cmos s.seen s.sequence

over_wants : (k : Phase) (m : Progress) → (k ≡ Over) ↔ IsNone (wants_in k m)
over_wants Over m = (λ e. refl, λ n. refl)
over_wants _ m = (λ e. cc, λ n. cc)

stuck-is : (k : Phase) → is_stuck k ≡ true → k ≡ Halted
stuck-is Halted e = refl
stuck-is _ e = cc

-- a cycle leaves the registers at the start alone
pub regs-after_byte : (part : Part) (s : State) (b : ℕ) → (after_byte part s b).regs ≡ s.regs
regs-after_byte part s b = grind arith

module _ {part : Part} {m : Progress} {s : State} (t : Tied part m s) where
  -- the next access is that in progress
  pub next_cycle-tied : next_cycle part s ≡ wants m
  next_cycle-tied =
      slice_get-first (accesses part s.sequence s.regs s.seen) (length s.seen) ∙ ap first (rw append-nil at (t.accesses_left [])) ∙ sym t.wanted

  pub over_iff : (m.phase ≡ Over) ↔ IsNone (next_cycle part s)
  over_iff = rw next_cycle-tied (over_wants m.phase m)

  pub not_over : IsSome (next_cycle part s) → m.phase ≡ Over → ⊥
  not_over h e = let n : IsNone (next_cycle part s) = over_iff.0 e in cc

  pub stuck-tied : is_stuck m.phase ≡ halted part s
  stuck-tied = t.stuck ∙ halted-halts part s

  -- the registers at the end are those that are worked on
  work-over : outcome part m [] ≡ m.work → m.work ≡ after part s
  work-over e = sym (rw append-nil at (t.end []) ∙ e)

  pub end-tied : HasEnded part s → m.work ≡ after part s
  end-tied (inl n) = let k : m.phase ≡ Over = over_iff.1 n in work-over (rw k refl)
  end-tied (inr h) = let k : m.phase ≡ Halted = stuck-is m.phase (stuck-tied ∙ h) in work-over (rw k refl)

  -- A phase that continues keeps the tie: a write shows nothing, for any byte that it was given.
  tied-step : {then : Progress} {b : ℕ} → GoesOn part m b then → Tied part then (record s { seen = s.seen ++ shown_byte (next_cycle part s) b ∷ [] })
  tied-step {then} {b} g =
      let x : Option ℕ = shown_byte (first (cycles_left part m [])) b in
      rw (next_cycle-tied, t.wanted) record {
        accesses_left = λ f. rw (append_assoc, length-append, ← drop-drop 1 (length s.seen) _, t.accesses_left (x ∷ f)) (g.accesses_left f);
        end = λ f. rw append_assoc (t.end (x ∷ f) ∙ g.end f);
        wanted = g.wanted;
        fetch = g.fetch ∙ sym (not_start s.seen x s.sequence);
        stuck = g.stuck ∙ rw t.fetch (sym (halts-step s.seen part s.sequence x b (λ e. fetch-shows m.phase part m b (t.fetch ∙ e))));
      }

  tied-by : {then : Progress} (b : ℕ) (stuck : Bool) → stuck ≡ halted part s → StepsWhere stuck part m b then → Tied part then (after_byte part s b)
  tied-by b true e stays = rw (stays, ← e) t
  tied-by b false e goes_on = rw (← e) (tied-step goes_on)

  -- a step keeps it too: a halted part keeps its phase
  pub tied-after_byte : {then : Progress} (b : ℕ) → Steps part m b then → Tied part then (after_byte part s b)
  tied-after_byte b g = tied-by b (is_stuck m.phase) stuck-tied g
