-- The instructions without an operand in memory, by the definition's list of accesses.
use Rattle.std.proofs.Common.{◌≡◌, ◌≢◌, ℕ, suc, ◌+◌, ◌/◌, ◌%◌, List, [], ◌∷◌, length, Bool, true, false, cond, eqb, Option, Some, None}
use Rattle.std.proofs.Common.{slice_get, refl, sym, ap, ◌∙◌, arith}
use Rattle.op_table.specs.declared.names.Part.{Part}
use Rattle.op_table.specs.declared.names.Part.TheVariants.{Nmos, Cmos}
use Rattle.op_table.specs.declared.names.Mode.{Mode}
use Rattle.op_table.specs.declared.names.Mode.TheVariants.{Acc, Abs, Ind, IndAbsX, Spare}
use Rattle.op_table.specs.declared.rows.Row.{Row}
use Rattle.cpu_alu.specs.declared.Regs.{Regs}
use Rattle.cpu_alu.specs.declared.Cycle.{Cycle}
use Rattle.cpu_alu.specs.declared.Cycle.TheVariants.{Read, Write}
use Rattle.cpu_alu.specs.declared.uses.BusUse.{BusUse}
use Rattle.cpu_alu.specs.declared.uses.BusUse.TheVariants.{Implied, Pushes, Pulls, Branches, Jumps, Calls, Returns}
use Rattle.cpu_alu.specs.declared.flags.TheConstants.{INTERRUPT}
use Rattle.cpu_alu.specs.Flags.{has_flag}
use Rattle.cpu_alu.specs.Addresses.{word, wrap, place, stack, target, with_pc_past, with_stack_moved}
use Rattle.cpu_alu.specs.Instructions.{bus_use, takes_branch, pushed_value, modify_result, implied_result, pull_result}
use Rattle.cpu_core.specs.Accesses.{byte, by_part, row_at, idle, with_low, second, through, implied_form, operand, form}
use Rattle.cpu_core.specs.Results.{after_row}
use Rattle.cpu_whole.specs.Whole.{Reach, IsPlain, AreRead, IsDone}
use Rattle.cpu_whole.specs.CodeWays.{Follows, IsModifying, IsPointer, moves_i, pulls_flags}
use Rattle.cpu_whole.proofs.Cycles.{behind, from_fetch}
use Rattle.cpu_whole.proofs.Operands.{idle_read}
use Rattle.cpu_whole.proofs.Masks.{modify_kept, implied_kept, pull_kept}

on_stack : {M : Type 0} {g : Reach M} → IsPlain g → (r : Regs) (k : ℕ) → g.reads (stack r k) ≡ true
on_stack lawful r k = lawful.low_read (stack r k) (omega arith)

module _ {M : Type 0} {g : Reach M} {t : ℕ} {part : Part} {row : Row} {r : Regs} {m : M} (runs : AreRead g r.pc) (decoded : row_at part (g.byte m r.pc) ≡ Some row) where
  -- by the list of its accesses after that of the opcode
  by_list : {uses : BusUse} → bus_use row.mnemonic ≡ uses → (list : List (Option ℕ) → List Cycle)
      → ((f : List (Option ℕ)) → form part uses row r (Some (g.byte m r.pc) ∷ f) ≡ list f)
      → (k : ℕ) (last : List (Option ℕ)) {there : M} → Follows g t (λ f. slice_get (list f) (length f)) k [] m last there → slice_get (list last) (length last) ≡ None
      → {n : ℕ} {new : Regs} → n ≡ suc k → new ≡ after_row part uses row r (Some (g.byte m r.pc) ∷ last)
      → has_flag (after_row part uses row r (Some (g.byte m r.pc) ∷ last)).p INTERRUPT ≡ has_flag r.p INTERRUPT → IsDone part g t r m n new there
  by_list {uses} is_use list forms k last {there} follows past count is kept =
      let same : (f : List (Option ℕ))
      → slice_get (form part (bus_use row.mnemonic) row r (Some (g.byte m r.pc) ∷ f)) (length f) ≡ slice_get (list f) (length f) = λ f. rw (is_use, forms f) in
      record {
        last = behind r (g.byte m r.pc) last;
        carried = from_fetch g t part row r m runs.first decoded (λ f. slice_get (list f) (length f)) same k last there follows count;
        over = rw (decoded, is_use, forms last) past;
        regs = rw (decoded, is_use) (sym is);
        masks = ap (λ (q : Regs). has_flag q.p INTERRUPT) is ∙ kept;
      }

  pub implied : bus_use row.mnemonic ≡ Implied → row.mode ≢ Spare → moves_i row.mnemonic ≡ false
      → {new : Regs} → new ≡ implied_result row.mnemonic (with_pc_past r row.bytes) → IsDone part g t r m 2 new m
  implied uses apart fixed is =
      by_list uses (λ f. Read (place r 1) ∷ []) (λ f. by row.mode apart) 1 _ (runs.second, (refl, refl)) refl refl is (implied_kept row.mnemonic (with_pc_past r row.bytes) fixed)
    where
      by : (way : Mode) → way ≢ Spare → implied_form row way r ≡ Read (place r 1) ∷ []
      by Spare h = absurd (h refl)
      by _ h = refl

  pub accumulator : {always : Bool} → IsModifying part row always → row.mode ≡ Acc
      → {new : Regs} (x : ℕ) → new ≡ modify_result row.mnemonic Acc (with_pc_past r row.bytes) x → IsDone part g t r m 2 new m
  accumulator {always} uses acc x is =
      let last : List (Option ℕ) = Some (g.byte m (place r 1)) ∷ [] in
      let result = uses.results r (Some (g.byte m r.pc) ∷ last)
      ∙ ap (λ way. modify_result row.mnemonic way (with_pc_past r row.bytes) (operand part row.mode always r (Some (g.byte m r.pc) ∷ last))) acc in
      by_list refl (λ f. Read (place r 1) ∷ [])
      (λ f. uses.forms r (Some (g.byte m r.pc) ∷ f) ∙ rw acc) 1 _ (runs.second, (refl, refl)) refl refl (is ∙ sym result)
      (ap (λ (q : Regs). has_flag q.p INTERRUPT) result ∙ modify_kept row.mnemonic Acc (with_pc_past r row.bytes) x)

  -- a branch that is not taken
  pub branch_past : bus_use row.mnemonic ≡ Branches → takes_branch row.mnemonic r ≡ false → {new : Regs} → new ≡ record r { pc = place r 2 } → IsDone part g t r m 2 new m
  branch_past uses taken is = by_list uses (λ f. Read (place r 1) ∷ []) (λ f. rw taken) 1 _ (runs.second, (refl, refl)) refl refl (rw taken is) refl

  -- one that is, in the page or into another
  pub branch_taken : (near : Bool) → bus_use row.mnemonic ≡ Branches → takes_branch row.mnemonic r ≡ true → eqb (target r (g.byte m (place r 1)) / 256) (place r 2 / 256) ≡ near
      → (near ≡ false → g.reads (idle part (with_low (place r 2) (target r (g.byte m (place r 1)))) (place r 1)) ≡ true)
      → {new : Regs} → new ≡ record r { pc = target r (g.byte m (place r 1)) } → IsDone part g t r m (cond near 3 4) new m
  branch_taken near uses taken is_near idles {new} is =
      by near is_near idles
    where
      list : List (Option ℕ) → List Cycle
      list f =
          let to : ℕ = target r (byte (Some (g.byte m r.pc) ∷ f) 1) in
          Read (place r 1) ∷ Read (idle part (place r 2) (place r 1)) ∷ cond (eqb (to / 256) (place r 2 / 256)) [] (Read (idle part (with_low (place r 2) to) (place r 1)) ∷ [])

      still : g.reads (idle part (place r 2) (place r 1)) ≡ true
      still = idle_read g part _ _ runs.third runs.second

      last : List (Option ℕ)
      last = Some (g.byte m (place r 1)) ∷ Some (g.byte m (idle part (place r 2) (place r 1))) ∷ Some (g.byte m (idle part (with_low (place r 2) (target r (g.byte m (place r 1)))) (place r 1))) ∷ []

      by : (near : Bool) → eqb (target r (g.byte m (place r 1)) / 256) (place r 2 / 256) ≡ near
          → (near ≡ false → g.reads (idle part (with_low (place r 2) (target r (g.byte m (place r 1)))) (place r 1)) ≡ true) → IsDone part g t r m (cond near 3 4) new m
      by true there idles = by_list uses list (λ f. rw taken) 2 _ (runs.second, (still, (refl, refl))) (rw there) refl (rw taken is) refl
      by false there idles = by_list uses list (λ f. rw taken) 3 last (runs.second, (still, rw there (idles refl, (refl, refl)))) (rw there) refl (rw taken is) refl

  pub jumped : bus_use row.mnemonic ≡ Jumps → row.mode ≡ Abs
      → {new : Regs} → new ≡ record r { pc = word (g.byte m (place r 1)) (g.byte m (place r 2)) } → IsDone part g t r m 3 new m
  jumped uses way is = by_list uses (λ f. Read (place r 1) ∷ Read (place r 2) ∷ []) (λ f. rw way) 2 _ (runs.second, (runs.third, (refl, refl))) refl refl (rw way is) refl

  module _ (lawful : IsPlain g) where
    -- JSR
    pub called : bus_use row.mnemonic ≡ Calls
        → {new : Regs} {there : M} → there ≡ g.put (g.put m t 3 (stack r 0) (place r 2 / 256)) t 4 (stack r 255) (place r 2 % 256)
        → new ≡ record (with_stack_moved r 254) { pc = word (g.byte m (place r 1)) (g.byte there (place r 2)) } → IsDone part g t r m 6 new there
    called uses put is =
        by_list uses (λ f. Read (place r 1) ∷ Read (stack r 0) ∷ Write (stack r 0) (place r 2 / 256) ∷ Write (stack r 255) (place r 2 % 256) ∷ Read (place r 2) ∷ []) (λ f. refl) 5 _
        (runs.second, (on_stack lawful r 0, (lawful.low_written (stack r 0) (omega arith), (lawful.low_written (stack r 255) (omega arith), (runs.third, (refl, sym put))))))
        refl refl (rw put at is) refl

    -- RTS
    pub returned : bus_use row.mnemonic ≡ Returns → g.reads (word (g.byte m (stack r 1)) (g.byte m (stack r 2))) ≡ true
        → {new : Regs} → new ≡ record (with_stack_moved r 2) { pc = wrap (word (g.byte m (stack r 1)) (g.byte m (stack r 2)) + 1) } → IsDone part g t r m 6 new m
    returned uses s is =
        let list : List (Option ℕ) → List Cycle = λ f.
        Read (place r 1) ∷ Read (stack r 0) ∷ Read (stack r 1) ∷ Read (stack r 2) ∷ Read (word (byte (Some (g.byte m r.pc) ∷ f) 3) (byte (Some (g.byte m r.pc) ∷ f) 4)) ∷ [] in
        by_list uses list (λ f. refl) 5 _ (runs.second, (on_stack lawful r 0, (on_stack lawful r 1, (on_stack lawful r 2, (s, (refl, refl)))))) refl refl is refl

    pub pushed : bus_use row.mnemonic ≡ Pushes
        → {new : Regs} {there : M} → there ≡ g.put m t 2 (stack r 0) (pushed_value row.mnemonic r) → new ≡ with_stack_moved (with_pc_past r row.bytes) 255 → IsDone part g t r m 3 new there
    pushed uses put is =
        by_list uses (λ f. Read (place r 1) ∷ Write (stack r 0) (pushed_value row.mnemonic r) ∷ []) (λ f. refl) 2 _
        (runs.second, (lawful.low_written (stack r 0) (omega arith), (refl, sym put))) refl refl is refl

    pub pulled : bus_use row.mnemonic ≡ Pulls → pulls_flags row.mnemonic ≡ false
        → {new : Regs} → new ≡ pull_result row.mnemonic (with_stack_moved (with_pc_past r row.bytes) 1) (g.byte m (stack r 1)) → IsDone part g t r m 4 new m
    pulled uses fixed is =
        by_list uses (λ f. Read (place r 1) ∷ Read (stack r 0) ∷ Read (stack r 1) ∷ []) (λ f. refl) 3 _ (runs.second, (on_stack lawful r 0, (on_stack lawful r 1, (refl, refl)))) refl refl is
        (pull_kept row.mnemonic (with_stack_moved (with_pc_past r row.bytes) 1) (g.byte m (stack r 1)) fixed)

-- JMP through a pointer
module _ {M : Type 0} {g : Reach M} {t : ℕ} {row : Row} {r : Regs} {m : M} (runs : AreRead g r.pc) where
  pub jumped_through : (part : Part) {at : ℕ} → row_at part (g.byte m r.pc) ≡ Some row → bus_use row.mnemonic ≡ Jumps → IsPointer part row.mode g r m at
      → g.reads at ≡ true → g.reads (second part at) ≡ true
      → {k : ℕ} {new : Regs} → k ≡ by_part part 5 6 → new ≡ record r { pc = word (g.byte m at) (g.byte m (second part at)) } → IsDone part g t r m k new m
  jumped_through Nmos {at} decoded uses there a b count is =
      let op : ℕ = g.byte m r.pc in
      let last : List (Option ℕ) = Some (g.byte m (place r 1)) ∷ Some (g.byte m (place r 2)) ∷ Some (g.byte m at) ∷ Some (g.byte m (second Nmos at)) ∷ [] in
      let list : List (Option ℕ) → List Cycle = λ f. Read (place r 1) ∷ Read (place r 2) ∷ through Nmos (there.pointer (Some op ∷ f)) (place r 2) in
      by_list runs decoded uses list (λ f. there.forms (Some op ∷ f)) 4 last
      (runs.second, (runs.third, rw (there.found [], there.found (Some (g.byte m at) ∷ [])) (a, (b, (refl, refl))))) refl count (rw (there.targets (Some op ∷ last)) is) refl
  jumped_through Cmos {at} decoded uses there a b count is =
      let op : ℕ = g.byte m r.pc in
      let again : Option ℕ = Some (g.byte m (place r 2)) in
      let last : List (Option ℕ) = Some (g.byte m (place r 1)) ∷ again ∷ again ∷ Some (g.byte m at) ∷ Some (g.byte m (second Cmos at)) ∷ [] in
      let list : List (Option ℕ) → List Cycle = λ f. Read (place r 1) ∷ Read (place r 2) ∷ through Cmos (there.pointer (Some op ∷ f)) (place r 2) in
      by_list runs decoded uses list (λ f. there.forms (Some op ∷ f)) 5 last
      (runs.second, (runs.third, (runs.third, rw (there.found (again ∷ []), there.found (again ∷ Some (g.byte m at) ∷ [])) (a, (b, (refl, refl)))))) refl count
      (rw (there.targets (Some op ∷ last)) is) refl

-- the pointers
module _ {M : Type 0} {g : Reach M} {part : Part} {way : Mode} {r : Regs} {m : M} {at : ℕ} where
  pub pointer_absolute : way ≡ Ind → at ≡ word (g.byte m (place r 1)) (g.byte m (place r 2)) → IsPointer part way g r m at
  pointer_absolute is found = rw is (record { pointer = λ f. word (byte f 1) (byte f 2); forms = λ f. refl; targets = λ f. refl; found = λ f. sym found })

  pub pointer_with_x : way ≡ IndAbsX → at ≡ wrap (word (g.byte m (place r 1)) (g.byte m (place r 2)) + r.x) → IsPointer part way g r m at
  pointer_with_x is found = rw is (record { pointer = λ f. wrap (word (byte f 1) (byte f 2) + r.x); forms = λ f. refl; targets = λ f. refl; found = λ f. sym found })
