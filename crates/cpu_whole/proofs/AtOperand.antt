-- The accesses at the operand, for all modes.
use Rattle.std.proofs.Common.{◌≡◌, ◌≢◌, ℕ, suc, ◌+◌, List, [], ◌∷◌, ◌++◌, length, Bool, true, false, Option, Some, None, slice_get}
use Rattle.std.proofs.Common.{refl, sym, ap, ◌∙◌, arith, append_assoc, length-append}
use Rattle.std.proofs.lemmas.List.{append-nil}
use Rattle.op_table.specs.declared.names.Part.{Part}
use Rattle.op_table.specs.declared.names.Part.TheVariants.{Nmos, Cmos}
use Rattle.op_table.specs.declared.names.Mode.{Mode}
use Rattle.op_table.specs.declared.names.Mode.TheVariants.{Acc}
use Rattle.op_table.specs.declared.names.Mnemonic.{Mnemonic}
use Rattle.op_table.specs.declared.names.Mnemonic.TheVariants.{Adc, Asl, Sbc}
use Rattle.op_table.specs.declared.rows.Row.{Row}
use Rattle.cpu_alu.specs.declared.Regs.{Regs}
use Rattle.cpu_alu.specs.declared.Cycle.{Cycle}
use Rattle.cpu_alu.specs.declared.Cycle.TheVariants.{Read, Write}
use Rattle.cpu_alu.specs.declared.uses.BusUse.{BusUse}
use Rattle.cpu_alu.specs.declared.uses.BusUse.TheVariants.{Reads, Stores}
use Rattle.cpu_alu.specs.declared.flags.TheConstants.{INTERRUPT}
use Rattle.cpu_alu.specs.Flags.{has_flag}
use Rattle.cpu_alu.specs.Addresses.{with_pc_past}
use Rattle.cpu_alu.specs.Instructions.{bus_use, is_decimal, stored_value, modified_value, read_result, modify_result}
use Rattle.cpu_core.specs.declared.Sequence.TheVariants.{Instruction}
use Rattle.cpu_core.specs.Accesses.{row_at, waits, reach, address, operand, lasts_longer, cycle_between, modify_form, form}
use Rattle.cpu_core.specs.Results.{after_row}
use Rattle.cpu_core.specs.Sequences.{shown_byte, next_cycle, after_byte, after, fresh}
use Rattle.cpu_whole.specs.Whole.{Reach, IsPlain, IsDone, Carried, is_plain, shows, leaves}
use Rattle.cpu_whole.specs.CodeWays.{Follows, IsReached, IsModifying, on_the_way, more_by}
use Rattle.cpu_whole.specs.Outside.{IsOutside, CanTakeIn, access_of, adds, outcome}
use Rattle.cpu_whole.specs.declared.outside.LastAccess.{LastAccess}
use Rattle.cpu_whole.proofs.Cycles.{behind, on, from_fetch, more_by-suc, byte-seam, beyond}
use Rattle.cpu_whole.proofs.Masks.{read_kept, modify_kept}

-- no sum is decimal but those
pub no-sum : (name : Mnemonic) (r : Regs) → adds name ≡ false → is_decimal name r ≡ false
no-sum Adc r h = cc
no-sum Sbc r h = cc
no-sum _ r h = refl

-- at the operand
module _ {part : Part} {M : Type 0} {g : Reach M} {t : ℕ} {way : Mode} {always : Bool} {r : Regs} {m : M} {at n : ℕ} (reached : IsReached part g t way always r m at n) where
  -- the next access there, and after it
  next-there : (tail : List (Option ℕ) → List Cycle) (rest : List (Option ℕ)) (j : ℕ) → length rest ≡ j
      → on_the_way part way always r (g.byte m r.pc) tail (reached.seen ++ rest) ≡ slice_get (tail (reached.seen ++ rest)) j
  next-there tail rest j h =
      beyond (reach part way always r (Some (g.byte m r.pc) ∷ reached.seen ++ rest)) (tail (reached.seen ++ rest)) (length reached.seen) j (length (reached.seen ++ rest))
      (reached.steps rest) (omega (arith, h, length-append reached.seen rest))

  next-first : (tail : List (Option ℕ) → List Cycle) → on_the_way part way always r (g.byte m r.pc) tail reached.seen ≡ slice_get (tail reached.seen) 0
  next-first tail = rw (append-nil reached.seen) at (next-there tail [] 0 refl)

  found-first : address way r (Some (g.byte m r.pc) ∷ reached.seen) ≡ at
  found-first = rw (append-nil reached.seen) at (reached.found [])

  -- the operand's byte
  operand-there : (x : ℕ) (rest : List (Option ℕ)) → operand part way always r (Some (g.byte m r.pc) ∷ reached.seen ++ Some x ∷ rest) ≡ x
  operand-there x rest = byte-seam reached.seen rest (g.byte m r.pc) x (length (reach part way always r (Some (g.byte m r.pc) ∷ reached.seen ++ Some x ∷ rest))) (reached.steps (Some x ∷ rest))

-- an instruction whose accesses after the opcode are those of its mode, and then a list
module _ {part : Part} {M : Type 0} {g : Reach M} {t : ℕ} {row : Row} {always : Bool} {r : Regs} {m : M} {at n : ℕ} (p : g.reads r.pc ≡ true) (decoded : row_at part (g.byte m r.pc) ≡ Some row)
    (reached : IsReached part g t row.mode always r m at n) {uses : BusUse} (is_use : bus_use row.mnemonic ≡ uses) (tail : List (Option ℕ) → List Cycle)
    (forms : (f : List (Option ℕ)) → slice_get (form part uses row r (Some (g.byte m r.pc) ∷ f)) (length f) ≡ on_the_way part row.mode always r (g.byte m r.pc) tail f) where
  abbrev code : ℕ
  code = g.byte m r.pc

  abbrev next : List (Option ℕ) → Option Cycle
  next = on_the_way part row.mode always r code tail

  same : (f : List (Option ℕ)) → slice_get (form part (bus_use row.mnemonic) row r (Some code ∷ f)) (length f) ≡ next f
  same f = rw is_use (forms f)

  next-is : (f : List (Option ℕ)) → next_cycle part (behind r code f) ≡ next f
  next-is f = rw decoded (same f)

  -- the first j accesses of that list
  so-far : (j : ℕ) (last : List (Option ℕ)) (there : M) → Follows g t next j reached.seen m last there → {k : ℕ} → k ≡ n + j
      → Carried g t part k (fresh Instruction r) m (behind r code last) there
  so-far j last there follows count =
      from_fetch g t part row r m p decoded next same (more_by reached.seen j) last there (reached.goes tail j last there follows) (omega (arith, more_by-suc reached.seen j, reached.count, count))

  -- all of it
  whole : (rest : List (Option ℕ)) {new : Regs} {k : ℕ} {there : M} → Follows g t next (length rest) reached.seen m (reached.seen ++ rest) there
      → slice_get (tail (reached.seen ++ rest)) (length rest) ≡ None → k ≡ n + length rest
      → new ≡ after_row part uses row r (Some code ∷ reached.seen ++ rest) → has_flag new.p INTERRUPT ≡ has_flag r.p INTERRUPT → IsDone part g t r m k new there
  whole rest {there = there} follows past count is kept = record {
    last = behind r code (reached.seen ++ rest);
    carried = so-far (length rest) (reached.seen ++ rest) there follows count;
    over = next-is (reached.seen ++ rest) ∙ next-there reached tail rest (length rest) refl ∙ past;
    regs = rw (decoded, is_use) (sym is);
    masks = kept;
  }

  -- all but its last access, which shows such a byte or none
  before-last : (o : LastAccess) → o.cycles ≡ n → tail reached.seen ≡ access_of o ∷ [] → (f : ℕ → Option ℕ) → ((x : ℕ) → shown_byte (Some (access_of o)) x ≡ f x)
      → ((x : ℕ) → slice_get (tail (reached.seen ++ f x ∷ [])) 1 ≡ None) → ((x : ℕ) → after_row part uses row r (Some code ∷ reached.seen ++ f x ∷ []) ≡ outcome part o r x)
      → ((x : ℕ) → has_flag (outcome part o r x).p INTERRUPT ≡ has_flag r.p INTERRUPT) → CanTakeIn o → IsOutside part g t r m o
  before-last o count first f shown past regs kept kind =
      let there : next_cycle part (behind r code reached.seen) ≡ Some (access_of o) = next-is reached.seen ∙ next-first reached tail ∙ ap (λ (l : List Cycle). slice_get l 0) first in
      let then_ : (x : ℕ) → after_byte part (behind r code reached.seen) x ≡ behind r code (reached.seen ++ f x ∷ []) = λ x.
      on part code row r reached.seen (access_of o) x decoded there ∙ ap (λ (b : Option ℕ). behind r code (reached.seen ++ b ∷ [])) (shown x) in
      record {
        last = behind r code reached.seen;
        carried = so-far 0 reached.seen m (refl, refl) (omega (arith, count));
        next = there;
        over = λ x. ap (next_cycle part) (then_ x) ∙ next-is (reached.seen ++ f x ∷ []) ∙ next-there reached tail (f x ∷ []) 1 refl ∙ past x;
        regs = λ x. ap (after part) (then_ x) ∙ rw (decoded, is_use) (regs x);
        masks = kept;
        kind = kind;
      }

-- a list of one access at the operand
abbrev read_of : Mode → Regs → ℕ → List (Option ℕ) → List Cycle
read_of way r op f = Read (address way r (Some op ∷ f)) ∷ []

abbrev written_of : Mode → Regs → ℕ → ℕ → List (Option ℕ) → List Cycle
written_of way r op v f = Write (address way r (Some op ∷ f)) v ∷ []

-- if the access is not a cycle longer
read_form : (part : Part) (row : Row) (r : Regs) (op : ℕ) → is_decimal row.mnemonic r ≡ false → (f : List (Option ℕ))
    → slice_get (form part Reads row r (Some op ∷ f)) (length f) ≡ on_the_way part row.mode (waits part Reads) r op (read_of row.mode r op) f
read_form part row r op binary f =
    rw (by part)
  where
    by : (part : Part) → lasts_longer part row.mnemonic r ≡ false
    by Nmos = refl
    by Cmos = binary

-- the forms that read and write back, except that of A
abbrev changes : Part → Row → Mode → Bool → Regs → List (Option ℕ) → List Cycle
changes part row way always r f =
    Read (address way r f) ∷ cycle_between part (address way r f) (operand part way always r f) ∷ Write (address way r f) (modified_value row.mnemonic r (operand part way always r f)) ∷ []

in_memory : (part : Part) (row : Row) (way : Mode) (always : Bool) (r : Regs) (f : List (Option ℕ)) → way ≢ Acc
    → modify_form part row way always r f ≡ reach part way always r f ++ changes part row way always r f
in_memory part row Acc always r f h = absurd (h refl)
in_memory part row _ always r f h = refl

module _ {part : Part} {M : Type 0} {g : Reach M} {t : ℕ} {row : Row} {r : Regs} {m : M} {at n : ℕ} (p : g.reads r.pc ≡ true) (decoded : row_at part (g.byte m r.pc) ≡ Some row) where
  -- it is read
  pub loaded : bus_use row.mnemonic ≡ Reads → is_decimal row.mnemonic r ≡ false → IsReached part g t row.mode (waits part Reads) r m at n → g.reads at ≡ true
      → {k : ℕ} {new : Regs} → k ≡ n + 1 → new ≡ read_result part row.mnemonic row.mode (with_pc_past r row.bytes) (g.byte m at) → IsDone part g t r m k new m
  loaded uses binary reached plain count is =
      let x : ℕ = g.byte m at in
      let tail : List (Option ℕ) → List Cycle = read_of row.mode r (g.byte m r.pc) in
      let here : on_the_way part row.mode (waits part Reads) r (g.byte m r.pc) tail reached.seen ≡ Some (Read at) = next-first reached tail ∙ ap (λ a. Some (Read a)) (found-first reached) in
      whole p decoded reached uses tail (read_form part row r (g.byte m r.pc) binary) (Some x ∷ [])
      (rw here (plain, (refl, refl))) refl count
      (is ∙ sym (ap (read_result part row.mnemonic row.mode (with_pc_past r row.bytes)) (operand-there reached x [])))
      (ap (λ (q : Regs). has_flag q.p INTERRUPT) is ∙ read_kept part row.mnemonic row.mode (with_pc_past r row.bytes) x)

  -- it is written
  pub stored : bus_use row.mnemonic ≡ Stores → IsReached part g t row.mode (waits part Stores) r m at n → g.writes at ≡ true
      → {k : ℕ} {new : Regs} {there : M} → k ≡ n + 1 → new ≡ with_pc_past r row.bytes → there ≡ g.put m t n at (stored_value row.mnemonic r) → IsDone part g t r m k new there
  stored uses reached plain {there = there} count is put =
      let v : ℕ = stored_value row.mnemonic r in
      let tail : List (Option ℕ) → List Cycle = written_of row.mode r (g.byte m r.pc) v in
      let here : on_the_way part row.mode (waits part Stores) r (g.byte m r.pc) tail reached.seen ≡ Some (Write at v) =
      next-first reached tail ∙ ap (λ a. Some (Write a v)) (found-first reached) in
      whole p decoded reached uses tail (λ f. refl) (None ∷ [])
      (rw here (plain, (refl, rw (← reached.count) (sym put)))) refl count is (ap (λ (q : Regs). has_flag q.p INTERRUPT) is)

  -- it is read, in each mode
  pub read-last : bus_use row.mnemonic ≡ Reads → adds row.mnemonic ≡ false → IsReached part g t row.mode (waits part Reads) r m at n
      → IsOutside part g t r m (record { cycles = n; at = at; value = None; mnemonic = row.mnemonic; mode = row.mode; bytes = row.bytes })
  read-last uses single reached =
      before-last p decoded reached uses (read_of row.mode r (g.byte m r.pc)) (read_form part row r (g.byte m r.pc) (no-sum row.mnemonic r single)) _ refl
      (ap (λ a. Read a ∷ []) (found-first reached)) (λ x. Some x) (λ x. refl) (λ x. refl)
      (λ x. ap (read_result part row.mnemonic row.mode (with_pc_past r row.bytes)) (operand-there reached x [])) (λ x. read_kept part row.mnemonic row.mode (with_pc_past r row.bytes) x)
      (λ _. (uses, single))

  -- it is written, in each mode
  pub written-last : bus_use row.mnemonic ≡ Stores → IsReached part g t row.mode (waits part Stores) r m at n → {v : ℕ} → v ≡ stored_value row.mnemonic r
      → IsOutside part g t r m (record { cycles = n; at = at; value = Some v; mnemonic = row.mnemonic; mode = row.mode; bytes = row.bytes })
  written-last uses reached {v} is =
      before-last p decoded reached uses (written_of row.mode r (g.byte m r.pc) v)
      (λ f. ap (λ (b : ℕ). on_the_way part row.mode (waits part Stores) r (g.byte m r.pc) (written_of row.mode r (g.byte m r.pc) b) f) (sym is)) _ refl
      (ap (λ a. Write a v ∷ []) (found-first reached)) (λ x. None) (λ x. refl) (λ x. refl) (λ x. refl) (λ x. refl) (λ none. cc)

  -- it is read and written back
  pub changed : IsPlain g → {always : Bool} → IsModifying part row always → row.mode ≢ Acc → IsReached part g t row.mode always r m at n → g.reads at ≡ true → g.writes at ≡ true
      → {k : ℕ} {new : Regs} {there : M} → k ≡ n + 3 → new ≡ modify_result row.mnemonic row.mode (with_pc_past r row.bytes) (g.byte m at)
      → there ≡ g.put m t (n + 2) at (modified_value row.mnemonic r (g.byte m at)) → IsDone part g t r m k new there
  changed lawful {always} uses apart reached read written {there = there} count is put =
      let op : ℕ = g.byte m r.pc in
      let x : ℕ = g.byte m at in
      let v : ℕ = modified_value row.mnemonic r x in
      let between : Cycle = cycle_between part at x in
      let y : Option ℕ = shown_byte (Some between) (shows g m between) in
      let seen : List (Option ℕ) = reached.seen in
      let last : List (Option ℕ) = seen ++ Some x ∷ y ∷ None ∷ [] in
      let m1 : M = leaves g t m (n + 1) between in
      let tail : List (Option ℕ) → List Cycle = λ f. changes part row row.mode always r (Some op ∷ f) in
      let next : List (Option ℕ) → Option Cycle = on_the_way part row.mode always r op tail in
      let there_tail : (rest : List (Option ℕ)) → tail (seen ++ Some x ∷ rest) ≡ Read at ∷ between ∷ Write at v ∷ [] = λ rest.
      rw (reached.found (Some x ∷ rest), operand-there reached x rest) in
      let later = λ (rest : List (Option ℕ)) (j : ℕ) (h : suc (length rest) ≡ j). next-there reached tail (Some x ∷ rest) j h ∙ ap (λ l. slice_get l j) (there_tail rest) in
      let here : next seen ≡ Some (Read at) = next-first reached tail ∙ ap (λ a. Some (Read a)) (found-first reached) in
      let at1 : suc (length (seen ++ Some x ∷ [])) ≡ n + 1 = omega (arith, reached.count, length-append seen (Some x ∷ [])) in
      let at2 : suc (length (seen ++ Some x ∷ y ∷ [])) ≡ n + 2 = omega (arith, reached.count, length-append seen (Some x ∷ y ∷ [])) in
      let left : g.put m1 t (suc (length (seen ++ Some x ∷ y ∷ []))) at v ≡ there = ap (λ (j : ℕ). g.put m1 t j at v) at2 ∙ over_old part ∙ sym put in
      let follows : Follows g t next 3 seen m last there =
      rw here (
        read,
        rw (later [] 1 refl) (
          plain_between part,
          rw (append_assoc seen (Some x ∷ []) (y ∷ []), at1, later (y ∷ []) 2 refl) (written, (append_assoc seen (Some x ∷ y ∷ []) (None ∷ []), left)),
        ),
      ) in
      whole p decoded reached refl tail (λ f. ap (λ l. slice_get l (length f)) (uses.forms r (Some op ∷ f) ∙ in_memory part row row.mode always r (Some op ∷ f) apart))
      (Some x ∷ y ∷ None ∷ []) follows (ap (λ l. slice_get l 3) (there_tail (y ∷ None ∷ []))) count
      (is ∙ sym (uses.results r (Some op ∷ last) ∙ ap (modify_result row.mnemonic row.mode (with_pc_past r row.bytes)) (operand-there reached x (y ∷ None ∷ []))))
      (ap (λ (q : Regs). has_flag q.p INTERRUPT) is ∙ modify_kept row.mnemonic row.mode (with_pc_past r row.bytes) x)
    where
      plain_between : (part : Part) → is_plain g (cycle_between part at (g.byte m at)) ≡ true
      plain_between Nmos = written
      plain_between Cmos = read

      two : suc (n + 1) ≡ n + 2
      two = omega arith

      over_old : (part : Part)
          → g.put (leaves g t m (n + 1) (cycle_between part at (g.byte m at))) t (n + 2) at
          (modified_value row.mnemonic r (g.byte m at)) ≡ g.put m t (n + 2) at (modified_value row.mnemonic r (g.byte m at))
      over_old Nmos =
          let v : ℕ = modified_value row.mnemonic r (g.byte m at) in
          ap (λ (j : ℕ). g.put (g.put m t (n + 1) at (g.byte m at)) t j at v) (sym two) ∙ lawful.again m t (n + 1) at v written ∙ ap (λ (j : ℕ). g.put m t j at v) two
      over_old Cmos = refl

-- the forms that always take their cycle for a carry
module _ {part : Part} {M : Type 0} {g : Reach M} {t : ℕ} {way : Mode} {r : Regs} {m : M} {at n : ℕ} where
  pub for_loads : IsReached part g t way false r m at n → IsReached part g t way (waits part Reads) r m at n
  for_loads reached = rw (by part) reached
    where
      by : (part : Part) → waits part Reads ≡ false
      by Nmos = refl
      by Cmos = refl

  pub for_stores : IsReached part g t way true r m at n → IsReached part g t way (waits part Stores) r m at n
  for_stores reached = rw (by part) reached
    where
      by : (part : Part) → waits part Stores ≡ true
      by Nmos = refl
      by Cmos = refl

-- The byte of a modify instruction does not depend on PC, and neither does a decimal sum.
pub value_past : (name : Mnemonic) (r : Regs) (bytes m : ℕ) → modified_value name (with_pc_past r bytes) m ≡ modified_value name r m
value_past Asl r bytes m = refl
value_past _ r bytes m = refl

pub decimal_past : (name : Mnemonic) (r : Regs) (bytes : ℕ) → is_decimal name (with_pc_past r bytes) ≡ is_decimal name r
decimal_past Adc r bytes = refl
decimal_past _ r bytes = refl
