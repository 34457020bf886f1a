-- The cycles after that of the opcode: from the next access after what was seen to the definition's
-- states.
use Rattle.std.proofs.Common.{◌≡◌, ℕ, zero, suc, ◌+◌, List, [], ◌∷◌, ◌++◌, length, true, false, Option, Some, None, is_none, slice_get, MatchOption, refl, ap, ◌∙◌, arith}
use Rattle.op_table.specs.declared.names.Part.{Part}
use Rattle.op_table.specs.declared.names.Part.TheVariants.{Nmos, Cmos}
use Rattle.op_table.specs.declared.rows.Row.{Row}
use Rattle.cpu_alu.specs.declared.Regs.{Regs}
use Rattle.cpu_alu.specs.declared.Cycle.{Cycle}
use Rattle.cpu_alu.specs.Instructions.{bus_use}
use Rattle.cpu_core.specs.declared.Sequence.TheVariants.{Instruction}
use Rattle.cpu_core.specs.State.{State}
use Rattle.cpu_core.specs.Accesses.{byte, row_at, form, or_zero}
use Rattle.cpu_core.specs.Sequences.{next_cycle, after_byte, shown_byte, halted, fresh}
use Rattle.cpu_whole.specs.Whole.{Reach, Carried, is_plain, shows, leaves}
use Rattle.cpu_whole.specs.CodeWays.{Follows, more_by}

-- an instruction after its opcode
abbrev pub behind : Regs → ℕ → List (Option ℕ) → State
behind r op f = record { sequence = Instruction; regs = r; seen = Some op ∷ f }

-- it halts nothing
going : (part : Part) (op : ℕ) (row : Row) (r : Regs) (f : List (Option ℕ)) → row_at part op ≡ Some row → halted part (behind r op f) ≡ false
going Nmos op row r [] h = ap is_none h
going Nmos op row r (x ∷ f) h = refl
going Cmos op row r f h = refl

-- one cycle more
pub on : (part : Part) (op : ℕ) (row : Row) (r : Regs) (f : List (Option ℕ)) (c : Cycle) (b : ℕ) → row_at part op ≡ Some row
    → next_cycle part (behind r op f) ≡ Some c → after_byte part (behind r op f) b ≡ behind r op (f ++ shown_byte (Some c) b ∷ [])
on part op row r f c b h n =
    rw (going part op row r f h, n)

-- the cycles that follow are those of the definition
pub carried : {M : Type 0} → (g : Reach M) (t : ℕ) (part : Part) (op : ℕ) (row : Row) (r : Regs) → row_at part op ≡ Some row
    → (k : ℕ) (f : List (Option ℕ)) (m : M) (last : List (Option ℕ)) (there : M)
    → Follows g t (λ f. next_cycle part (behind r op f)) k f m last there → Carried g t part k (behind r op f) m (behind r op last) there
carried g t part op row r h zero f m last there done = (ap (behind r op) done.0, done.1)
carried {M} g t part op row r h (suc k) f m last there done =
    by (carried g t part op row r h k) (next_cycle part (behind r op f)) refl done
  where
    by : ((f : List (Option ℕ)) (m : M) (last : List (Option ℕ)) (there : M)
        → Follows g t (λ f. next_cycle part (behind r op f)) k f m last there → Carried g t part k (behind r op f) m (behind r op last) there)
        → (o : Option Cycle) → next_cycle part (behind r op f) ≡ o
        → MatchOption o ⊥ (λ c. (is_plain g c ≡ true) × Follows g t (λ f. next_cycle part (behind r op f)) k (f ++ shown_byte (Some c) (shows g m c) ∷ [])
        (leaves g t m (suc (length f)) c) last there)
        → MatchOption o ⊥ (λ c. (is_plain g c ≡ true) × Carried g t part k (after_byte part (behind r op f) (shows g m c)) (leaves g t m (suc (length f)) c) (behind r op last) there)
    by rest None is done = done
    by rest (Some c) is done = (
      done.0,
      rw (on part op row r f c (shows g m c) h is)
          (rest (f ++ shown_byte (Some c) (shows g m c) ∷ []) (leaves g t m (suc (length f)) c) last there done.1),
    )

-- and those of any equal function
pub along : {M : Type 0} → (g : Reach M) (t : ℕ) (next other : List (Option ℕ) → Option Cycle) → ((f : List (Option ℕ)) → next f ≡ other f)
    → (k : ℕ) (f : List (Option ℕ)) (m : M) (last : List (Option ℕ)) (there : M) → Follows g t other k f m last there → Follows g t next k f m last there
along g t next other same zero f m last there done = done
along {M} g t next other same (suc k) f m last there done = rw (same f) (by (along g t next other same k) (other f) done)
  where
    by : ((f : List (Option ℕ)) (m : M) (last : List (Option ℕ)) (there : M) → Follows g t other k f m last there → Follows g t next k f m last there)
        → (o : Option Cycle) → MatchOption o ⊥ (λ c. (is_plain g c ≡ true) × Follows g t other k (f ++ shown_byte (Some c) (shows g m c) ∷ []) (leaves g t m (suc (length f)) c) last there)
        → MatchOption o ⊥ (λ c. (is_plain g c ≡ true) × Follows g t next k (f ++ shown_byte (Some c) (shows g m c) ∷ []) (leaves g t m (suc (length f)) c) last there)
    by rest None done = done
    by rest (Some c) done = (done.0, rest (f ++ shown_byte (Some c) (shows g m c) ∷ []) (leaves g t m (suc (length f)) c) last there done.1)

-- the opcode's cycle before them
pub from_fetch : {M : Type 0} → (g : Reach M) (t : ℕ) (part : Part) (row : Row) (r : Regs) (m : M) → g.reads r.pc ≡ true → row_at part (g.byte m r.pc) ≡ Some row
    → (next : List (Option ℕ) → Option Cycle) → ((f : List (Option ℕ)) → slice_get (form part (bus_use row.mnemonic) row r (Some (g.byte m r.pc) ∷ f)) (length f) ≡ next f)
    → (k : ℕ) (last : List (Option ℕ)) (there : M) → Follows g t next k [] m last there → {n : ℕ} → n ≡ suc k
    → Carried g t part n (fresh Instruction r) m (behind r (g.byte m r.pc) last) there
from_fetch {M} g t part row r m p decoded next same k last there done count =
    rw count (
      p,
      rw (begun part)
          (carried g t part (g.byte m r.pc) row r decoded k [] m last there
          (along g t (λ f. next_cycle part (behind r (g.byte m r.pc) f)) next (λ f. rw decoded (same f)) k [] m last there done)),
    )
  where
    begun : (part : Part) → after_byte part (fresh Instruction r) (g.byte m r.pc) ≡ behind r (g.byte m r.pc) []
    begun Nmos = refl
    begun Cmos = refl

-- lists

pub more_by-suc : (xs : List (Option ℕ)) (k : ℕ) → more_by xs k ≡ length xs + k
more_by-suc [] k = omega arith
more_by-suc (x ∷ xs) k = omega (arith, more_by-suc xs k)

pub byte-seam : (seen rest : List (Option ℕ)) (op x n : ℕ) → n ≡ length seen → byte (Some op ∷ seen ++ Some x ∷ rest) (1 + n) ≡ x
byte-seam seen rest op x n h =
    let same : 1 + n ≡ suc (length seen) = omega (arith, h) in
    ap (λ k. byte (Some op ∷ seen ++ Some x ∷ rest) k) same ∙ by seen
  where
    by : (l : List (Option ℕ)) → or_zero (slice_get (l ++ Some x ∷ rest) (length l)) ≡ x
    by [] = refl
    by (y ∷ l) = by l

pub beyond : (xs ys : List Cycle) (n j k : ℕ) → length xs ≡ n → k ≡ n + j → slice_get (xs ++ ys) k ≡ slice_get ys j
beyond [] ys n j k h e =
    let same : k ≡ j = omega (arith, h, e) in
    ap (slice_get ys) same
beyond (x ∷ xs) ys n j zero h e = absurd (omega (arith, h, e))
beyond (x ∷ xs) ys zero j (suc k) h e = absurd (omega (arith, h))
beyond (x ∷ xs) ys (suc n) j (suc k) h e = beyond xs ys n j k (omega (arith, h)) (omega (arith, e))
