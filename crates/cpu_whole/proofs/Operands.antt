-- The addressing modes, each directly from the definition's list of accesses.
use Rattle.std.proofs.Common.{◌≡◌, ℕ, ◌+◌, ◌%◌, ◌||◌, [], ◌∷◌, Bool, true, false, cond, Some, refl}
use Rattle.op_table.specs.declared.names.Part.{Part}
use Rattle.op_table.specs.declared.names.Part.TheVariants.{Nmos, Cmos}
use Rattle.op_table.specs.declared.names.Mode.TheVariants.{Zp, ZpX, ZpY, Abs, AbsX, AbsY, IndX, IndY, IndZp}
use Rattle.cpu_alu.specs.declared.Regs.{Regs}
use Rattle.cpu_alu.specs.Addresses.{place, word, wrap, crosses_page}
use Rattle.cpu_core.specs.Accesses.{idle, in_page}
use Rattle.cpu_whole.specs.Whole.{Reach, AreRead}
use Rattle.cpu_whole.specs.CodeWays.{IsReached}

module _ {M : Type 0} (g : Reach M) (r : Regs) (m : M) where
  -- the bytes after the opcode
  abbrev one : ℕ
  one = g.byte m (place r 1)

  abbrev two : ℕ
  two = g.byte m (place r 2)

  -- the bytes of a pointer in the zero page
  abbrev low : ℕ
  low = g.byte m one

  abbrev high : ℕ
  high = g.byte m ((one + 1) % 256)

  module _ {t : ℕ} {part : Part} {always : Bool} (runs : AreRead g r.pc) where
    pub zero_page : IsReached part g t Zp always r m one 2
    zero_page = record { seen = Some one ∷ []; count = refl; found = λ f. refl; steps = λ f. refl; goes = λ tail k last there rest. (runs.second, rest) }

    pub absolute : IsReached part g t Abs always r m (word one two) 3
    absolute = record { seen = Some one ∷ Some two ∷ []; count = refl; found = λ f. refl; steps = λ f. refl; goes = λ tail k last there rest. (runs.second, (runs.third, rest)) }

    pub zero_page_x : g.reads (idle part one (place r 1)) ≡ true → IsReached part g t ZpX always r m ((one + r.x) % 256) 3
    zero_page_x q = record {
      seen = Some one ∷ Some (g.byte m (idle part one (place r 1))) ∷ [];
      count = refl;
      found = λ f. refl;
      steps = λ f. refl;
      goes = λ tail k last there rest. (runs.second, (q, rest));
    }

    pub pointer : g.reads one ≡ true → g.reads ((one + 1) % 256) ≡ true → IsReached part g t IndZp always r m (word (g.byte m one) (g.byte m ((one + 1) % 256))) 4
    pointer q s = record {
      seen = Some one ∷ Some (g.byte m one) ∷ Some (g.byte m ((one + 1) % 256)) ∷ [];
      count = refl;
      found = λ f. refl;
      steps = λ f. refl;
      goes = λ tail k last there rest. (runs.second, (q, (s, rest)));
    }

    pub pointer_x : g.reads (idle part one (place r 1)) ≡ true → g.reads ((one + r.x) % 256) ≡ true → g.reads ((one + r.x + 1) % 256) ≡ true
        → IsReached part g t IndX always r m (word (g.byte m ((one + r.x) % 256)) (g.byte m ((one + r.x + 1) % 256))) 5
    pointer_x i q s = record {
      seen = Some one ∷ Some (g.byte m (idle part one (place r 1))) ∷ Some (g.byte m ((one + r.x) % 256)) ∷ Some (g.byte m ((one + r.x + 1) % 256)) ∷ [];
      count = refl;
      found = λ f. refl;
      steps = λ f. refl;
      goes = λ tail k last there rest. (runs.second, (i, (q, (s, rest))));
    }

    -- with a cycle for a carry, if there is one
    pub absolute_x : (c : Bool) → (always || crosses_page one r.x) ≡ c → (c ≡ true → g.reads (idle part (in_page one two r.x) (place r 2)) ≡ true)
        → IsReached part g t AbsX always r m (wrap (word one two + r.x)) (cond c 4 3)
    absolute_x true h i = record {
      seen = Some one ∷ Some two ∷ Some (g.byte m (idle part (in_page one two r.x) (place r 2))) ∷ [];
      count = refl;
      found = λ f. refl;
      steps = λ f. rw h;
      goes = λ tail k last there rest. (runs.second, (runs.third, rw h (i refl, rest)));
    }
    absolute_x false h i = record {
      seen = Some one ∷ Some two ∷ [];
      count = refl;
      found = λ f. refl;
      steps = λ f. rw h;
      goes = λ tail k last there rest. (runs.second, (runs.third, rest));
    }

    pub pointer_y : (c : Bool) → (always || crosses_page low r.y) ≡ c → g.reads one ≡ true → g.reads ((one + 1) % 256) ≡ true
        → (c ≡ true → g.reads (idle part (in_page low high r.y) (place r 1)) ≡ true) → IsReached part g t IndY always r m (wrap (word low high + r.y)) (cond c 5 4)
    pointer_y true h q s i = record {
      seen = Some one ∷ Some low ∷ Some high ∷ Some (g.byte m (idle part (in_page low high r.y) (place r 1))) ∷ [];
      count = refl;
      found = λ f. refl;
      steps = λ f. rw h;
      goes = λ tail k last there rest. (runs.second, (q, (s, rw h (i refl, rest))));
    }
    pointer_y false h q s i = record {
      seen = Some one ∷ Some low ∷ Some high ∷ [];
      count = refl;
      found = λ f. refl;
      steps = λ f. rw h;
      goes = λ tail k last there rest. (runs.second, (q, (s, rest)));
    }

-- indexing by Y is indexing by an X with the value of Y
module _ {M : Type 0} {g : Reach M} {t : ℕ} {part : Part} {always : Bool} {r : Regs} {m : M} {at n : ℕ} where
  pub zero_page_y : IsReached part g t ZpX always (record r { x = r.y }) m at n → IsReached part g t ZpY always r m at n
  zero_page_y h = record { seen = h.seen; count = h.count; found = h.found; steps = h.steps; goes = h.goes }

  pub absolute_y : IsReached part g t AbsX always (record r { x = r.y }) m at n → IsReached part g t AbsY always r m at n
  absolute_y h = record { seen = h.seen; count = h.count; found = h.found; steps = h.steps; goes = h.goes }

-- The NMOS part reads the partial address so_far, the 65C02 the last byte of the instruction.
pub idle_read : {M : Type 0} (g : Reach M) (part : Part) (so_far last : ℕ) → g.reads so_far ≡ true → g.reads last ≡ true → g.reads (idle part so_far last) ≡ true
idle_read g Nmos so_far last a b = a
idle_read g Cmos so_far last a b = b
