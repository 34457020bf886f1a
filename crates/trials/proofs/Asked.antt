-- After a machine has advanced, its question is that of its next step.
use Rattle.std.specs.Prelude.{ℕ, ◌≡◌, ◌≤◌, Option, MatchOption, Some}
use Rattle.std.proofs.Common.{sym, ◌∙◌, ap, subst, arith}
use Rattle.beeb_bits.specs.declared.Tick.{Tick}
use Rattle.tube_chip.specs.Act.{Query, access, look}
use Rattle.tube_chip.specs.declared.Answer.TheVariants.{Byte, Seen}
use Rattle.tube_chip.specs.declared.Lines.{Lines}
use Rattle.tube_chip.specs.declared.Op.{Op}
use Rattle.tube_party.specs.declared.party.Ask.TheVariants.{Access, Look}
use Rattle.tube_party.specs.Transitions.{Transitions, Shown, LookRunToAsk, IsAskedFor, FitsAnswer}

-- a byte for an access
pub asked_byte : {S : Type 0} (m : Transitions S) (n : ℕ) (v : Shown) (s new : S) (t : Tick) (op : Op) (byte : ℕ) → n ≤ 1073741824
    → LookRunToAsk m n v s (Access t op) new → IsAskedFor m 1073741824 new (Byte byte)
asked_byte m n v s new t op byte low sees =
    let due : m.due new ≡ m.due sees.last = ap m.due sees.asked.3 in
    let asks : m.asks new ≡ Some (access op) = ap m.asks sees.asked.3 ∙ sees.asked.2 in
    record {
      below = omega (arith, due, sees.asked.0, sees.asked.1, low);
      kind = subst (λ (o : Option Query). MatchOption o ⊥ (λ q. FitsAnswer q (Byte byte))) (sym asks) tt;
    }

-- lines for a look
pub asked_lines : {S : Type 0} (m : Transitions S) (n : ℕ) (v : Shown) (s new : S) (t : Tick) (lines : Lines) → n ≤ 1073741824
    → LookRunToAsk m n v s (Look t) new → IsAskedFor m 1073741824 new (Seen lines)
asked_lines m n v s new t lines low sees =
    let due : m.due new ≡ m.due sees.last = ap m.due sees.asked.3 in
    let asks : m.asks new ≡ Some look = ap m.asks sees.asked.3 ∙ sees.asked.2 in
    record {
      below = omega (arith, due, sees.asked.0, sees.asked.1, low);
      kind = subst (λ (o : Option Query). MatchOption o ⊥ (λ q. FitsAnswer q (Seen lines))) (sym asks) tt;
    }
