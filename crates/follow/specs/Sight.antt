-- The view of a machine with a processor: a function of its state alone.
use Rattle.std.specs.Prelude.{ℕ, ◌≡◌, Bool, true, Option, Some}
use Rattle.cpu_alu.specs.declared.Regs.{Regs}
use Rattle.tube_chip.specs.declared.Answer.{Answer}
use Rattle.tube_chip.specs.Act.{look}
use Rattle.tube_party.specs.Transitions.{Transitions, IsLawful}

pub record Sight : Type 0 where
  -- the next step is the first cycle of an instruction
  pub starting : Bool
  -- the registers at the start of the instruction, reset or interrupt to which the next step
  -- belongs
  pub regs : Regs
  -- the byte that a read of an address would give now, or none if a device answers
  pub peek : ℕ → Option ℕ

-- Two states have the same view.
pub record IsSameSight (a b : Sight) : Type 0 where
  pub starting : a.starting ≡ b.starting
  pub regs : a.regs ≡ b.regs
  pub peek : (at : ℕ) → a.peek at ≡ b.peek at

-- The laws of a view: closing a state leaves it, and an instruction starts only after a look.
pub record IsSeen {S : Type 0} (m : Transitions S) (sights : S → Sight) : Type 0 where
  pub lawful : IsLawful m
  pub closing : (s : S) (t : ℕ) → IsSameSight (sights (m.close s t)) (sights s)
  pub behind : (s : S) (a : Option Answer) → (sights (m.next s a)).starting ≡ true → m.asks s ≡ Some look

-- Each state of the first view is a state of the second, and both have the same steps.
pub record IsSame {X S T : Type 0} (state : X → S) (m : Transitions S) (inside : X → T) (w : Transitions T) : Type 0 where
  pub to : S → T
  pub is : (x : X) → to (state x) ≡ inside x
  pub due : (s : S) → w.due (to s) ≡ m.due s
  pub asks : (s : S) → w.asks (to s) ≡ m.asks s
  pub next : (s : S) (a : Option Answer) → w.next (to s) a ≡ to (m.next s a)
  pub closed : (s : S) → w.closed (to s) ≡ m.closed s
  pub close : (s : S) (t : ℕ) → w.close (to s) t ≡ to (m.close s t)
