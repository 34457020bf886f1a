-- Lists appended to each other.
use Rattle.std.proofs.Common.{◌≡◌, ◌∙◌, ap, ℕ, List, ◌++◌, append_assoc}

-- b is a and then x
pub record Adds (a b x : List ℕ) : Type 0 where
  pub all : b ≡ a ++ x

pub begun : (a b x z : List ℕ) → b ≡ a ++ x → x ≡ z → Adds a b z
begun a b x z first is = record { all = first ∙ ap (λ l. a ++ l) is }

pub joined : {a b x : List ℕ} (c y z : List ℕ) → Adds a b x → c ≡ b ++ y → y ≡ z → Adds a c (x ++ z)
joined {a = a} {b = b} {x = x} c y z first second is =
    record { all = second ∙ ap (λ l. l ++ y) first.all ∙ append_assoc a x y ∙ ap (λ l. a ++ (x ++ l)) is }
