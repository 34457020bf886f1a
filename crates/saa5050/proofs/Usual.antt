-- Cells of steady letters of normal height.
use Rattle.std.proofs.Common.{ℕ, ◌≡◌, refl, ◌∙◌, Bool, false}
use Rattle.std.specs.Prelude.{nat_lt, nat_le}
use Rattle.std.proofs.lemmas.Bool.{or_parts}
use Rattle.saa5050.specs.declared.style.Style.{Style}
use Rattle.saa5050.specs.Shapes.{Font, letter_dot}
use Rattle.saa5050.specs.Row.{cell_dot}
use Rattle.saa5050.specs.CodeDots.{IsLine}
use Rattle.saa5050.specs.CodeSteps.{is_special}

usual_dot : (font : Font) (code ra : ℕ) (bottom : Bool) (fields : ℕ) (s : Style) (x : ℕ) → is_special code ra bottom s ≡ false →
    letter_dot font code ra x ≡ cell_dot font code ra bottom fields s x
usual_dot font code ra bottom fields s x h =
    let g = or_parts _ s.double h in
    let f = or_parts _ s.concealed g.0 in
    let e = or_parts _ s.flashing f.0 in
    let d = or_parts _ s.graphics e.0 in
    let b = or_parts _ bottom d.0 in
    let a = or_parts (nat_lt code 0x20) (nat_le 20 ra) b.0 in
    rw (a.0, a.1, b.1, d.1, e.1, f.1, g.1) refl

pub usual_line : (word : ℕ) (font : Font) (code ra : ℕ) (bottom : Bool) (fields : ℕ) (s : Style) → is_special code ra bottom s ≡ false →
    IsLine word (letter_dot font code ra) → IsLine word (cell_dot font code ra bottom fields s)
usual_line word font code ra bottom fields s h line = λ x low. line x low ∙ usual_dot font code ra bottom fields s x h
