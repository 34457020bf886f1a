-- Dots that are drawn eight at a time are drawn one by one.
use Rattle.std.proofs.Common.{◌≡◌, ◌∙◌, sym, ap, refl, ℕ, suc, ◌+◌, ◌-◌, ◌*◌, ◌%◌, ◌<◌, ◌≤◌, ◌&&◌, Bool, true, false, min, List, [], ◌∷◌, ◌++◌}
use Rattle.std.proofs.Common.{length, take, drop, append_assoc, add-zero, arith, ltb, leb, inl, inr}
use Rattle.std.specs.Prelude.{slice_set}
use Rattle.std.proofs.lemmas.Bool.{leb-true, ltb-true, le-leb, lt-ltb, cases_lt}
use Rattle.std.proofs.lemmas.List.{take-append-drop, take_all, length-drop, take_more_set, drop-set-lt}
use Rattle.std.proofs.Math.ListN.{length-set}
use Rattle.raster.specs.Frame.{is_in_frame, dot_set, dots_set}

both : (a b : Bool) → (a && b) ≡ true → (a ≡ true) × (b ≡ true)
both true true e = (refl, refl)
both true false e = cc
both false b e = cc

all_four : (a b c d : Bool) → a ≡ true → b ≡ true → c ≡ true → d ≡ true → (a && b && c && d) ≡ true
all_four a b c d h i j k = rw (h, i, j, k) refl

is_false : (b : Bool) → ((b ≡ true) → ⊥) → b ≡ false
is_false true h = absurd (h refl)
is_false false h = refl

pub record Inside (left x y : ℕ) : Type 0 where
  pub from : left ≤ x
  pub to : x < left + 640
  pub top : 40 ≤ y
  pub bottom : y < 296

pub inside_tells : (left x y : ℕ) → is_in_frame left x y ≡ true → Inside left x y
inside_tells left x y e =
    let p = both _ (ltb y 296) e in
    let q = both _ (leb 40 y) p.0 in
    let r = both (leb left x) (ltb x (left + 640)) q.0 in
    record { from = leb-true _ _ r.0; to = ltb-true _ _ r.1; top = leb-true _ _ q.1; bottom = ltb-true _ _ p.1 }

pub tells_inside : (left x y : ℕ) → Inside left x y → is_in_frame left x y ≡ true
tells_inside left x y h = all_four _ _ _ _ (le-leb _ _ h.from) (lt-ltb _ _ h.to) (le-leb _ _ h.top) (lt-ltb _ _ h.bottom)

-- a dot that is in the frame is set there
set_inside : (left x y colour : ℕ) (frame : List ℕ) → Inside left x y → dot_set left x y colour frame ≡ slice_set frame (640 * (y - 40) + (x - left)) colour
set_inside left x y colour frame h = rw (tells_inside left x y h) refl

set_outside : (left x y colour : ℕ) (frame : List ℕ) → is_in_frame left x y ≡ false → dot_set left x y colour frame ≡ frame
set_outside left x y colour frame h = rw h refl

-- dots that are all in the frame replace as many of its dots
pub all_inside : (left x y at : ℕ) (dots frame : List ℕ) → left ≤ x → x + length dots ≤ left + 640 → 40 ≤ y → y < 296 → at ≡ 640 * (y - 40) + (x - left) →
    at + length dots ≤ length frame → dots_set left x y dots frame ≡ take at frame ++ (dots ++ drop (at + length dots) frame)
all_inside left x y at [] frame from to top bottom is long = rw add-zero (sym (take-append-drop at frame))
all_inside left x y at (colour ∷ dots) frame from to top bottom is long =
    let here : Inside left x y = record { from = from; to = omega arith; top = top; bottom = bottom } in
    let set_here : dot_set left x y colour frame ≡ slice_set frame at colour =
    set_inside left x y colour frame here ∙ ap (λ k. slice_set frame k colour) (sym is) in
    let same_length : length (slice_set frame at colour) ≡ length frame = length-set frame at colour in
    let rest : dots_set left (x + 1) y dots (slice_set frame at colour)
    ≡ take (at + 1) (slice_set frame at colour) ++ (dots ++ drop (at + 1 + length dots) (slice_set frame at colour)) =
    all_inside left (x + 1) y (at + 1) dots (slice_set frame at colour) (omega arith) (omega arith) top bottom (omega arith) (omega arith) in
    let front : take (at + 1) (slice_set frame at colour) ≡ take at frame ++ colour ∷ [] = take_more_set frame at colour (omega arith) in
    let back : drop (at + 1 + length dots) (slice_set frame at colour) ≡ drop (at + 1 + length dots) frame = drop-set-lt _ frame at colour (omega arith) in
    let count : at + 1 + length dots ≡ at + suc (length dots) = omega arith in
    ap (dots_set left (x + 1) y dots) set_here ∙ rest
    ∙ ap (λ xs. xs ++ (dots ++ drop (at + 1 + length dots) (slice_set frame at colour))) front
    ∙ ap (λ ys. (take at frame ++ colour ∷ []) ++ (dots ++ ys)) (back ∙ ap (λ k. drop k frame) count)
    ∙ append_assoc (take at frame) (colour ∷ []) (dots ++ drop (at + suc (length dots)) frame)

-- dots that are all outside change nothing
pub all_outside : (left x y : ℕ) (dots frame : List ℕ) → ((k : ℕ) → k < length dots → is_in_frame left (x + k) y ≡ false) → dots_set left x y dots frame ≡ frame
all_outside left x y [] frame none = refl
all_outside left x y (colour ∷ dots) frame none =
    let first : is_in_frame left x y ≡ false = rw add-zero at (none 0 (omega arith)) in
    ap (dots_set left (x + 1) y dots) (set_outside left x y colour frame first)
    ∙ all_outside left (x + 1) y dots frame (λ k h. let e : x + 1 + k ≡ x + (k + 1) = omega arith in rw e (none (k + 1) (omega arith)))

-- dots at multiples of eight are in the frame together
outside_together : (left x y k : ℕ) → left % 8 ≡ 0 → x % 8 ≡ 0 → k < 8 → is_in_frame left x y ≡ false → is_in_frame left (x + k) y ≡ false
outside_together left x y k l r small out = is_false _ (λ e.
    let h = inside_tells left (x + k) y e in
    let from : left ≤ x = omega (arith, h.from) in
    let to : x < left + 640 = omega (arith, h.to) in
    let inside : is_in_frame left x y ≡ true = tells_inside left x y (record { from = from; to = to; top = h.top; bottom = h.bottom }) in
    cc)

pub eight_outside : (left x y : ℕ) (dots frame : List ℕ) → left % 8 ≡ 0 → x % 8 ≡ 0 → length dots ≡ 8 → is_in_frame left x y ≡ false →
    frame ≡ dots_set left x y dots frame
eight_outside left x y dots frame l r eight out =
    sym (all_outside left x y dots frame (λ k h. outside_together left x y k l r (omega arith) out))

-- some dots and then others
pub dots_set-append : (left x y : ℕ) (dots more frame : List ℕ) →
    dots_set left x y (dots ++ more) frame ≡ dots_set left (x + length dots) y more (dots_set left x y dots frame)
dots_set-append left x y [] more frame = rw add-zero refl
dots_set-append left x y (d ∷ dots) more frame =
    let e : x + 1 + length dots ≡ x + suc (length dots) = omega arith in
    dots_set-append left (x + 1) y dots more (dot_set left x y d frame)
    ∙ ap (λ k. dots_set left k y more (dots_set left (x + 1) y dots (dot_set left x y d frame))) e

-- sixteen dots are their first eight and their last
pub halves : (dots : List ℕ) → length dots ≡ 16 → take 8 dots ++ take 8 (drop 8 dots) ≡ dots
halves dots sixteen =
    let few = length-drop 8 dots in
    ap (λ last. take 8 dots ++ last) (take_all 8 (drop 8 dots) (omega (arith, few, sixteen))) ∙ take-append-drop 8 dots

-- dots to the right of the frame change nothing
pub past_the_end : (left x y : ℕ) (dots frame : List ℕ) → left + 640 ≤ x → dots_set left x y dots frame ≡ frame
past_the_end left x y dots frame past = all_outside left x y dots frame (λ k h. is_false _ (λ e. let i = inside_tells left (x + k) y e in let to = i.to in omega arith))

pub counted : (left eights y : ℕ) (dots frame : List ℕ) → left ≤ 240 → eights ≤ 512 → dots_set left (8 * eights) y dots frame ≡ dots_set left (min (8 * eights) 4095) y dots frame
counted left eights y dots frame l small =
    elim (cases_lt eights 512) [
      | inl below ↦ let e : min (8 * eights) 4095 ≡ 8 * eights = omega arith in rw e refl
      | inr end ↦ past_the_end left (8 * eights) y dots frame (omega arith) ∙ sym (past_the_end left (min (8 * eights) 4095) y dots frame (omega arith))
    ]

-- dots that are put into the frame's list
pub put_inside : (left x y at count : ℕ) (dots frame new : List ℕ) → length dots ≡ count → left ≤ x → x + count ≤ left + 640 → 40 ≤ y → y < 296 →
    at ≡ 640 * (y - 40) + (x - left) → length frame ≡ 163840 → new ≡ take at frame ++ (dots ++ drop (at + count) frame) → new ≡ dots_set left x y dots frame
put_inside left x y at count dots frame new long from to top bottom place size is =
    is ∙ ap (λ k. take at frame ++ (dots ++ drop (at + k) frame)) (sym long)
    ∙ sym (all_inside left x y at dots frame from (omega (arith, long, to)) top bottom place (omega (arith, long, to, place, size)))
