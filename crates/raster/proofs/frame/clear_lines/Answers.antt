use Rattle.std.proofs.Common.{◌≡◌, ◌∙◌, ap, refl, ℕ, ◌+◌, ◌*◌, ◌++◌, List, [], length, arith}
use Rattle.std.proofs.lemmas.List.{replicate-append-replicate}
use Rattle.std.proofs.lemmas.Slice.{take-put_mid}
use Rattle.beeb_bits.specs.Zeros.{zeros, zeros-long}
use Rattle.raster.proofs.frame.clear_lines.Goals as goal

no_zeros : [] ≡ zeros 0
unfolding zeros
no_zeros = refl

more_zeros : (n m : ℕ) → zeros n ++ zeros m ≡ zeros (n + m)
unfolding zeros
more_zeros n m = replicate-append-replicate n m 0

pub loop-y-init : goal.loop-y-init
loop-y-init c = no_zeros

pub loop-y-preserved : goal.loop-y-preserved
loop-y-preserved c =
    let at = 640 * c.loop-y.y in
    let line = c.clear_line.new.dots in
    let long : length line ≡ 640 = ap (λ (xs : List ℕ). length xs) c.clear_line.ensures ∙ zeros-long 640 in
    let next : at + 640 ≡ 640 * (c.loop-y.y + 1) = omega arith in
    take-put_mid at _ c.loop-y.dots line (640 * (c.loop-y.y + 1)) (omega (arith, long)) (omega arith)
    ∙ ap (λ (xs : List ℕ). xs ++ line) c.loop-y.invariant ∙ ap (λ (xs : List ℕ). zeros at ++ xs) c.clear_line.ensures ∙ more_zeros at 640 ∙ ap (λ n. zeros n) next
