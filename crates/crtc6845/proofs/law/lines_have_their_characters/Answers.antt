use Rattle.std.proofs.Common.{ap, refl, ℕ, ◌==◌, zero-add, arith}
use Rattle.crtc6845.proofs.Lines.{character_after}
use Rattle.crtc6845.proofs.law.lines_have_their_characters.Goals as goal

pub returns : goal.returns
returns c = λ chip n bits start.
    ap (λ (k : ℕ). k == 0) (rw zero-add at (character_after chip.registers.horizontal_total n 0 chip refl bits.horizontal_total start (omega arith)))
