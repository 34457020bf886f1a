use Rattle.std.proofs.Common.{refl, zero-add, arith}
use Rattle.crtc6845.specs.Laws.{clocks}
use Rattle.crtc6845.proofs.Lines.{character_after, clocks-registers, start_leaves-kept}
use Rattle.crtc6845.proofs.law.sync_comes_in_each_line.Goals as goal

pub returns : goal.returns
returns c = λ chip n bits start.
    let at = rw zero-add at (character_after chip.registers.horizontal_total n 0 chip refl bits.horizontal_total start (omega arith)) in
    rw (start_leaves-kept (clocks n chip), at, clocks-registers n chip) refl
