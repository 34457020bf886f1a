use Rattle.cpu_whole.proofs.Forms.{pointer_absolute, pointer_with_x}
use Rattle.cpu_whole.proofs.alone.jump.Goals as goal

pub jump_through-requires-clause-pointer : goal.jump_through-requires-clause-pointer
jump_through-requires-clause-pointer g c = pointer_absolute c.in-Ind.is (rw (c.word.ensures, c.requires.first, c.byte-high.ensures, c.place.ensures))

pub jump_through-requires-in-IndAbsX-clause-pointer : goal.jump_through-requires-in-IndAbsX-clause-pointer
jump_through-requires-in-IndAbsX-clause-pointer g c =
    pointer_with_x c.in-IndAbsX.is (rw (c.wrapping_sum.ensures, c.word-in-IndAbsX.ensures, c.requires.first, c.byte-high.ensures, c.place.ensures))
