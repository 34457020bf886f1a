use Rattle.std.proofs.Common.{refl}
use Rattle.saa5050.proofs.Words.{column-line}
use Rattle.saa5050.proofs.dots.columns.Goals as goal

pub returns-in-false-true-false : goal.returns-in-false-true-false
returns-in-false-true-false c = let arm = c.in-false-true-false in column-line 0x03F arm.is-0 arm.is-1 arm.is-2 refl

pub returns-in-true-false-false : goal.returns-in-true-false-false
returns-in-true-false-false c = let arm = c.in-true-false-false in column-line 0xFC0 arm.is-0 arm.is-1 arm.is-2 refl

pub returns-in-true-true-false : goal.returns-in-true-true-false
returns-in-true-true-false c = let arm = c.in-true-true-false in column-line 0xFFF arm.is-0 arm.is-1 arm.is-2 refl

pub returns-in-true-false-true : goal.returns-in-true-false-true
returns-in-true-false-true c = let arm = c.in-true-false-true in column-line 0x3C0 arm.is-0 arm.is-1 arm.is-2 refl

pub returns-in-false-true-true : goal.returns-in-false-true-true
returns-in-false-true-true c = let arm = c.in-false-true-true in column-line 0x00F arm.is-0 arm.is-1 arm.is-2 refl

pub returns-in-true-true-true : goal.returns-in-true-true-true
returns-in-true-true-true c = let arm = c.in-true-true-true in column-line 0x3CF arm.is-0 arm.is-1 arm.is-2 refl
