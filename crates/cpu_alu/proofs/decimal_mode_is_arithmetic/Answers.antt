use Rattle.cpu_alu.proofs.DecimalMode.{decimal}
use Rattle.cpu_alu.proofs.decimal_mode_is_arithmetic.Goals as goal

pub returns-clause-sum : goal.returns-clause-sum
returns-clause-sum _ = λ part c x y low lower. (decimal part c x y low lower).0

pub returns-clause-sum_carry : goal.returns-clause-sum_carry
returns-clause-sum_carry _ = λ part c x y low lower. (decimal part c x y low lower).1

pub returns-clause-difference : goal.returns-clause-difference
returns-clause-difference _ = λ part c x y low lower. (decimal part c x y low lower).2

pub returns-clause-difference_carry : goal.returns-clause-difference_carry
returns-clause-difference_carry _ = λ part c x y low lower. (decimal part c x y low lower).3
