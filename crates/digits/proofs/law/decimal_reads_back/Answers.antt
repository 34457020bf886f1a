use Rattle.digits.proofs.DecimalLaws.{reads_back, only_decimal}
use Rattle.digits.proofs.law.decimal_reads_back.Goals as goal

pub returns-clause-back : goal.returns-clause-back
returns-clause-back c = reads_back

pub returns-clause-only : goal.returns-clause-only
returns-clause-only c = only_decimal
