use Rattle.saa5050.proofs.Codes.{one_code_more, double_is_among_codes}
use Rattle.saa5050.proofs.law.row_is_fold.Goals as goal

pub returns-clause-more : goal.returns-clause-more
returns-clause-more c = one_code_more

pub returns-clause-double : goal.returns-clause-double
returns-clause-double c = double_is_among_codes
