use Rattle.digits.proofs.HexLaws.{digits_are_hex, reads_back, only_digits}
use Rattle.digits.proofs.law.hex_reads_back.Goals as goal

pub returns-clause-digits : goal.returns-clause-digits
returns-clause-digits c = digits_are_hex

pub returns-clause-back : goal.returns-clause-back
returns-clause-back c = reads_back

pub returns-clause-only : goal.returns-clause-only
returns-clause-only c = only_digits
