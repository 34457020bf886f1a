use Rattle.adc7002.proofs.Conversions.{ends}
use Rattle.adc7002.proofs.law.a_conversion_ends_in_time.Goals as goal

pub returns : goal.returns
returns c = ends
