use Rattle.adc7002.proofs.Conversions.{goes_on}
use Rattle.adc7002.proofs.law.a_conversion_goes_on_until_its_end.Goals as goal

pub returns : goal.returns
returns c = goes_on
