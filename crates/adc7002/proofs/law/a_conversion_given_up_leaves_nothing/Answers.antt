use Rattle.adc7002.proofs.Conversions.{given_up}
use Rattle.adc7002.proofs.law.a_conversion_given_up_leaves_nothing.Goals as goal

pub returns : goal.returns
returns c = given_up
