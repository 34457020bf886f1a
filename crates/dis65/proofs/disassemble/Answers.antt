use Rattle.std.proofs.Common.{arith}
use Rattle.dis65.proofs.LawLemmas.{text_means}
use Rattle.dis65.proofs.disassemble.Goals as goal

pub returns-clause-meaning : goal.returns-clause-meaning
returns-clause-meaning c = text_means _ _ _ _ c.in_ok-listing.ensures c.ranges.origin.fits (λ k. let fits = c.type_inv.bytes k in omega (arith, fits)) c.requires
