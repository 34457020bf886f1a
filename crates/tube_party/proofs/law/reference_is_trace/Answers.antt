use Rattle.beeb_bits.specs.declared.Side.TheVariants.{Host, Para}
use Rattle.tube_party.proofs.TraceLemmas.{reference_trace}
use Rattle.tube_party.proofs.law.reference_is_trace.Goals as goal

pub returns : goal.returns
returns g c =
    reference_trace g.H.Party.transitions g.P.Party.transitions g.met.H.Party.lawful g.met.P.Party.lawful
    (λ s. g.met.H.Party.permitted s Host c.requires.sides.0) (λ t. g.met.P.Party.permitted t Para c.requires.sides.1)
