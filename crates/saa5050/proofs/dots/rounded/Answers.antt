use Rattle.saa5050.proofs.Lines.{letter-line}
use Rattle.saa5050.proofs.dots.rounded.Goals as goal

pub returns : goal.returns
returns c =
    letter-line c.doubled-dots.result c.doubled-near.result c.args.row c.args.near
    c.doubled-dots.ensures.line c.doubled-near.ensures.line c.doubled-dots.ensures.bound c.doubled-near.ensures.bound
