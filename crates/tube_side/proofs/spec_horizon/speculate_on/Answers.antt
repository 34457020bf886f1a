use Rattle.tube_side.specs.CodeSpecHorizon.{from_on}
use Rattle.tube_side.proofs.SpecHorizons.{tried_told, tried_seat}
use Rattle.tube_side.proofs.Waits.{tried_speculatively}
use Rattle.tube_side.proofs.spec_horizon.speculate_on.Goals as goal

pub returns-clause-told : goal.returns-clause-told
returns-clause-told g c p told =
    tried_told c.requires.is_speculation c.speculate_observed.new.pass c.speculate_observed.result
    c.requires.side told c.speculate_observed.ensures.speculated c.speculate_observed.ensures.learns

pub returns-clause-paid : goal.returns-clause-paid
returns-clause-paid g c p paid =
    let observed = from_on c.args.pass.now.known.spec_horizon (g.W.GhostSpeculation.speculation.until c.args.t.0) in
    tried_speculatively p c.args.t.0 observed c.speculate_observed.result
    c.requires.side c.requires.told.1.spec_horizon c.speculate_observed.ensures.speculated c.speculate_observed.ensures.learns paid

pub returns-clause-seat : goal.returns-clause-seat
returns-clause-seat g c =
    let observed = from_on c.args.pass.now.known.spec_horizon (g.W.GhostSpeculation.speculation.until c.args.t.0) in
    tried_seat c.args.pass.now c.speculate_observed.new.pass c.speculate_observed.result c.args.t.0 observed c.speculate_observed.ensures.speculated c.speculate_observed.ensures.learns
