use Rattle.std.proofs.Common.{◌≡◌, ◌∙◌, ℕ, Some, refl, sym, ap, arith, rules}
use Rattle.tube_party.proofs.Again.{again-on}
use Rattle.session.specs.CodeSight.{byte_seen}
use Rattle.session.specs.CodePort.{Shown, shown, IsRead}
use Rattle.session.proofs.port.StatusPortTubePort.again.Goals as goal

pub loop-times-preserved : goal.loop-times-preserved
loop-times-preserved c =
    let k : ℕ = c.loop-times.times in
    let old : Shown = shown c.args.self.now in
    let now : Shown = shown c.loop-times.self in
    let new : Shown = record now { log = c.note.new.self } in
    let reads : c.byte_of.result ≡ Some c.args.byte = search rules in
    let read : IsRead now c.loop-times.at c.args.op c.args.byte new = record {
      early = c.if-at-self.true;
      byte_is = ap (λ z. byte_seen z c.args.op) c.loop-times.invariant.status ∙ sym c.byte_of.ensures ∙ reads;
      noted = c.note.ensures;
      side_is = refl;
      status_is = refl;
      below_is = refl;
    } in
    let both = again-on IsRead c.args.op c.args.byte c.args.period k old c.args.tick.0 c.loop-times.invariant.again c.loop-times.invariant.at read in
    record {
      again = both.0;
      at = both.1;
      status = c.loop-times.invariant.status;
      few = omega (arith, c.loop-times-test.true);
    }
