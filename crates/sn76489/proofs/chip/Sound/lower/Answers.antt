use Rattle.std.proofs.Common.{◌≡◌, ◌+◌, ◌%◌, ◌∙◌, ap}
use Rattle.sn76489.specs.State.{State}
use Rattle.sn76489.specs.Clock.{clocks}
use Rattle.sn76489.specs.Quiet.{IsQuiet}
use Rattle.sn76489.proofs.Resting.{lowered_is}
use Rattle.sn76489.proofs.chip.Sound.lower.Goals as goal

pub returns : goal.returns
returns c =
    let v : State = record {
      tone1 = c.self.inside.tone1;
      tone2 = c.self.inside.tone2;
      tone3 = c.self.inside.tone3;
      noise = c.self.inside.noise;
      latched = c.self.inside.latched;
      count = c.self.inside.count;
    } in
    let same : v ≡ c.args.self.now = c.self.view_is in
    let quiet : IsQuiet c.args.n v = rw same c.requires in
    let count : (c.from.result + c.args.n) % 128 ≡ (v.count + c.args.n) % 128 = ap (λ k. (k + c.args.n) % 128) c.from.ensures in
    lowered_is c.args.n v _ _ _ _ quiet c.lower.ensures c.lower-2.ensures c.lower-3.ensures count ∙ ap (clocks c.args.n) same
