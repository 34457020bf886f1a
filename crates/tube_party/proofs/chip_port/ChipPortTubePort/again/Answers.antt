use Rattle.std.proofs.Common.{◌≡◌, ◌∙◌, ℕ, refl, sym, ap, arith}
use Rattle.tube_chip.specs.Act.{answer_of, chip_after}
use Rattle.tube_party.specs.CodePassing.{chip_port_state, ChipPortState, IsPassed}
use Rattle.tube_party.proofs.Again.{again-on, still-seen}
use Rattle.tube_party.proofs.chip_port.ChipPortTubePort.again.Goals as goal

pub apply-requires : goal.apply-requires
apply-requires c = c.is_status.ensures.may c.if-not-is_status.false c.args.self.now.turn

pub loop-times-preserved : goal.loop-times-preserved
loop-times-preserved c =
    let k : ℕ = c.loop-times.times in
    let old : ChipPortState = chip_port_state c.args.self.now in
    let now : ChipPortState = chip_port_state c.loop-times.self in
    let new : ChipPortState = record now { host = c.note_own.new.host_log; para = c.note_own.new.para_log } in
    let left : chip_after c.loop-times.self.chip c.loop-times.self.turn c.args.op ≡ c.loop-times.self.chip =
    c.is_status.ensures.stays c.if-not-is_status.false c.loop-times.self.chip c.loop-times.self.turn in
    let passed : IsPassed now c.loop-times.at c.args.op c.args.byte new = record {
      early = c.if-at-self.true;
      byte_is = sym c.if-apply-byte.false ∙ c.apply.ensures.answer ∙ ap (λ x. answer_of x c.args.self.now.turn c.args.op) (sym c.loop-times.invariant.chip)
          ∙ ap (λ x. answer_of c.loop-times.self.chip x c.args.op) (sym c.loop-times.invariant.turn);
      chip_is = sym left;
      stays = still-seen c.loop-times.self.is_read c.loop-times.self.chip (chip_after c.loop-times.self.chip c.loop-times.self.turn c.args.op) left;
      reads = λ _ _. c.is_status.ensures.reads c.if-not-is_status.false;
      host_noted = c.note_own.ensures.host;
      para_noted = c.note_own.ensures.para;
      turn_is = refl;
      safe_until_is = refl;
      is_read_is = refl;
    } in
    let both = again-on IsPassed c.args.op c.args.byte c.args.period k old c.args.tick.0 c.loop-times.invariant.again c.loop-times.invariant.at passed in
    record {
      again = both.0;
      at = both.1;
      chip = c.loop-times.invariant.chip;
      turn = c.loop-times.invariant.turn;
      few = omega (arith, c.loop-times-test.true);
    }
