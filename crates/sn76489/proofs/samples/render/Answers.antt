use Rattle.std.proofs.Common.{◌∙◌, sym, ap, refl, ◌*◌, ◌++◌, [], ◌∷◌, pos, arith, rules}
use Rattle.sn76489.specs.Level.{level}
use Rattle.sn76489.specs.Samples.{samples}
use Rattle.sn76489.proofs.Playing.{before_first}
use Rattle.sn76489.proofs.Sampling.{pushed, padded}
use Rattle.sn76489.proofs.Free.{left_later, some_played, some_sampled, some_unsampled}
use Rattle.sn76489.proofs.samples.render.Goals as goal

pub loop-clock-init : goal.loop-clock-init
unfolding samples
loop-clock-init c = record {
  chip = rw c.new-sound.ensures (before_first c.args.writes.now c.requires.order);
  items = c.in_ok-list.ensures.items;
  size = c.in_ok-list.ensures.len;
  room = omega (arith, c.in_ok-list.ensures.capacity, c.div_ceil.ensures);
  few = omega arith;
}

pub clocks_at_once-some-requires-clause-order : goal.clocks_at_once-some-requires-clause-order
clocks_at_once-some-requires-clause-order c =
    rw c.catch_up-left.ensures.left (left_later (4 * c.loop-clock.clock) 0 c.loop-clock.left.now c.loop-clock.invariant.chip.order)

pub loop-clock-preserved : goal.loop-clock-preserved
loop-clock-preserved c =
    let some = c.clocks_at_once-some.ensures in
    let played = some_played c.args.writes.now c.loop-clock.left.now c.catch_up-left.result.now c.loop-clock.clock c.clocks_at_once-some.result
    c.loop-clock.sound c.catch_up-left.new.self c.advance.new.self some.some c.loop-clock.invariant.chip c.catch_up-left.ensures.chip
    c.catch_up-left.ensures.left some.free c.advance.ensures in
    record {
      chip = played.0;
      items =
          c.loop-clock.invariant.items
          ∙ sym (some_unsampled c.args.writes.now c.loop-clock.clock c.clocks_at_once-some.result some.some some.samples c.if-clock-eq1.false);
      size = omega (arith, c.loop-clock.invariant.size, some.some, some.samples, c.if-clock-eq1.false);
      room = c.loop-clock.invariant.room;
      few = some.within;
    }

pub loop-clock-preserved-then-clock-eq1 : goal.loop-clock-preserved-then-clock-eq1
loop-clock-preserved-then-clock-eq1 c =
    let some = c.clocks_at_once-some.ensures in
    let list = c.loop-clock.list in
    let played = some_played c.args.writes.now c.loop-clock.left.now c.catch_up-left.result.now c.loop-clock.clock c.clocks_at_once-some.result
    c.loop-clock.sound c.catch_up-left.new.self c.advance.new.self some.some c.loop-clock.invariant.chip c.catch_up-left.ensures.chip
    c.catch_up-left.ensures.left some.free c.advance.ensures in
    record {
      chip = played.0;
      items =
          pushed list.items c.push_reserved.new.self.items c.level.result c.advance.new.self c.advance.new.self (search rules)
          c.push_reserved.ensures.items c.level.ensures refl
          ∙ ap (λ l. l ++ pos (level c.advance.new.self) ∷ []) c.loop-clock.invariant.items
          ∙ sym (some_sampled c.args.writes.now c.loop-clock.clock c.clocks_at_once-some.result c.advance.new.self some.some some.samples c.if-clock-eq1.true played.1);
      size = omega (arith, c.push_reserved.ensures.len, c.loop-clock.invariant.size, some.some, some.samples, c.if-clock-eq1.true);
      room = omega (arith, c.push_reserved.ensures.capacity, c.loop-clock.invariant.room);
      few = some.within;
    }

pub returns-clause-samples : goal.returns-clause-samples
returns-clause-samples c =
    c.loop-clock.invariant.items
    ∙ padded c.args.writes.now c.args.steps c.loop-clock.clock (omega (arith, c.div_ceil-clocks.ensures, c.loop-clock.invariant.few, c.loop-clock-test.false))
