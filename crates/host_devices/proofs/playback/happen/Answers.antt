use Rattle.std.proofs.Common.{◌∙◌, ◌+◌, ◌++◌, ℕ, false, List, sym, ap, replicate, drop, arith}
use Rattle.std.proofs.lemmas.Grind.{common_steps}
use Rattle.keyboard.specs.Keys.{keys_of}
use Rattle.keyboard.specs.Keys.{Keys}
use Rattle.key_script.specs.Keys.{made_of}
use Rattle.key_script.specs.Levels.{level_given}
use Rattle.key_script.specs.Events.{NeverFallsFrom}
use Rattle.host_devices.specs.CodePlayback.{level_of}
use Rattle.host_devices.proofs.Played.{key-or, level-or, left-more, left-later, taken-more, room-more, all-shot}
use Rattle.host_devices.proofs.playback.happen.Goals as goal

pub loop-place-init : goal.loop-place-init
loop-place-init c = record {
  within = c.requires.within;
  room = c.requires.room;
  is_left = left-later made_of false c.args.events.now (drop c.args.place.now c.args.events.now) (keys_of c.args.keys.now) c.requires.is_left (omega arith);
  at_level = left-later level_given 0 c.args.events.now (drop c.args.place.now c.args.events.now) (level_of c.args.levels.now) c.requires.at_level (omega arith);
  four = c.requires.four;
  later = c.requires.later;
  taken = record {
    has_left = λ k late. c.requires.has_left k (omega (arith, late));
    taken = sym (ap (λ (n : ℕ). c.args.taken.now.frames ++ replicate n c.args.frame.now) (c.requires.has_left c.args.k (omega arith)));
  };
}

pub loop-place-preserved : goal.loop-place-preserved
loop-place-preserved c =
    let events = c.args.events.now in
    let place = c.loop-place.place in
    let low = c.loop-place-test.true in
    let so_far = c.loop-place.invariant in
    let later : NeverFallsFrom c.args.k (drop (place + 1) events) = grind (arith, common_steps) in
    record {
      within = omega arith;
      room = room-more events _ low c.turn.ensures.room so_far.room;
      is_left = left-more made_of false events _ (keys_of c.loop-place.keys) low (omega (arith, c.if-events-place.true))
          (λ i. key-or _ (keys_of c.loop-place.keys) i ∙ ap (λ (f : Keys). f i) (sym c.turn.ensures.keys)) so_far.is_left;
      at_level = left-more level_given 0 events _ (level_of c.loop-place.levels) low (omega (arith, c.if-events-place.true))
          (λ i. level-or _ c.loop-place.levels i (c.requires.rules place _ low).numbers so_far.four ∙ ap (λ (l : List ℕ). level_of l i) (sym c.turn.ensures.levels)) so_far.at_level;
      four = c.turn.ensures.four;
      later = later;
      taken = taken-more _ low (omega (arith, c.if-events-place.true)) c.turn.ensures.frames so_far.taken;
    }

pub returns-else-events-place-clause-taken : goal.returns-else-events-place-clause-taken
returns-else-events-place-clause-taken c =
    let left = drop c.loop-place.place c.args.events.now in
    let later : NeverFallsFrom (c.args.k + 1) left = grind (arith, common_steps) in
    all-shot left c.args.k c.args.frame.now later c.loop-place.invariant.taken.taken
