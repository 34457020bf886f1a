use Rattle.std.proofs.Common.{◌≡◌, ◌≤◌, ◌+◌, ◌*◌, ◌-◌, ◌∙◌, sym, suc, min, refl, arith}
use Rattle.std.proofs.Math.Nat.{add-mul-mod_self_right}
use Rattle.beeb_bits.specs.Clock.{micro}
use Rattle.host_devices.specs.CodePicture.{drawn}
use Rattle.host_bus.specs.Board.{tick}
use Rattle.host_bus.specs.CodeBoard.{around_by, moving}
use Rattle.host_devices.proofs.Played.{played-later, stay}
use Rattle.host_bus.proofs.Closed.{quiet, idle, microseconds_in-played, still-on-time}
use Rattle.host_bus.proofs.board.microseconds_or_events.Goals as goal

pub returns-then-k-playback : goal.returns-then-k-playback
returns-then-k-playback c =
    let k = c.args.k in
    let u = micro c.args.clock in
    let n = c.microseconds_in-n.result in
    let p = c.args.playback.now in
    let next = c.min-then-k-playback.result in
    let early = c.if-k-playback.true in
    let begins = c.requires.begins early in
    let all = rw c.min.ensures at c.microseconds_in-n.ensures.all in
    let no_more = rw c.min.ensures at c.microseconds_in-n.ensures.no_more in
    let is : next ≡ min (k + n * u) p.event = rw c.micro.ensures.value at c.min-then-k-playback.ensures in
    let same : min c.args.t next ≡ min c.args.t p.event = omega (arith, is, all, early, c.requires.due) in
    record {
      on = omega (arith, is, all, early, c.requires.due);
      script = refl;
      ticks = rw c.advance.ensures (sym (microseconds_in-played (around_by c.args.clock c.args.ram.now c.args.glyphs.now.font p.script) n (min c.args.t next) p
          (moving (drawn c.args.ram.now c.args.glyphs.now.font c.args.devices.now) p.shots.frames) refl c.requires.played begins
          (omega (arith, same)) (omega (arith, same, all)) (omega (arith, same, no_more, early, all, c.requires.due))));
      played = played-later (min c.args.t next) c.requires.played (omega (arith, same, early, c.requires.due)) (omega (arith, same));
      next = record {
        step = k + n * u;
        begins = add-mul-mod_self_right k n u ∙ begins;
        first = omega (arith, is, all, early, c.requires.due);
        near = omega (arith, is, all, no_more, early, c.requires.due);
        least = is;
      };
    }

pub returns-else-k-playback : goal.returns-else-k-playback
returns-else-k-playback c =
    let k = c.args.k in
    let done = c.tick_with_events.ensures in
    let p = c.tick_with_events.new.playback in
    let next = c.tick_with_events.result in
    let to = min c.args.t next in
    let script = c.args.playback.now.script in
    let past : k + 1 ≤ next = omega (arith, done.next.first, done.next.least, done.played.early) in
    let (typed, set) = stay k done.played (omega arith) (omega (arith, done.played.early)) in
    let low : k + 1 ≤ to = omega (arith, c.requires.due, past) in
    let first : to - k ≡ suc (to - (k + 1)) = omega (arith, low) in
    let a = around_by c.args.clock c.args.ram.now c.args.glyphs.now.font script in
    let m = moving (drawn c.args.ram.now c.args.glyphs.now.font c.args.devices.now) c.args.playback.now.shots.frames in
    record {
      on = omega (arith, past);
      script = done.script;
      ticks = rw (
        done.devices,
        done.shots,
        first,
        typed,
        set,
        done.script,
      )
          (sym (idle a done.next (rw done.script at (quiet done.played done.next)) (to - (k + 1)) (k + 1) (tick a k m) (omega arith) (omega (arith, low))));
      played = played-later to done.played low (omega (arith, done.next.least));
      next = still-on-time to done.next low (omega arith);
    }
