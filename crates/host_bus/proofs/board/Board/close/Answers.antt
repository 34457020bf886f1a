use Rattle.std.proofs.Common.{◌≡◌, ◌≤◌, ◌∙◌, ap, min, List, arith}
use Rattle.key_script.specs.declared.Event.{Event}
use Rattle.host_bus.specs.Board.{BoardState, board_closed}
use Rattle.host_bus.specs.CodeBoard.{board_seen, moving}
use Rattle.host_devices.specs.CodePicture.{drawn}
use Rattle.host_devices.specs.CodeBreaks.{breaks_before}
use Rattle.host_devices.proofs.Heard.{in-time-later}
use Rattle.host_bus.proofs.Closed.{valid-later, seen-later, gone, caught}
use Rattle.host_bus.proofs.board.Board.close.Goals as goal

pub loop-next-init : goal.loop-next-init
loop-next-init c =
    let b = c.self.inside in
    let valid = c.self.invariant in
    let u = min b.next c.args.t in
    let same : b.closed ≡ c.args.self.now.closed = ap (λ (s : BoardState). s.closed) c.self.view_is in
    let low : b.closed ≤ u = omega (arith, same, c.requires.low, valid.on_time.first, valid.on_time.least, valid.played.early) in
    record {
      valid = valid-later u valid low (omega arith);
      same = caught (board_seen b) u c.args.t (seen-later u valid low (omega arith)) (omega arith) (ap (λ (s : BoardState). board_closed s c.args.t) c.self.view_is);
    }

pub loop-next-preserved : goal.loop-next-preserved
loop-next-preserved c =
    let next = c.loop-next.next in
    let b = record c.loop-next.self-inside { closed = min next c.args.t; next = next } in
    let valid = c.loop-next.invariant.valid in
    let done = rw c.deref.ensures.value at c.microseconds_or_events-next.ensures in
    let p = c.microseconds_or_events-next.new.playback in
    let u = min c.args.t c.microseconds_or_events-next.result in
    let same : min c.microseconds_or_events-next.result c.args.t ≡ u = omega arith in
    let here : next ≡ min next c.args.t = omega (arith, c.loop-next-test.true) in
    let past : next ≤ u = omega (arith, c.loop-next-test.true, done.on) in
    let after = drawn b.ram.items b.glyphs.font c.microseconds_or_events-next.new.devices in
    let with_script : List Event → BoardState =
    λ script. record (board_seen b) { script = script; breaks = breaks_before b.breaks.place script; devices = after; shots = p.shots.frames; closed = u } in
    let went : board_seen (record b { playback = p; devices = c.microseconds_or_events-next.new.devices; closed = u }) ≡ board_closed (board_seen b) u =
    ap with_script done.script ∙ gone (board_seen b) u (moving after p.shots.frames) (omega (arith, past, here)) (rw here at done.ticks) in
    rw same (record {
      valid = record {
        stored = valid.stored;
        played = done.played;
        on_time = done.next;
        next_break = rw done.script valid.next_break;
        in_time = in-time-later u valid.in_time (omega (arith, past, here));
      };
      same = caught (board_seen b) u c.args.t went (omega arith) c.loop-next.invariant.same;
    })

pub invariant_of-self : goal.invariant_of-self
invariant_of-self c =
    let next = c.loop-next.next in
    let b = record c.loop-next.self-inside { closed = min next c.args.t; next = next } in
    valid-later c.args.t c.loop-next.invariant.valid (omega arith) c.loop-next-test.false

pub returns : goal.returns
returns c =
    let next = c.loop-next.next in
    let b = record c.loop-next.self-inside { closed = min next c.args.t; next = next } in
    seen-later c.args.t c.loop-next.invariant.valid (omega arith) c.loop-next-test.false ∙ c.loop-next.invariant.same
