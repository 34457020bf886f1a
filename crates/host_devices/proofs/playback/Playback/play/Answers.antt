use Rattle.std.proofs.Common.{◌+◌, drop, arith}
use Rattle.host_devices.proofs.Played.{not-before}
use Rattle.host_devices.proofs.playback.Playback.play.Goals as goal

pub happen-requires : goal.happen-requires
happen-requires c =
    let p = c.args.self.now in
    let played = c.requires.played in
    rw c.events-events.ensures.events (record {
      rules = c.events-events.ensures.rules.each;
      within = played.within;
      room = played.room;
      is_left = played.is_left;
      at_level = played.at_level;
      has_left = played.has_left;
      later = not-before (drop p.place p.script) played.later played.early;
      four = played.four;
    })

pub returns-clause-played : goal.returns-clause-played
returns-clause-played c =
    let happened = rw c.events-events.ensures.events at c.happen.ensures in
    let event = rw c.events-events.ensures.events at c.event_tick-self.ensures in
    record {
      within = happened.within;
      room = happened.room;
      has_left = happened.has_left;
      is_left = happened.is_left;
      at_level = happened.at_level;
      four = happened.four;
      later = event.later (c.args.k + 1) happened.later;
      early = event.above (c.args.k + 1) (omega (arith, c.requires.room)) happened.later;
    }
