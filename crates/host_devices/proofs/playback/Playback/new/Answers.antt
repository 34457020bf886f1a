use Rattle.std.proofs.Common.{ℕ, sym, ap, refl, arith}
use Rattle.std.specs.Prelude.{unwrap_or}
use Rattle.keyboard.specs.Keys.{Keys}
use Rattle.key_script.specs.Keys.{last_made}
use Rattle.key_script.specs.Last.{last_said}
use Rattle.key_script.specs.Levels.{level_given}
use Rattle.host_devices.proofs.Played.{no-level}
use Rattle.host_devices.proofs.playback.Playback.new.Goals as goal

pub returns-clause-played : goal.returns-clause-played
returns-clause-played c =
    let event = rw c.events.ensures.events at c.event_tick-event.ensures in
    let order = c.events.ensures.rules.order in
    record {
      within = omega arith;
      room = omega (arith, c.requires.room);
      has_left = λ k late. refl;
      is_left = λ k key late. ap (λ (f : Keys). unwrap_or (last_made key k c.args.script) (f key)) (sym c.new.ensures);
      at_level = λ k channel late. ap (λ (n : ℕ). unwrap_or (last_said (level_given channel) k c.args.script) n) (sym (no-level channel));
      four = refl;
      later = event.later 0 order;
      early = event.above 0 (omega arith) order;
    }
