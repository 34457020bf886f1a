use Rattle.std.proofs.Common.{◌≡◌, ◌≤◌, ◌+◌, ◌-◌, false, length, drop}
use Rattle.keyboard.specs.Keys.{keys_of}
use Rattle.key_script.specs.Keys.{made_of}
use Rattle.key_script.specs.Levels.{level_given}
use Rattle.key_script.specs.Events.{NeverFallsFrom, shots}
use Rattle.host_devices.specs.Shots.{shot_at}
use Rattle.host_devices.specs.CodePlayback.{IsLeft, level_of}
use Rattle.host_devices.proofs.Played.{AreTaken}
use Rattle.host_devices.proofs.playback.happen.Given as goal

abbrev pub invariant-loop-place : goal.invariant-loop-place
invariant-loop-place l = record {
  within : l.place ≤ length l.events;
  room : shots (drop l.place l.events) ≤ l.taken.room;
  is_left : IsLeft made_of false l.events (drop l.place l.events) (keys_of l.keys) (l.k + 1);
  at_level : IsLeft level_given 0 l.events (drop l.place l.events) (level_of l.levels) (l.k + 1);
  four : length l.levels ≡ 4;
  later : NeverFallsFrom l.k (drop l.place l.events);
  taken : AreTaken l.events l.place l.k l.frame l.taken.frames (shot_at l.k l.events l.frame l.fn.taken.frames);
}

abbrev pub decreases-loop-place : goal.decreases-loop-place
decreases-loop-place l = length l.events - l.place
