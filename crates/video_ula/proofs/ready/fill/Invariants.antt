use Rattle.std.proofs.Common.{◌≡◌, ◌^◌, ◌-◌, map, take, length}
use Rattle.std.specs.List.{range_with_len}
use Rattle.video_ula.specs.Colours.{eight_in}
use Rattle.video_ula.proofs.ready.fill.Given as goal

-- the bytes that are done
abbrev pub invariant-loop-byte : goal.invariant-loop-byte
invariant-loop-byte l =
    ((length l.first ≡ 256) × (take l.byte l.first ≡ map (λ byte. eight_in 0 l.entries byte (2 ^ (3 - l.width))) (range_with_len 0 l.byte)))
    × ((length l.last ≡ 256) × (take l.byte l.last ≡ map (λ byte. eight_in 8 l.entries byte (2 ^ (3 - l.width))) (range_with_len 0 l.byte)))
