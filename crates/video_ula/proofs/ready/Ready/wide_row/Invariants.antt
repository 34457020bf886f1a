use Rattle.std.proofs.Common.{◌≡◌, ◌*◌, take}
use Rattle.std.specs.Prelude.{slice_index}
use Rattle.video_ula.specs.Pixels.{side_by_side}
use Rattle.video_ula.specs.Colours.{sixteen_at}
use Rattle.video_ula.proofs.ready.Ready.wide_row.Given as goal

-- the dots that are written
abbrev pub invariant-loop-i : goal.invariant-loop-i
invariant-loop-i l = take (16 * l.i) l.to ≡ side_by_side (λ k. sixteen_at l.self (slice_index l.bytes (k * l.step))) l.i
