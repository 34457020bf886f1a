use Rattle.std.proofs.Common.{◌≡◌, ◌*◌, take}
use Rattle.std.specs.Prelude.{slice_index}
use Rattle.video_ula.specs.Pixels.{side_by_side}
use Rattle.video_ula.specs.Colours.{eight_at}
use Rattle.video_ula.proofs.ready.Ready.narrow_row_by.Given as goal

-- the dots that are written
abbrev pub invariant-loop-i : goal.invariant-loop-i
invariant-loop-i l = take (32 * l.i) l.to ≡ side_by_side (λ k. eight_at l.self.first (slice_index l.bytes (k * l.step))) (4 * l.i)

abbrev pub invariant-loop-k : goal.invariant-loop-k
invariant-loop-k l = take (8 * l.k) l.to ≡ side_by_side (λ k. eight_at l.self.first (slice_index l.bytes (k * l.step))) l.k
