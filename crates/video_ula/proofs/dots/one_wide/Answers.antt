use Rattle.std.proofs.Common.{◌≡◌, ap, ℕ, arith}
use Rattle.std.specs.Prelude.{slice_index}
use Rattle.video_ula.specs.Pixels.{shifted_byte, entry_of, under_cursor}
use Rattle.video_ula.proofs.dots.one_wide.Goals as goal

-- from the ninth pixel on only ones are left
pub returns : goal.returns
returns c =
    let colour = λ (s : ℕ). under_cursor c.args.cursor (slice_index c.args.colours.now (entry_of s)) in
    let at = λ (k : ℕ) (e : shifted_byte c.args.byte k ≡ shifted_byte c.args.byte 8). ap colour e in
    cc (at 9 (omega arith), at 10 (omega arith), at 11 (omega arith), at 12 (omega arith), at 13 (omega arith), at 14 (omega arith), at 15 (omega arith))
