use Rattle.std.proofs.Common.{◌≡◌, length, rules}
use Rattle.tube_trace.proofs.WrittenLemmas.{two_bytes, pair_bytes, ten_pairs}
use Rattle.tube_trace.proofs.line.line_of.Goals as goal

pub returns : goal.returns
returns c =
    let two : length c.args.byte ≡ 2 = search rules in
    rw (
      ten_pairs c.args.tick.0,
      ← (pair_bytes c.pair_at.result _ c.pair_at.ensures),
      ← (pair_bytes c.pair_at-2.result _ c.pair_at-2.ensures),
      ← (pair_bytes c.pair_at-3.result _ c.pair_at-3.ensures),
      ← (pair_bytes c.pair_at-4.result _ c.pair_at-4.ensures),
      ← (pair_bytes c.pair_at-5.result _ c.pair_at-5.ensures),
      c.side_letter-side.ensures,
      ← (two_bytes c.args.byte two),
    )
