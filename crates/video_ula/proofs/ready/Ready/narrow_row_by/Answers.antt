use Rattle.std.proofs.Common.{◌≡◌, ◌∙◌, sym, ap, ℕ, ◌+◌, ◌*◌, take, arith}
use Rattle.std.specs.Prelude.{slice_index}
use Rattle.video_ula.specs.Pixels.{side_by_side}
use Rattle.video_ula.specs.Colours.{eight_at}
use Rattle.video_ula.proofs.Rows.{row_more, pair_more}
use borrow.Rule.Slice.PartMut.{put_mid}
use Rattle.video_ula.proofs.ready.Ready.narrow_row_by.Goals as goal

pub loop-i-preserved : goal.loop-i-preserved
loop-i-preserved c =
    let i = c.loop-i.i in
    let f = λ (k : ℕ). eight_at c.args.self.now.first (slice_index c.args.bytes.now (k * c.args.step)) in
    let xs = put_mid (32 * i) _ c.loop-i.to c.put_sixteen.new.to in
    let one : take (32 * i + 16) xs ≡ side_by_side f (4 * i + 2) =
    pair_more f (4 * i) (32 * i) _ (32 * i + 16) c.loop-i.to c.first.result c.first-in-loop-i.result _ c.loop-i.invariant (omega arith)
    c.first.ensures.dots c.first-in-loop-i.ensures.dots (c.put_sixteen.ensures ∙ c.both-one.ensures.dots) (omega arith) in
    let next : 4 * i + 2 + 1 ≡ 4 * i + 3 = omega arith in
    let all : 4 * i + 2 + 2 ≡ 4 * (i + 1) = omega arith in
    pair_more f (4 * i + 2) (32 * i + 16) _ (32 * (i + 1)) xs c.first-in-loop-i-2.result c.first-in-loop-i-3.result _ one (omega arith)
    c.first-in-loop-i-2.ensures.dots (c.first-in-loop-i-3.ensures.dots ∙ ap f (sym next)) (c.put_sixteen-in-loop-i.ensures ∙ c.both-two.ensures.dots) (omega arith)
    ∙ ap (λ k. side_by_side f k) all

pub loop-k-preserved : goal.loop-k-preserved
loop-k-preserved c =
    let k = c.loop-k.k in
    row_more (λ k. eight_at c.args.self.now.first (slice_index c.args.bytes.now (k * c.args.step))) k (8 * k) _
    (8 * (k + 1)) c.loop-k.to _ c.loop-k.invariant (omega arith) (c.put_eight.ensures ∙ c.first-eight.ensures.dots) (omega arith)
