use Rattle.std.proofs.Common.{◌≡◌, ◌∙◌, sym, ap, subst, ℕ, ◌+◌, ◌*◌, ◌<◌, Bool, replicate, false, arith}
use Rattle.beeb_bits.specs.Bits.{bit}
use Rattle.video_ula.specs.Pixels.{dots_of}
use Rattle.raster.specs.Frame.{dots_set, is_in_frame}
use Rattle.raster.specs.State.{State}
use Rattle.raster.specs.CodeSteps.{wide}
use Rattle.raster.proofs.Spans.{fewer, black_drawn, bytes_drawn, outside_drawn}
use Rattle.raster.proofs.screen.Screen.draw_span.Goals as goal

pub returns-then-seen-eq0-clause-drawn : goal.returns-then-seen-eq0-clause-drawn
returns-then-seen-eq0-clause-drawn c = λ font.
    let s = c.args.self.now in
    let n = c.outside.result in
    let h = fewer c.args.span n c.args.n s c.outside.ensures.most c.requires.plain in
    let width : wide c.bit-narrow.result ≡ dots_of s.ula.control = ap (λ (b : Bool). wide b) (c.bit-narrow.ensures ∙ ap (λ (k : ℕ). bit k 4) c.mode.ensures)
    ∙ ap (λ (t : State). dots_of t.ula.control) c.self.view_is in
    let out : (k : ℕ) → k < n * dots_of s.ula.control → is_in_frame 240 (s.place.x + k) s.place.y ≡ false =
    λ k below. ap (λ (t : State). is_in_frame 240 (t.place.x + k) t.place.y) (sym c.self.view_is)
    ∙ c.outside.ensures.out k (subst (λ (w : ℕ). k < n * w) (sym width) below) in
    outside_drawn c.args.ram.now c.args.size font c.args.span n s h c.requires.shown c.requires.bits c.requires.counted out

pub returns-then-bit-clause-drawn : goal.returns-then-bit-clause-drawn
returns-then-bit-clause-drawn c = λ font.
    let s = c.args.self.now in
    let n = c.inside-seen.result in
    let h = fewer c.args.span n c.args.n s c.inside-seen.ensures.most c.requires.plain in
    let width : wide c.bit-narrow.result ≡ dots_of s.ula.control = ap (λ (b : Bool). wide b) (c.bit-narrow.ensures ∙ ap (λ (k : ℕ). bit k 4) c.mode.ensures)
    ∙ ap (λ (t : State). dots_of t.ula.control) c.self.view_is in
    let drawn = c.draw_black.ensures ∙ ap (λ (k : ℕ). dots_set 240 c.self.inside.place.x c.self.inside.place.y (replicate (n * k) 0) c.self.inside.working) width
    ∙ ap (λ (t : State). dots_set 240 t.place.x t.place.y (replicate (n * dots_of s.ula.control) 0) t.working) c.self.view_is in
    ap (λ (t : State). record t { working = c.draw_black.new.self }) c.self.view_is
    ∙ black_drawn c.args.ram.now c.args.size font c.args.span n s c.draw_black.new.self h c.requires.shown c.requires.bits c.requires.counted (sym c.bit.ensures ∙ c.if-bit.true) drawn

pub returns-clause-drawn : goal.returns-clause-drawn
returns-clause-drawn c = λ font.
    let s = c.args.self.now in
    let n = c.put_bytes.result in
    let put = c.put_bytes.ensures.most in
    let seen = c.inside-seen.ensures.most in
    let h = fewer c.args.span n c.args.n s (omega (arith, put, seen)) c.requires.plain in
    c.put_bytes.ensures.put
    ∙ bytes_drawn c.args.ram.now c.args.size font c.args.span n s h c.requires.shown c.requires.bits c.requires.counted (sym c.bit.ensures ∙ c.if-bit.false)
