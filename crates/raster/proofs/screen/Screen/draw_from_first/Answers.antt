use Rattle.std.proofs.Common.{◌≡◌, ◌∙◌, sym, ap, subst, ℕ, ◌+◌, ◌-◌, ◌<◌, ◌≤◌, min, false, arith}
use Rattle.beeb_bits.specs.Bits.{bit}
use Rattle.crtc6845.specs.Spans.{TellsSpan}
use Rattle.raster.specs.State.{State}
use Rattle.raster.proofs.screen.Screen.draw_from_first.Goals as goal

few : (k put seen n most from clocks : ℕ) → k < put - 1 → put ≤ seen → seen ≤ n → n ≡ min most (from + 1) → from ≡ clocks → k < clocks
few k put seen n most from clocks a b c d e = omega (arith, a, b, c, d, e)

fits : (put seen n most from clocks to : ℕ) → put ≤ seen → seen ≤ n → n ≡ min most (from + 1) → from ≡ clocks → clocks ≤ to → put - 1 ≤ to
fits put seen n most from clocks to a b c d e = omega (arith, a, b, c, d, e)

pub returns-clause-behind : goal.returns-clause-behind
returns-clause-behind c = λ some.
    let s = c.args.self.now in
    let span = c.span-span.result in
    let told : TellsSpan span s.crtc = subst (λ (t : State). TellsSpan span t.crtc) c.self.view_is c.span-span.ensures.told in
    let control : c.mode.result ≡ s.ula.control = c.mode.ensures ∙ ap (λ (t : State). t.ula.control) c.self.view_is in
    let bits : bit s.ula.control 1 ≡ false = ap (λ (k : ℕ). bit k 1) (sym control) ∙ sym c.bit-else-bit.ensures ∙ c.if-bit-2.false in
    let dots : bit c.args.first.now.ra 3 ≡ false = sym c.bit.ensures ∙ c.if-bit.false in
    let yes = c.if-not-follows.false in
    let follows = c.follows.ensures in
    record {
      span = span;
      plain = record {
        told = λ k below. told k (few _ _ _ _ _ _ _ below c.put_bytes.ensures.most c.inside-n.ensures.most c.min-n.ensures c.from.ensures);
        cursor = follows.cursor yes;
        sync = λ shown.
            fits _ _ _ _ _ _ _ c.put_bytes.ensures.most c.inside-n.ensures.most c.min-n.ensures c.from.ensures (c.span-span.ensures.sync shown (follows.sync yes));
        far = c.is_cursor_far.ensures.far c.if-not-is_cursor_far.false;
      };
      shown = follows.shown yes;
      ma = follows.ma yes;
      ra = follows.ra yes;
      first_shown = c.if-not-first.false;
      first_cursor = c.if-first.false;
      bits = bits;
      dots = dots;
      counted = c.is_cursor_far.ensures.counted;
    }
