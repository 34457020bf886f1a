use Rattle.std.proofs.Common.{arith}
use Rattle.std.proofs.lemmas.Bool.{eqb-false}
use Rattle.crtc6845.proofs.Spans.{span_tells}
use Rattle.crtc6845.proofs.crtc.Crtc.span.Goals as goal

pub returns-clause-told : goal.returns-clause-told
returns-clause-told c =
    let fits = c.inside_clocks-n.ensures.fits in
    span_tells _ c.args.self.now (eqb-false _ _ c.requires.start) fits.character fits.bits.horizontal_total
    (record {
      inside = omega arith;
      shown = c.is_shown-shown.ensures;
      ma = c.address.ensures;
      ra = c.raster_now.ensures;
      cursor = c.has_cursor.ensures;
      here = c.to_sync-to_sync.ensures.here;
      past = c.to_sync-to_sync.ensures.past;
      fields = c.fields_now.ensures;
      within = c.before_other.ensures.within;
      first = c.before_other.ensures.first;
    })
