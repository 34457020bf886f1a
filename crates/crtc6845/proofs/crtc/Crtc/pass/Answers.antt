use Rattle.std.proofs.Common.{◌∙◌, sym}
use Rattle.std.proofs.lemmas.Bool.{eqb-false}
use Rattle.crtc6845.proofs.Spans.{pass_is}
use Rattle.crtc6845.proofs.crtc.Crtc.pass.Goals as goal

pub returns : goal.returns
returns c =
    let fits = c.move_on.ensures.fits in
    c.move_on.ensures.value ∙ sym (pass_is c.args.n c.args.self.now (eqb-false _ _ c.requires.start) fits.character fits.bits.horizontal_total c.requires.inside)
