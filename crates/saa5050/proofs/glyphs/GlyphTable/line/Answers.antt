use Rattle.std.proofs.Common.{ℕ, List, ◌+◌, ◌-◌, ◌*◌, ap, slice_index, ◌∙◌}
use Rattle.rom_set.specs.Roms.{Roms}
use Rattle.beeb_bits.specs.Bits.{bit}
use Rattle.saa5050.specs.Shapes.{letter_dot}
use Rattle.saa5050.proofs.LetterLines.{looked-up}
use Rattle.saa5050.proofs.glyphs.GlyphTable.line.Goals as goal

pub returns : goal.returns
returns c x inside =
    ap (λ (word : ℕ). bit word (11 - x)) c.line_at.ensures
    ∙ ap (λ (lines : List ℕ). bit (slice_index lines ((c.args.code - 0x20) * 20 + c.args.line)) (11 - x)) c.deref.ensures.value
    ∙ looked-up c.self.inside.roms.font c.self.inside.lines.items c.args.code c.args.line c.requires.code.0 c.requires.code.1 c.requires.line c.self.invariant.each x inside
    ∙ ap (λ (roms : Roms). letter_dot roms.font c.args.code c.args.line x) c.self.view_is
