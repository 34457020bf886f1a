use Rattle.std.proofs.Common.{rules, ◌≡◌, ◌∙◌, ap, true, ℕ}
use Rattle.beeb_bits.specs.Bits.{bit}
use Rattle.raster.specs.Beam.{is_marked}
use Rattle.raster.specs.contracts.screen.Screen.{the_view}
use Rattle.raster.proofs.Told.{drawn_cell}
use Rattle.raster.proofs.screen.Screen.draw.Goals as goal

pub returns-then-bit : goal.returns-then-bit
returns-then-bit c =
    let on : bit c.self.inside.ula.control 1 ≡ true = search rules in
    drawn_cell c.args.ram.now c.args.size c.args.font.now.font c.args.beam.now (the_view c.self.inside) c.args.self.now _ c.byte_address.result c.is_marked-marked.result
    c.self.view_is on c.byte_address.ensures.value
    (c.is_marked-marked.ensures ∙ ap (λ (k : ℕ). is_marked k c.args.beam.now.cursor c.self.inside.cursor) c.mode-then-bit.ensures) c.draw_cell.ensures
