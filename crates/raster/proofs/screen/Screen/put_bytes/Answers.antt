use Rattle.std.proofs.Common.{◌≡◌, ◌∙◌, sym, ap, ℕ, ◌-◌, List, take, drop, length, arith}
use Rattle.std.proofs.lemmas.List.{take_all, length-drop}
use Rattle.video_ula.specs.Pixels.{row_colours}
use Rattle.raster.specs.Frame.{dots_set}
use Rattle.raster.specs.State.{State}
use Rattle.raster.specs.CodeSteps.{bytes_put}
use Rattle.raster.proofs.Spans.{bytes_are}
use Rattle.raster.proofs.screen.Screen.put_bytes.Goals as goal
use Rattle.raster.proofs.screen.Screen.put_bytes.Goals.{then-draw_row, else-draw_row}

rest_of : (at : ℕ) (ram : List ℕ) → take (length ram - at) (drop at ram) ≡ drop at ram
rest_of at ram = let l = length-drop at ram in take_all (length ram - at) (drop at ram) (omega (arith, l))

pub returns-clause-put : goal.returns-clause-put
returns-clause-put c =
    let s = c.args.self.now in
    let bytes = c.bytes_from-bytes.result in
    let ram = c.args.ram.now in
    let put = λ (f : List ℕ). record s { working = f } in
    elim c.if-draw_row.branch [
      | then-draw_row w ↦
          let drawn = c.draw_row.ensures.drawn w.if-draw_row.true
          ∙ ap (λ (part : List ℕ). dots_set 240 c.self.inside.place.x c.self.inside.place.y (row_colours c.self.inside.ula part bytes.step bytes.count) c.self.inside.working)
          (rest_of bytes.at ram)
          ∙ ap (λ (t : State). dots_set 240 t.place.x t.place.y (row_colours t.ula (drop bytes.at ram) bytes.step bytes.count) t.working) c.self.view_is
          ∙ ap (λ (row : List ℕ). dots_set 240 s.place.x s.place.y row s.working)
          (bytes_are ram c.args.size c.args.ma c.args.ra bytes.count bytes.at bytes.step s.ula c.bytes_from-bytes.ensures.apart) in
          ap (λ (t : State). record t { working = c.draw_row.new.self }) c.self.view_is ∙ ap put drawn
          ∙ ap (λ (k : ℕ). bytes_put ram c.args.size c.args.ma c.args.ra k s) (sym w.result-is)
      | else-draw_row w ↦
          ap (λ (t : State). record t { working = c.draw_row.new.self }) c.self.view_is
          ∙ ap put (c.draw_row.ensures.stays w.if-draw_row.false ∙ ap (λ (t : State). t.working) c.self.view_is)
          ∙ ap (λ (k : ℕ). bytes_put ram c.args.size c.args.ma c.args.ra k s) (sym w.result-is)
    ]
