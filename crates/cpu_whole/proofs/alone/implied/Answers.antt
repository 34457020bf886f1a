use Rattle.std.proofs.Common.{rules, ◌≡◌, ap, false}
use Rattle.cpu_whole.specs.CodeWays.{moves_i}
use Rattle.cpu_whole.proofs.Forms.{implied}
use Rattle.cpu_whole.proofs.RowBytes.{is_alone, of_alone}
use Rattle.cpu_whole.proofs.alone.implied.Goals as goal

pub returns-in_default-clause-done : goal.returns-in_default-clause-done
returns-in_default-clause-done g c =
    λ t some.
    let fixed : moves_i c.args.row.mnemonic ≡ false = search rules in
    let one : c.args.row.bytes ≡ 1 = of_alone c.args.part _ c.requires.row (ap is_alone c.requires.uses) (λ spare e. c.in_default.not-Spare spare) in
    implied c.requires.runs c.requires.row c.requires.uses c.in_default.not-Spare fixed (rw (c.implied.ensures, c.move_past.ensures, one))
