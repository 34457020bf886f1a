use Rattle.std.proofs.Common.{rules, ◌≡◌, ap, false}
use Rattle.cpu_whole.specs.CodeWays.{pulls_flags}
use Rattle.cpu_whole.proofs.Forms.{pulled}
use Rattle.cpu_whole.proofs.RowBytes.{is_alone, of_alone}
use Rattle.cpu_whole.proofs.alone.pull.Goals as goal

pub returns-clause-done : goal.returns-clause-done
returns-clause-done g c =
    λ t some.
    let fixed : pulls_flags c.args.row.mnemonic ≡ false = search rules in
    let one : c.args.row.bytes ≡ 1 = of_alone c.args.part _ c.requires.row (ap is_alone c.requires.uses) (λ spare e. cc) in
    pulled c.requires.runs c.requires.row g.M.Plain.is_plain c.requires.uses fixed
    (rw (c.pull.ensures, c.move_stack.ensures, c.move_past.ensures, one, c.low_byte-byte.ensures.byte, c.stack.ensures))
