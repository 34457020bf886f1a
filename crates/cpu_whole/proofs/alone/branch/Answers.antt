use Rattle.std.proofs.Common.{rules, ◌≡◌, false}
use Rattle.cpu_alu.specs.Instructions.{takes_branch}
use Rattle.cpu_whole.proofs.Forms.{branch_past}
use Rattle.cpu_whole.proofs.alone.branch.Goals as goal

pub returns-clause-done : goal.returns-clause-done
returns-clause-done g c =
    λ t some.
    let taken : takes_branch c.args.row.mnemonic c.args.r.now ≡ false = search rules in
    branch_past c.requires.runs c.requires.row c.requires.uses taken c.move_past.ensures
