use Rattle.std.proofs.Common.{rules, ◌≡◌, ◌<◌, ◌∙◌, true, false, Bool, not, ap, sym, refl, arith}
use Rattle.cpu_alu.specs.Addresses.{with_pc_past}
use Rattle.cpu_alu.specs.Instructions.{is_decimal}
use Rattle.cpu_whole.proofs.AtOperand.{loaded, for_loads, decimal_past}
use Rattle.cpu_whole.proofs.operate.load.Goals as goal

no_by : (b : Bool) → not b ≡ true → b ≡ false
no_by false h = refl
no_by true h = sym h

pub returns-clause-done : goal.returns-clause-done
returns-clause-done g c =
    λ t some.
    let r = c.args.r.now in
    let row = c.args.row in
    let went : 0 < c.find-to.result.cycles = omega arith in
    let yes : c.reads.result ≡ true = search rules in
    let read : c.read.result ≡ true = search rules in
    let past : c.move_past.new.self ≡ with_pc_past r row.bytes = c.move_past.ensures in
    let binary : is_decimal row.mnemonic r ≡ false =
    sym (ap (is_decimal row.mnemonic) past ∙ decimal_past row.mnemonic r row.bytes) ∙ no_by (is_decimal row.mnemonic c.move_past.new.self) (sym c.read.ensures.binary ∙ read) in
    loaded c.requires.runs.first c.requires.row c.requires.uses binary (for_loads (c.find-to.ensures.reached t went)) (c.reads.ensures yes) refl
    (rw (c.read.ensures.read read, past, c.byte-byte.ensures))
