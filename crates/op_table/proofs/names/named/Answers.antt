use Rattle.std.proofs.Common.{below_more}
use Rattle.op_table.proofs.NameLemmas.{is_named, not_named, none_named}
use Rattle.op_table.proofs.names.named.Goals as goal

pub returns-then-eq : goal.returns-then-eq
returns-then-eq c = is_named c.loop-mnemonic.mnemonic-index _ c.args.upper c.loop-mnemonic-test.true c.if-eq.ensures

pub loop-mnemonic-preserved : goal.loop-mnemonic-preserved
loop-mnemonic-preserved c =
    below_more _ _ c.loop-mnemonic.invariant
    (not_named c.loop-mnemonic.mnemonic-index _ c.args.upper c.loop-mnemonic-test.true c.if-eq.ensures)

pub returns : goal.returns
returns c = none_named c.loop-mnemonic.mnemonic-index c.args.upper c.loop-mnemonic-test.false c.loop-mnemonic.invariant
