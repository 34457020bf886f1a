use Rattle.std.proofs.Common.{arith, None}
use Rattle.op_table.proofs.NameLemmas.{named-mnemonic_of, none_of_length, three_letters}
use Rattle.op_table.proofs.names.Mnemonic.of_name.Goals as goal

pub returns-in_default-clause-value : goal.returns-in_default-clause-value
returns-in_default-clause-value c =
    named-mnemonic_of c.args.text.now None (none_of_length c.args.text.now (λ e. omega (arith, c.in_default.len_below)))

pub returns-in_default-2-clause-value : goal.returns-in_default-2-clause-value
returns-in_default-2-clause-value c =
    named-mnemonic_of c.args.text.now None (none_of_length c.args.text.now (λ e. let h = c.in_default.len_at_least in omega arith))

pub returns-clause-named : goal.returns-clause-named
returns-clause-named c =
    let letters = three_letters c.args.text.now _ _ _ (omega arith)
    c.to_ascii_uppercase.ensures.value c.to_ascii_uppercase-2.ensures.value c.to_ascii_uppercase-3.ensures.value in
    rw letters at c.named.ensures

pub returns-clause-value : goal.returns-clause-value
returns-clause-value c = named-mnemonic_of c.args.text.now c.named.result (returns-clause-named c)
