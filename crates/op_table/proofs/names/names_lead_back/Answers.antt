use Rattle.op_table.proofs.NameLemmas.{mnemonic_of-iff, mnemonic_of-name_of, name_of-letters}
use Rattle.op_table.proofs.names.names_lead_back.Goals as goal

pub returns-clause-read : goal.returns-clause-read
returns-clause-read c = mnemonic_of-iff

pub returns-clause-back : goal.returns-clause-back
returns-clause-back c = mnemonic_of-name_of

pub returns-clause-letters : goal.returns-clause-letters
returns-clause-letters c = name_of-letters
