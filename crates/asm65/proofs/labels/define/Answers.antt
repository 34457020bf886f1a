use Rattle.asm65.proofs.PassLemmas.{is_new, value_define}
use Rattle.asm65.proofs.labels.define.Goals as goal

pub returns-clause-new : goal.returns-clause-new
returns-clause-new c =
    is_new c.args.labels.now c.args.label c.in-Some.name c.in_ok-earlier.earlier c.is_none.result c.in-Some.is c.in_ok-earlier.ensures.old c.is_none.ensures

pub returns-clause-labelled : goal.returns-clause-labelled
returns-clause-labelled c =
    λ new q. value_define c.args.labels.now c.insert.new.self c.args.label c.in-Some.name c.args.address c.in_ok-earlier.earlier c.is_none.result q
    c.in-Some.is c.in_ok-earlier.ensures.updates c.in_ok-earlier.ensures.old c.is_none.ensures new
