use Rattle.std.proofs.Common.{◌∙◌, sym, inr}
use Rattle.std.proofs.lemmas.Bool.{not-true}
use Rattle.asm65.proofs.passes.place.Goals as goal

pub returns-in-Some-statement_fault : goal.returns-in-Some-statement_fault
returns-in-Some-statement_fault c =
    let new = not-true _ (sym c.in-Ok.ensures.new ∙ c.if-not-new.false) in
    inr (rw (c.in-Some.is, ← c.if-is_formless.ensures, new) (sym c.in-Some-statement_fault.ensures))
