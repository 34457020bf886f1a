use Rattle.std.proofs.Common.{◌∙◌, sym}
use Rattle.beeb_files.proofs.Held.{bytes_of-first, bytes_of-later, bytes_of-none}
use Rattle.beeb_files.proofs.mem_outlet.MemOutlet.file.Goals as goal

pub returns-then-eq : goal.returns-then-eq
returns-then-eq c =
    rw c.as_slice.ensures.value (sym (c.loop-held.invariant ∙ bytes_of-first _ _ _ c.args.name.now c.in-Some.ensures.steps (cc)))

pub loop-held-preserved : goal.loop-held-preserved
loop-held-preserved c = c.loop-held.invariant ∙ bytes_of-later _ _ _ c.args.name.now c.in-Some.ensures.steps (cc)

pub returns : goal.returns
returns c = sym (c.loop-held.invariant ∙ bytes_of-none _ c.args.name.now c.in-None.ensures.steps.0)
