use Rattle.std.proofs.Common.{◌∙◌, sym}
use Rattle.beeb_files.proofs.Held.{bytes_of-first, bytes_of-later, bytes_of-past, drop-here}
use Rattle.beeb_files.proofs.mem_shelf.find.Goals as goal

pub returns-then-eq : goal.returns-then-eq
returns-then-eq c =
    let here = drop-here c.args.files.now _ _ c.loop-held-test.true c.loop-held-item.is in
    rw c.as_slice.ensures.value (sym (c.loop-held.invariant ∙ bytes_of-first _ _ _ c.args.name.now here (cc)))

pub loop-held-preserved : goal.loop-held-preserved
loop-held-preserved c =
    let here = drop-here c.args.files.now _ _ c.loop-held-test.true c.loop-held-item.is in
    c.loop-held.invariant ∙ bytes_of-later _ _ _ c.args.name.now here (cc)

pub returns : goal.returns
returns c = sym (c.loop-held.invariant ∙ bytes_of-past c.args.files.now _ c.args.name.now c.loop-held-test.false)
