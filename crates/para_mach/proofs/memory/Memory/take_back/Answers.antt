use Rattle.std.proofs.Common.{◌∙◌, sym, ap, ℕ, List}
use Rattle.para_mach.specs.declared.notes.Stood.{Stood}
use Rattle.para_mach.specs.State.{MemoryState}
use Rattle.para_mach.specs.CodeNotes.{put_back}
use Rattle.para_mach.proofs.Noted.{put_back_last}
use Rattle.para_mach.proofs.memory.Memory.take_back.Goals as goal

pub loop-stood-preserved : goal.loop-stood-preserved
loop-stood-preserved c =
    ap (λ (m : MemoryState). record m { ram = put_back c.pop.new.self.items m.ram }) c.store.ensures
    ∙ ap (λ (r : List ℕ). record c.loop-stood.self { ram = r }) (sym (put_back_last c.pop.new.self.items c.in-Some.stood c.loop-stood.self.ram))
    ∙ ap (λ (l : List Stood). record c.loop-stood.self { ram = put_back l c.loop-stood.self.ram }) (sym c.in-Some.ensures.items)
    ∙ c.loop-stood.invariant
